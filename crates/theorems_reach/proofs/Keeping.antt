-- What each call makes of an end stands as that end stood: block by block.
use Prim.Native.Nat.{ℕ, ◌<◌, ◌-◌}
use mathlib.Core.Path.{◌≡◌, refl, ◌∙◌}
use mathlib.Core.Bool.{Bool, true, false, cond, or-true}
use native.Mathlib.Omega.{arith}
use borrow.Author.Tests.{leb-false}
use Rattle.frame.specs.Frame.{Message, accepted, decode, local_of}
use Rattle.octets.proofs.Bools.{by_cond, not_both, whether}
use Rattle.link_discovery.specs.Standing.{is_any, role_in, is_lost, lost_count}
use Rattle.link_limit.specs.Limit.{second_ticks, closes, turned_meter}
use Rattle.octets.specs.Bits.{bit}
use Rattle.link_peer.specs.Peers.{is_held}
use Rattle.link_discovery.specs.declared.Discovery.{Discovery}
use Rattle.link_discovery.specs.declared.Discovery.TheVariants.{Fault, ActiveSendLocal, PassiveWait, SendLocalRemote, SendLocalRemoteOk, SendAny}
use Rattle.link_loopback.specs.declared.Role.{Role}
use Rattle.link_limit.specs.declared.Meter.{Meter}
use Rattle.link_end.specs.declared.Link.{Link}
use Rattle.link_end.specs.declared.End.{End}
use Rattle.link_end.specs.declared.Report.{Report}
use Rattle.link_end.specs.declared.Report.TheVariants.{LinkUp, LinkDown, DyingGasp, CriticalEvent}
use Rattle.link_end.specs.declared.Heard.{Heard}
use Rattle.link_end.specs.Parts.{with_link, no_peer, discovery_of, in_any, faulted, settled, with_up, with_lost}
use Rattle.link_end.specs.Ticking.{missed, ticked}
use Rattle.link_end.specs.Reporting.{link_up, link_down, reported}
use Rattle.link_end.specs.Taking.{Taken, learned, last_after, acted, taken_up, taken}
use Rattle.link_end.specs.Ranges.{record_fits, last_fits, never, idle, blank}
use Rattle.theorems_reach.specs.Machine.{Input, tick, report, receive, request}
use Rattle.theorems_reach.specs.Premises.{OfOctets}
use Rattle.theorems_reach.proofs.Coming.{Made, ticks, reports, hears}
use Rattle.theorems_reach.proofs.Digits.{turned_written}
use Rattle.theorems_reach.proofs.Standing.{Fitting, Bounded, relinked, remetered, Stands, Rests}
use Rattle.theorems_reach.proofs.Hearing.{HeardFits, heard_fits, kept_fits, record_fits_lem, record_beside, last_fits_lem}
use Rattle.link_end.specs.Hearing.{action_of, heard_of}

-- ---- the moves

idle_in : (d : Discovery) (r : Role) → is_any d ≡ false → idle (role_in d r) ≡ true
idle_in Fault r f = refl
idle_in ActiveSendLocal r f = refl
idle_in PassiveWait r f = refl
idle_in SendLocalRemote r f = refl
idle_in SendLocalRemoteOk r f = refl
idle_in SendAny r f = not_both refl f

-- "Leaving SEND_ANY makes the role Idle (HOUSE)."
pub settled_rests : (e : End) → Rests (settled e)
unfolding settled in_any discovery_of
settled_rests e f = idle_in (discovery_of e) e.role f

-- FAULT with the link down is not SEND_ANY
pub down_any : (e : End) → e.link.up ≡ false → in_any e ≡ false
unfolding in_any discovery_of
down_any e h = rw h

-- in SEND_ANY a record is held
any_held : (e : End) → in_any e ≡ true → is_held e.peer.held ≡ true
unfolding in_any discovery_of
any_held e h = whether (is_held e.peer.held) (λ t. t) (λ f. by e.link.up (bit 0 e.settings.configuration) (rw f at h))
  where
    by : (up active : Bool) → is_any (cond up (cond active ActiveSendLocal PassiveWait) Fault) ≡ true → is_held e.peer.held ≡ true
    by true true h = not_both h refl
    by true false h = not_both h refl
    by false active h = not_both h refl

-- FAULT clears what is kept of the peer
no_peer_fits : Fitting no_peer
unfolding record_fits last_fits
no_peer_fits = record { kept = omega arith; held = refl; last = refl; beside = refl }

fault_stands : (e : End) → Stands e → (l : Link) → l.lost < lost_count → Stands (with_link l (faulted e))
unfolding faulted blank
fault_stands e s l h = relinked s h no_peer_fits (λ _. refl)

-- ---- a tick

missed_stands : (e : End) → Stands e → Stands (missed e)
unfolding missed
missed_stands e s =
    by_cond Stands e.link.up
    (λ up. by_cond Stands (is_lost e.link.lost)
    (λ _. fault_stands e s (with_lost 0 e.link) (omega arith))
    (λ f. relinked s (omega (arith, leb-false (lost_count - 1) e.link.lost f)) s.peer (λ z. not_both up z)))
    (λ _. s)

pub turned_meter_bounded : (m : Meter) → Bounded m → Bounded (turned_meter m)
unfolding turned_meter closes
turned_meter_bounded m b =
    record {
      ticks = by_cond (λ (n : ℕ). n < second_ticks) (closes m) (λ _. omega arith) (λ f. omega (arith, leb-false (second_ticks - 1) m.ticks f));
      intervals = omega arith;
      written = omega (arith, turned_written m, b.written);
    }

ticked_stands : (e : End) → Stands e → Stands (ticked e)
unfolding ticked settled
ticked_stands e s = remetered (missed_stands e s) (turned_meter_bounded e.meter s.meter)

ticked_rests : (e : End) → Rests (ticked e)
unfolding ticked in_any discovery_of
ticked_rests e f = settled_rests (missed e) f

-- ---- a report

reported_stands : (r : Report) (e : End) → Stands e → Stands (reported r e)
unfolding link_up link_down
reported_stands LinkUp e s =
    by_cond Stands e.link.up (λ _. s) (λ _. relinked s (omega arith) s.peer (λ z. not_both refl z))
reported_stands LinkDown e s =
    by_cond Stands e.link.up (λ _. fault_stands e s (with_up false e.link) s.lost) (λ _. s)
reported_stands (DyingGasp on) e s = s
reported_stands (CriticalEvent on) e s = s

reported_rests : (r : Report) (e : End) → Rests e → Rests (reported r e)
unfolding link_up link_down faulted in_any discovery_of
reported_rests LinkUp e h = by_cond Rests e.link.up (λ _. h) (λ f _. h (down_any e f))
reported_rests LinkDown e h = by_cond Rests e.link.up (λ _ _. refl) (λ _. h)
reported_rests (DyingGasp on) e h = h
reported_rests (CriticalEvent on) e h = h

-- ---- an accepted frame

-- a property of what a frame makes of an end, from each of the three ends that it may be
pub by_taken : (m : Heard) (e : End) (P : End → Type 0) → (e.link.up ≡ false → P e)
    → (e.link.up ≡ true → in_any (learned m e) ≡ false → P (learned m e))
    → (e.link.up ≡ true → in_any (learned m e) ≡ true → (b : Bool) → P (acted m b (learned m e)))
    → P (taken m e).end
unfolding taken taken_up
by_taken m e P down learns acts =
    by_cond (λ (t : Taken). P t.end) e.link.up
    (λ up. by_cond (λ (t : Taken). P t.end) (in_any (learned m e)) (λ t. acts up t _) (λ n. learns up n))
    down

module _ (m : Message) (h : HeardFits m.body) (e : End) (s : Stands e) where
  learned_stands : e.link.up ≡ true → Stands (learned (heard_of m) e)
  unfolding learned settled
  learned_stands up =
      relinked s (omega arith)
      (record {
        kept = kept_fits m.flags e.peer.kept s.peer.kept;
        held = record_fits_lem (local_of m.body) e.peer.held h.local s.peer.held;
        last = s.peer.last;
        beside = record_beside (local_of m.body) e.peer s.peer.beside;
      })
      (λ z. not_both up z)

  acted_stands : (b : Bool) (x : End) → x.link.up ≡ true → in_any x ≡ true → Stands x → Stands (acted (heard_of m) b x)
  unfolding acted
  acted_stands b x up any t =
      relinked t t.lost
      (record {
        kept = t.peer.kept;
        held = t.peer.held;
        last = last_fits_lem (action_of m.body) x.peer.last h.number t.peer.last;
        beside = rw (any_held x any) (or-true (never (last_after (action_of m.body) x.peer.last)));
      })
      (λ z. not_both up z)

  learned_up : (learned (heard_of m) e).link.up ≡ e.link.up
  unfolding learned settled
  learned_up = refl

  taken_stands : Stands (taken (heard_of m) e).end
  taken_stands =
      by_taken (heard_of m) e Stands (λ _. s) (λ up _. learned_stands up)
      (λ up any b. acted_stands b (learned (heard_of m) e) (learned_up ∙ up) any (learned_stands up))

taken_rests : (m : Message) (e : End) → Rests e → Rests (taken (heard_of m) e).end
unfolding learned acted in_any discovery_of
taken_rests m e h = by_taken (heard_of m) e Rests (λ _. h) (λ _ n _. settled_rests _ n) (λ _ t _ n. not_both t n)

-- ---- what is made of an end by any of them

-- what is heard of a frame fits what is kept of it, as it does of every frame of octets
abbrev pub InputFits : Input → Type 0
InputFits tick = Unit {0}
InputFits (report r) = Unit {0}
InputFits (receive f) = (m : Message) → decode f ≡ accepted m → HeardFits m.body
InputFits (request q) = Unit {0}

pub octets_fit : (i : Input) → OfOctets i → InputFits i
octets_fit tick o = tt
octets_fit (report r) o = tt
octets_fit (receive f) o = λ m d. heard_fits f m o d
octets_fit (request q) o = tt

pub made_stands : (e : End) (i : Input) (t : Taken) → Made e i t → InputFits i → Stands e → Stands t.end
made_stands e i t ticks o s = ticked_stands e s
made_stands e i t (reports r) o s = reported_stands r e s
made_stands e i t (hears f m d) o s = taken_stands m (o m d) e s

pub made_rests : (e : End) (i : Input) (t : Taken) → Made e i t → Rests e → Rests t.end
made_rests e i t ticks h = ticked_rests e
made_rests e i t (reports r) h = reported_rests r e h
made_rests e i t (hears f m d) h = taken_rests m e h
