-- Every call takes an end's discovery by the paper's moves, from where it stood, or from FAULT where the call enters it: on
-- link down or on the lost-link count, and on nothing else. There is one place only where the moves come to rest, whichever are
-- taken first. This is so of any end.
use Rattle.std.specs.Prelude.{Option, None, Some}
use Prim.Native.Nat.{◌+◌}
use mathlib.Core.Path.{◌≡◌, refl, sym, ap, ◌∙◌, subst}
use mathlib.Core.Bool.{Bool, true, false, cond, ◌&&◌}
use borrow.Author.Tests.{eqb-true, eqb-false}
use lib.Dec.{eqb}
use Rattle.frame_body.specs.declared.Information.{Information}
use Rattle.octets.proofs.Bools.{by_cond, never, and_l, and_r, whether}
use Rattle.octets.specs.Bits.{bit}
use Rattle.link_peer.specs.Peers.{is_held, satisfied, record_from}
use Rattle.link_loopback.specs.declared.Role.TheVariants.{Idle}
use Rattle.link_discovery.specs.declared.Discovery.{Discovery}
use Rattle.link_discovery.specs.declared.Discovery.TheVariants.{Fault}
use Rattle.link_discovery.specs.Standing.{is_lost}
use Rattle.link_discovery.specs.Moves.{Borne}
use Rattle.link_discovery.proofs.Resting.{borne, settles, only_there}
use Rattle.link_end.specs.declared.End.{End}
use Rattle.link_end.specs.declared.Heard.{Heard}
use Rattle.link_end.specs.declared.Report.{Report}
use Rattle.link_end.specs.declared.Report.TheVariants.{LinkUp, LinkDown, DyingGasp, CriticalEvent}
use Rattle.link_end.specs.Parts.{with_link, no_peer, discovery_of, settled, faulted, with_lost}
use Rattle.link_end.specs.Taking.{learned, acted, taken}
use Rattle.link_end.specs.Ticking.{missed, ticked}
use Rattle.link_end.specs.Reporting.{link_up, link_down, reported}
use Rattle.theorems_reach.specs.Machine.{Request, start, stop, variables, notify, tell, respond, Input, report, Call, asked_of, outcome_of}
use Rattle.theorems_reach.specs.Moving.{SettlesIn, enters_by, enters_fault, moves_from}
use Rattle.theorems_reach.proofs.Keeping.{by_taken}
use Rattle.theorems_reach.proofs.Losing.{Footing, footing_of, rests}
use Rattle.theorems_reach.proofs.Refusing.{refused_end}
use Rattle.theorems_reach.proofs.Effects.{Face, Becomes, ticks, reports, hears, asks, effect_of}

-- ---- a state that an end bears out

abbrev BorneOn : Discovery → Footing → Type 0
BorneOn d f = Borne f.link.up (bit 0 f.settings.configuration) (is_held f.peer.held) d

abbrev BorneBy : Discovery → End → Type 0
BorneBy d e = BorneOn d (footing_of e)

-- where an end stands is borne out by one whose link and settings are the same, and whose record is not dropped
stays : (e x : End) → x.link.up ≡ e.link.up → x.settings ≡ e.settings → (is_held e.peer.held ≡ true → is_held x.peer.held ≡ true)
    → BorneBy (discovery_of e) x
unfolding discovery_of
stays e x u s k =
    rw (u, s)
    (borne e.link.up (bit 0 e.settings.configuration) (is_held e.peer.held) (satisfied e.settings e.peer.held) (eqb e.peer.kept 2)
    (is_held x.peer.held) k)

same : (e : End) → BorneBy (discovery_of e) e
same e = stays e e refl refl (λ k. k)

-- with the link down discovery stands in FAULT
down_stands : (e : End) → e.link.up ≡ false → discovery_of e ≡ Fault
unfolding discovery_of
down_stands e f = rw f

-- ---- each input

-- by a test that enters FAULT
by_fault : (b : Bool) (x y : End) (d : Discovery) → (b ≡ false → BorneBy d y) → BorneBy (cond b Fault d) (cond b x y)
by_fault true x y d h = tt
by_fault false x y d h = h refl

module _ (e : End) where
  -- the link lost, and a tick more
  abbrev lost : End
  lost = with_link (with_lost 0 e.link) (faulted e)

  abbrev later : End
  later = with_link (with_lost (e.link.lost + 1) e.link) e

  missed_borne : BorneBy (cond (e.link.up && is_lost e.link.lost) Fault (discovery_of e)) (missed e)
  unfolding missed
  missed_borne = by e.link.up
    where
      by : (up : Bool) → BorneBy (cond (up && is_lost e.link.lost) Fault (discovery_of e)) (cond up (cond (is_lost e.link.lost) lost later) e)
      by true = by_fault (is_lost e.link.lost) lost later (discovery_of e) (λ _. stays e later refl refl (λ k. k))
      by false = same e

  ticked_borne : BorneBy (cond (e.link.up && is_lost e.link.lost) Fault (discovery_of e)) (ticked e)
  unfolding ticked settled
  ticked_borne = missed_borne

  reported_borne : (r : Report) → BorneBy (cond (enters_by (report r) e) Fault (discovery_of e)) (reported r e)
  unfolding link_up link_down
  reported_borne LinkUp =
      by_cond (BorneBy (discovery_of e)) e.link.up (λ _. same e) (λ f. rw (down_stands e f) tt)
  reported_borne LinkDown = by_fault e.link.up _ e (discovery_of e) (λ _. same e)
  reported_borne (DyingGasp on) = same e
  reported_borne (CriticalEvent on) = same e

  taken_borne : (m : Heard) → BorneBy (discovery_of e) (taken m e).end
  unfolding learned settled acted
  taken_borne m = by_taken m e (BorneBy (discovery_of e)) (λ _. same e) (λ _ _. kept) (λ _ _ _. kept)
    where
      held_stays : (l : Option Information) (r : Option Information) → is_held r ≡ true → is_held (record_from l r) ≡ true
      held_stays None r k = k
      held_stays (Some i) r k = refl

      kept : BorneBy (discovery_of e) (learned m e)
      kept = stays e (learned m e) refl refl (held_stays m.local e.peer.held)

  asked_borne : (q : Request) → BorneBy (discovery_of e) (asked_of q e).next
  asked_borne start = same e
  asked_borne stop = same e
  asked_borne (variables ds) = same e
  asked_borne (notify vs) = same e
  asked_borne (tell oui x) = same e
  asked_borne (respond ns vs ds) = same e

  becomes_borne : (i : Input) (x : End) → Becomes e i x → BorneBy (cond (enters_by i e) Fault (discovery_of e)) x
  becomes_borne i x ticks = ticked_borne
  becomes_borne i x (reports r) = reported_borne r
  becomes_borne i x (hears f m d) = taken_borne _
  becomes_borne i x (asks q a p) = asked_borne q

-- ---- every call

call_borne : (c : Call) (e : End) → BorneBy (moves_from c e) (outcome_of c e).end
call_borne c e =
    whether (eqb (outcome_of c e).answer 0)
    (λ t.
    let x = effect_of c e (eqb-true (outcome_of c e).answer 0 t) in
    let d = cond (enters_by c.input e) Fault (discovery_of e) in
    rw t (subst (λ (f : Face). BorneOn d f.footing) (sym x.face) (becomes_borne e c.input x.next x.how)))
    (λ f. rw f (subst (BorneBy (discovery_of e)) (sym (refused_end c e (eqb-false (outcome_of c e).answer 0 f))) (same e)))

-- the moves lead from there to where discovery stands after the call
pub call_moves : (c : Call) (e : End) → SettlesIn (outcome_of c e).end (moves_from c e) (discovery_of (outcome_of c e).end)
unfolding discovery_of
call_moves c e = settles _ _ _ _ _ (moves_from c e) (call_borne c e)

-- and nowhere else
pub call_moves_only : (c : Call) (e : End) (d : Discovery) → SettlesIn (outcome_of c e).end (moves_from c e) d → d ≡ discovery_of (outcome_of c e).end
unfolding discovery_of
call_moves_only c e d h = only_there _ _ _ _ _ (moves_from c e) d (call_borne c e) h

-- ---- "Clears peer record, kept peer field, role and last event number received."

ticked_clears : (e : End) → e.link.up ≡ true → is_lost e.link.lost ≡ true → ((ticked e).peer ≡ no_peer) × ((ticked e).role ≡ Idle)
unfolding ticked settled missed faulted
ticked_clears e u l = (rw (u, l), rests (missed e) (rw (u, l)))

down_clears : (e : End) → e.link.up ≡ true → ((link_down e).peer ≡ no_peer) × ((link_down e).role ≡ Idle)
unfolding link_down faulted
down_clears e u = (rw u, rw u)

becomes_clears : (e : End) (i : Input) (x : End) → Becomes e i x → enters_by i e ≡ true → (x.peer ≡ no_peer) × (x.role ≡ Idle)
becomes_clears e i x ticks h = ticked_clears e (and_l e.link.up (is_lost e.link.lost) h) (and_r e.link.up (is_lost e.link.lost) h)
becomes_clears e i x (reports LinkUp) h = never h
becomes_clears e i x (reports LinkDown) h = down_clears e h
becomes_clears e i x (reports (DyingGasp on)) h = never h
becomes_clears e i x (reports (CriticalEvent on)) h = never h
becomes_clears e i x (hears f m d) h = never h
becomes_clears e i x (asks q a p) h = never h

pub fault_clears : (c : Call) (e : End) → enters_fault c e ≡ true → ((outcome_of c e).end.peer ≡ no_peer) × ((outcome_of c e).end.role ≡ Idle)
fault_clears c e h =
    let accepted = and_l (eqb (outcome_of c e).answer 0) (enters_by c.input e) h in
    let x = effect_of c e (eqb-true (outcome_of c e).answer 0 accepted) in
    let cleared = becomes_clears e c.input x.next x.how (and_r (eqb (outcome_of c e).answer 0) (enters_by c.input e) h) in
    (ap (λ (f : Face). f.footing.peer) x.face ∙ cleared.0, ap (λ (f : Face). f.role) x.face ∙ cleared.1)
