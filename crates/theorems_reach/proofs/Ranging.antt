-- Every end that calls make of a fresh one is ranged: the lost-link count stays below 50, fewer than ten ticks are counted of a timer
-- second and at most ten frames of a stretch, the kept field is at most 2, a last event number is kept only beside a record, a role
-- other than Idle stands in SEND_ANY and is one that the settings allow, nothing is owed where it is not allowed, with the link
-- down no peer record is held, and every number fits its octets.
use Prim.Native.Nat.{ℕ, ◌-◌, ◌^◌, ◌<◌}
use mathlib.Core.Path.{◌≡◌, refl, sym, subst, ◌∙◌}
use mathlib.Core.List.{List, [], ◌∷◌}
use mathlib.Core.Bool.{Bool, true, false}
use native.Mathlib.Omega.{arith}
use borrow.Author.Tests.{ltb-true}
use lib.ListN.{length}
use Rattle.octets.proofs.Bools.{by_cond, never, and_l, not_both, whether}
use Rattle.link_limit.specs.Limit.{most_frames, stretch_intervals, written_frames, has_room, charged_meter}
use Rattle.link_limit.specs.Owing.{following}
use Rattle.link_loopback.specs.Loopback.{role_fits}
use Rattle.link_limit.specs.declared.Meter.{Meter}
use Rattle.link_peer.specs.declared.Settings.{Settings}
use Rattle.link_end.specs.declared.End.{End}
use Rattle.link_end.specs.declared.News.{News}
use Rattle.link_end.specs.Taking.{Taken}
use Rattle.link_end.specs.Parts.{discovery_of, in_any}
use Rattle.link_end.specs.Sending.{octet_changed, allowed, fault_flag_of, dues, sends, sent}
use Rattle.link.specs.Outcomes.{Outcome, concluded}
use Rattle.link_end.specs.Granting.{granted}
use Rattle.link_end.specs.Ranges.{idle, ranged}
use Rattle.theorems_reach.specs.Machine.{Request, start, stop, variables, notify, tell, respond, Input, Call, asked_of, outcome_of}
use Rattle.theorems_reach.specs.Runs.{after}
use Rattle.theorems_reach.specs.Premises.{Accepted, OfOctets, AllOfOctets}
use Rattle.theorems_reach.proofs.Coming.{Made, dues_after, Comes, refuses, concludes, grants, comes}
use Rattle.theorems_reach.proofs.Digits.{present_room, charged_newest}
use Rattle.theorems_reach.proofs.Standing.{Bounded, remetered, renumbered, Stands, Rests, Fits, Ranged, ranged_is, is_ranged, fresh_is}
use Rattle.theorems_reach.proofs.Keeping.{InputFits, octets_fit, made_stands, made_rests}
use Rattle.theorems_reach.proofs.Staying.{run_settings}
use Rattle.theorems_reach.proofs.Roles.{made_fits, asked_fits}
use Rattle.theorems_reach.proofs.Passing.{passes_grant}

-- ---- the revision, and what is owed

wraps : (n : ℕ) → following n < 2 ^ 16
wraps n = omega arith

dues_ranged : (before : End) (due : Bool) (e : End) → Stands e → Rests e → Fits e → Ranged (dues before due e)
unfolding dues in_any allowed discovery_of fault_flag_of
dues_ranged before due e s r f =
    let n = e.own.revision in
    record {
      stands = renumbered s
          (by_cond (λ (k : ℕ). k < 2 ^ 16) (octet_changed before.role e.role) (λ _. wraps n) (λ _. s.revision)) s.number;
      rests = r;
      fits = f;
      owes = λ h. and_l (allowed e) _ h;
    }

-- ---- a frame is written

pub charged_meter_bounded : (m : Meter) → Bounded m → Bounded (charged_meter m)
unfolding has_room charged_meter written_frames
charged_meter_bounded m b =
    by_cond (λ (n : ℕ). Bounded (record { ticks = m.ticks; intervals = n })) (has_room m)
    (λ t.
    let one = charged_newest m t (stretch_intervals - 1) in
    record {
      ticks = b.ticks;
      intervals = omega (arith, b.intervals, present_room m t);
      written = omega (arith, ltb-true (written_frames m) most_frames t, rw t at one);
    })
    (λ _. b)

pub sent_ranged : (e : End) → Ranged e → Ranged (sent e)
unfolding sent in_any discovery_of
sent_ranged e r =
    record {
      stands = remetered r.stands (charged_meter_bounded e.meter r.stands.meter);
      rests = r.rests;
      fits = r.fits;
      owes = λ z. never z;
    }

concluded_ranged : (octets : ℕ) (shown : News) (e : End) → Ranged e → Ranged (concluded octets shown e).end
unfolding concluded
concluded_ranged octets shown e r =
    by_cond (λ (o : Outcome). Ranged o.end) (sends e) (λ _. sent_ranged e r) (λ _. r)

-- ---- requests

asked_stands : (q : Request) (e : End) → Stands e → Stands (asked_of q e).next
asked_stands start e s = s
asked_stands stop e s = s
asked_stands (variables ds) e s = s
asked_stands (notify vs) e s = renumbered s s.revision (wraps e.own.number)
asked_stands (tell oui x) e s = s
asked_stands (respond ns vs ds) e s = s

pub asked_any : (q : Request) (e : End) → in_any (asked_of q e).next ≡ in_any e
unfolding in_any discovery_of
asked_any start e = refl
asked_any stop e = refl
asked_any (variables ds) e = refl
asked_any (notify vs) e = refl
asked_any (tell oui x) e = refl
asked_any (respond ns vs ds) e = refl

granted_ranged : (before e : End) → Ranged (dues before false e) → Ranged (granted before e)
unfolding granted dues in_any allowed discovery_of fault_flag_of
granted_ranged before e r =
    record {
      stands = remetered r.stands (charged_meter_bounded e.meter r.stands.meter);
      rests = r.rests;
      fits = r.fits;
      owes = r.owes;
    }

-- ---- every call

-- what a tick, a report or an accepted frame comes to before its frame is written
pub made_ranged : (e : End) (i : Input) (t : Taken) → Made e i t → InputFits i → Ranged e → Ranged (dues_after e t)
made_ranged e i t h o r =
    dues_ranged e t.due t.end (made_stands e i t h o r.stands) (made_rests e i t h r.rests) (made_fits e i t h r.fits)

-- what a granted request comes to
pub asked_ranged : (q : Request) (e : End) → in_any e ≡ true → (asked_of q e).permitted ≡ true → Ranged e
    → Ranged (granted e (asked_of q e).next)
asked_ranged q e any permitted r =
    let x = (asked_of q e).next in
    granted_ranged e x
    (dues_ranged e false x (asked_stands q e r.stands) (λ n. not_both any (sym (asked_any q e) ∙ n)) (asked_fits q e permitted r.fits))

by_comes : (c : Call) (e : End) → InputFits c.input → Ranged e → Comes c e → Ranged (outcome_of c e).end
by_comes c e o r (refuses h) = rw h.outcome r
by_comes c e o r (concludes h) =
    rw h.outcome
    (concluded_ranged (length c.out) h.made.shown (dues_after e h.made) (made_ranged e c.input h.made h.how o r))
by_comes c e o r (grants h) =
    let p = passes_grant h in
    rw h.outcome (asked_ranged h.asked e p.any p.permitted r)

-- a call keeps it
pub keeps_ranged : (c : Call) (e : End) → InputFits c.input → Ranged e → Ranged (outcome_of c e).end
keeps_ranged c e o r = by_comes c e o r (comes c e)

pub call_ranged : (c : Call) (e : End) → OfOctets c.input → ranged e ≡ true → ranged (outcome_of c e).end ≡ true
call_ranged c e o h = is_ranged (outcome_of c e).end (keeps_ranged c e (octets_fit c.input o) (ranged_is e h))

-- and so does any list of calls
pub run_is : (s : Settings) → Accepted s → (cs : List Call) → AllOfOctets cs → Ranged (after s cs)
run_is s a [] o = fresh_is s a
run_is s a (c ∷ cs) o = keeps_ranged c (after s cs) (octets_fit c.input o.0) (run_is s a cs o.1)

pub run_ranged : (s : Settings) → Accepted s → (cs : List Call) → AllOfOctets cs → ranged (after s cs) ≡ true
run_ranged s a cs o = is_ranged (after s cs) (run_is s a cs o)

-- an end without own bit 2 never loops, and "a passive end" never asks, holds or ends
pub run_fits : (s : Settings) → Accepted s → (cs : List Call) → AllOfOctets cs → role_fits s.configuration (after s cs).role ≡ true
run_fits s a cs o =
    subst (λ (x : Settings). role_fits x.configuration (after s cs).role ≡ true) (run_settings s cs)
    (ranged_is (after s cs) (run_ranged s a cs o)).fits

-- a role other than Idle stands in SEND_ANY
pub busy_any : (e : End) → ranged e ≡ true → idle e.role ≡ false → in_any e ≡ true
busy_any e r b = whether (in_any e) (λ t. t) (λ f. not_both ((ranged_is e r).rests f) b)
