-- The revision grows by one in exactly the calls that change the State octet, the event number in exactly the granted
-- notifications, whose frame carries the old one. This is so of any end.
use Prim.Native.Nat.{ℕ}
use mathlib.Core.Path.{◌≡◌, refl, ap, ◌∙◌}
use mathlib.Core.List.{List}
use mathlib.Core.Bool.{Bool, true, false, cond, ◌&&◌, and-true, and-false}
use borrow.Author.Tests.{eq-eqb, ne_eqb}
use lib.Dec.{eqb}
use Rattle.frame.specs.Frame.{notification}
use Rattle.octets.proofs.Bools.{by_cond}
use Rattle.frame_writer.specs.Writing.{events_of}
use Rattle.link_loopback.specs.Roles.{octet_of}
use Rattle.link_limit.specs.Owing.{following, revised}
use Rattle.link_end.specs.declared.End.{End}
use Rattle.link_end.specs.Taking.{Taken}
use Rattle.link_end.specs.Sending.{octet_changed, dues, sends, sent}
use Rattle.link.specs.Outcomes.{Outcome, outcome, concluded}
use Rattle.link_end.specs.Granting.{granted}
use Rattle.theorems_reach.specs.Machine.{Request, start, stop, variables, notify, tell, respond, Input, tick, report, receive, request, Call, outcome_of, meant}
use Rattle.theorems_reach.proofs.Coming.{Made, ticks, reports, hears, dues_after, Concludes, Comes, refuses, concludes, grants, comes}
use Rattle.theorems_reach.proofs.Staying.{Lasting, number_by, made_stays, asked_stays}

-- a property of what a tick, a report or an accepted frame comes to, from each of the two that it may be
by_concluded : {c : Call} {e : End} (h : Concludes c e) (P : Outcome → Type 0)
    → ((x : End) (n : ℕ) → x.role ≡ h.made.end.role → x.own.revision ≡ (dues_after e h.made).own.revision
    → x.own.number ≡ h.made.end.own.number → P (outcome x 0 n h.made.shown)) → P (outcome_of c e)
unfolding concluded sent dues
by_concluded {c} {e} h P f =
    rw h.outcome (by_cond P (sends (dues_after e h.made)) (λ _. f _ _ refl refl refl) (λ _. f _ _ refl refl refl))

-- ---- the State octet

-- the outcome gives it
pub octet_is : (c : Call) (e : End) → (outcome_of c e).octet ≡ octet_of (outcome_of c e).end.role
octet_is c e = by (comes c e)
  where
    by : Comes c e → (outcome_of c e).octet ≡ octet_of (outcome_of c e).end.role
    by (refuses h) = rw h.outcome
    by (concludes h) = by_concluded h (λ (o : Outcome). o.octet ≡ octet_of o.end.role) (λ _ _ _ _ _. refl)
    by (grants h) = rw h.outcome

-- ---- the revision

abbrev pub Revised : Call → End → Type 0
Revised c e = (outcome_of c e).end.own.revision ≡ revised (octet_changed e.role (outcome_of c e).end.role) e.own.revision

by_comes : (c : Call) (e : End) → Comes c e → Revised c e
unfolding granted dues
by_comes c e (refuses h) = rw (h.outcome, eq-eqb (octet_of e.role) (octet_of e.role) refl)
by_comes c e (concludes h) =
    let s = ap (λ (k : Lasting). k.revision) (made_stays e c.input h.made h.how) in
    by_concluded h (λ (o : Outcome). o.end.own.revision ≡ revised (octet_changed e.role o.end.role) e.own.revision)
    (λ _ _ role revision _. rw (role, revision, s))
by_comes c e (grants h) = rw (h.outcome, ap (λ (k : Lasting). k.revision) (asked_stays h.asked e))

-- "The revision grows by one, 65,535 going to 0, in each call that changes the State octet."
pub revision_grows : (c : Call) (e : End) → Revised c e
revision_grows c e = by_comes c e (comes c e)

-- ---- the event number

abbrev pub is_notify : Input → Bool
is_notify tick = false
is_notify (report r) = false
is_notify (receive f) = false
is_notify (request start) = false
is_notify (request stop) = false
is_notify (request (variables ds)) = false
is_notify (request (notify vs)) = true
is_notify (request (tell oui x)) = false
is_notify (request (respond ns vs ds)) = false

-- a notification that is granted
abbrev pub notifies : Call → End → Bool
notifies c e = is_notify c.input && eqb (outcome_of c e).answer 0

abbrev pub Numbers : Call → End → Type 0
Numbers c e = (outcome_of c e).end.own.number ≡ cond (notifies c e) (following e.own.number) e.own.number

made_notifies : (e : End) (i : Input) (t : Taken) → Made e i t → is_notify i ≡ false
made_notifies e i t ticks = refl
made_notifies e i t (reports r) = refl
made_notifies e i t (hears f m d) = refl

number_by_lem : (q : Request) (n : ℕ) → number_by q n ≡ cond (is_notify (request q)) (following n) n
number_by_lem start n = refl
number_by_lem stop n = refl
number_by_lem (variables ds) n = refl
number_by_lem (notify vs) n = refl
number_by_lem (tell oui x) n = refl
number_by_lem (respond ns vs ds) n = refl

numbers : (c : Call) (e : End) → Comes c e → Numbers c e
unfolding granted dues
numbers c e (refuses h) =
    rw (h.outcome, ne_eqb h.number 0 h.some, and-false (is_notify c.input))
numbers c e (concludes h) =
    let s = ap (λ (k : Lasting). k.number) (made_stays e c.input h.made h.how) in
    rw (made_notifies e c.input h.made h.how)
    (by_concluded h (λ (o : Outcome). o.end.own.number ≡ e.own.number) (λ _ _ _ _ number. number ∙ s))
numbers c e (grants h) =
    let s = ap (λ (k : Lasting). k.number) (asked_stays h.asked e) in
    rw (h.outcome, h.how, and-true (is_notify (request h.asked))) (s ∙ number_by_lem h.asked e.own.number)

-- "The event number sent does the same at each notification."
pub number_grows : (c : Call) (e : End) → Numbers c e
number_grows c e = numbers c e (comes c e)

-- the frame of a notification carries the number as it was
pub carries_number : (vs out : List ℕ) (e : End)
    → (meant (record { input = request (notify vs); out = out }) e).body ≡ notification e.own.number (events_of vs)
carries_number vs out e = refl
