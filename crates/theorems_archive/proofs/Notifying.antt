-- What arises at a tick may be notified: handed on as `oam_tick` stores it, it is never refused with 10.
use Rattle.std.specs.Prelude.{Option, None, Some}
use Prim.Native.Nat.{ℕ, ◌+◌, ◌*◌, ◌^◌, ◌<◌, ◌≤◌}
use mathlib.Core.Path.{◌≡◌, refl, sym, ap, subst, ◌∙◌}
use mathlib.Core.List.{List, ◌++◌}
use mathlib.Core.Bool.{Bool, true}
use native.Mathlib.Omega.{arith}
use borrow.Author.Tests.{lt-ltb}
use lib.Dec.{ltb, eqb}
use lib.ListN.{length, take, drop}
use lib.Seq.{sets, sets-eq, take_at}
use Rattle.frame_tlvs.specs.declared.Event.{Event}
use Rattle.octets.proofs.Bools.{by_cond, not_both}
use Rattle.frame_writer.specs.Plain.{plain_events, sized}
use Rattle.frame_writer.specs.Writing.{events_of}
use Rattle.link_end.specs.declared.End.{End}
use Rattle.link_end.specs.Parts.{Is}
use Rattle.link_end.specs.Ranges.{tests, ranged}
use Rattle.link_end.specs.Granting.{answer_to, decided}
use Rattle.link_end.proofs.Ranging.{all_at}
use Rattle.link.specs.Requests.{octets_asked, notifying, concluded_request, request_of}
use Rattle.link_windows.specs.Watches.{Counted}
use Rattle.link_windows.specs.declared.Watch.{Watch}
use Rattle.link_windows.specs.Watches.{taken_count}
use Rattle.link_windows.specs.Ranges.{proper}
use Rattle.theorems_windows.specs.History.{events_in}
use Rattle.theorems_windows.proofs.Plainly.{at_most_two, arisen_plain}
use Rattle.oam_packing.specs.Octets.{unpacked, watch_in}
use Rattle.theorems_packing.proofs.Packing.{unpacked_beside}
use Rattle.theorems_reach.specs.Machine.{notify, request, outcome_by}
use Rattle.theorems_reach.proofs.Coming.{answer_is}
use Rattle.oam.specs.Ticking.{arisen_numbers, arisen_count, arisen_room, counted_numbers, counted_events, ticked_by}
use Rattle.theorems_archive.specs.Entries.{ticks, outcome_for, arisen_for}
use Rattle.theorems_archive.proofs.Leaving.{ticked_counted}

-- ---- the events that the numbers say are those that arose

read_again : (f s : Option Event) → events_of (arisen_numbers f ++ arisen_numbers s) ≡ events_in f s
unfolding events_of
read_again None None = refl
read_again None (Some e) = refl
read_again (Some e) None = refl
read_again (Some e) (Some g) = refl

as_many : (f s : Option Event) → arisen_count f + arisen_count s ≡ length (events_in f s)
as_many None None = refl
as_many None (Some e) = refl
as_many (Some e) None = refl
as_many (Some e) (Some g) = refl

seven_each : (f s : Option Event) → length (arisen_numbers f ++ arisen_numbers s) ≡ 7 * (arisen_count f + arisen_count s)
seven_each None None = refl
seven_each None (Some e) = refl
seven_each (Some e) None = refl
seven_each (Some e) (Some g) = refl

-- ---- the answer

-- 10 is given only for values out of range
formed_answer : (octets : ℕ) (permitted measured : Bool) (lent : ℕ) (e : End) → 0 < octets → answer_to octets permitted measured lent e ≡ 10 → ⊥
formed_answer octets permitted measured lent e h =
    answer_is (λ (n : ℕ). n ≡ 10 → ⊥) octets permitted measured lent e
    (λ f. not_both (lt-ltb 0 octets h) f) (λ z. omega arith) (λ z. omega arith) (λ _ z. omega arith) (λ z. omega arith) (λ z. omega arith) (λ z. omega arith)

-- a notification of plain events is in range, by an end that is
plain_octets : (vs : List ℕ) (e : End) → ranged e ≡ true → plain_events (events_of vs) ≡ true → 0 < octets_asked (notifying vs e)
unfolding sized ranged
plain_octets vs e r p =
    let number : ltb e.own.number (2 ^ 16) ≡ true = all_at (tests e) 12 r in
    rw (number, p) (omega arith)

pub plain_notifies : (vs : List ℕ) (octets : ℕ) (e : End) → ranged e ≡ true → plain_events (events_of vs) ≡ true
    → (outcome_by (request (notify vs)) octets e).answer ≡ 10 → ⊥
unfolding request_of concluded_request decided
plain_notifies vs octets e r p = formed_answer (octets_asked (notifying vs e)) true true octets e (plain_octets vs e r p)

-- ---- what arises

-- of a count, beside a proper watch
pub arisen_notifies : (w : Watch) (count : ℕ) → proper w ≡ true → 0 < counted_events (taken_count w count)
    → (octets : ℕ) (e : End) → ranged e ≡ true → (outcome_by (request (notify (counted_numbers (taken_count w count)))) octets e).answer ≡ 10 → ⊥
arisen_notifies w count p some octets e r =
    let c : Counted = taken_count w count in
    let plainly = arisen_plain w count p (omega (arith, as_many c.frames c.seconds)) in
    plain_notifies (counted_numbers c) octets e r (rw (read_again c.frames c.seconds) plainly)

-- so of a call of `oam_tick` on octets that hold an end: where events arose, `oam_notify` never answers 10 for them, by the end after
-- it or by any other that keeps to its ranges
module _ (count room octets : ℕ) (state : List ℕ) (e : End) (h : unpacked state ≡ Is e) where
  pub tick_notifies : 0 < arisen_for (ticks count room) octets (watch_in state) e → (lent : ℕ) (after : End) → ranged after ≡ true
      → (outcome_by (request (notify (counted_numbers (ticked_by count room octets (watch_in state) e).counted))) lent after).answer ≡ 10 → ⊥
  tick_notifies =
      let w : Watch = watch_in state in
      let P : Counted → Type 0 = λ (c : Counted). 0 < counted_events c → (lent : ℕ) (after : End) → ranged after ≡ true
      → (outcome_by (request (notify (counted_numbers c))) lent after).answer ≡ 10 → ⊥ in
      subst P (sym (ticked_counted count room octets w e))
      (by_cond P (eqb (outcome_for (ticks count room) octets e).answer 0)
      (λ _. arisen_notifies w count (unpacked_beside state e h).0) (λ _ some. absurd (omega arith)))

-- the numbers stand in the events' first, seven for each event that the tick's number counts
pub arisen_first : (c : Counted) (events : List ℕ) → arisen_room ≤ length events
    → take (7 * counted_events c) (sets events 0 (counted_numbers c)) ≡ counted_numbers c
arisen_first c events h =
    let n = seven_each c.frames c.seconds in
    let two = at_most_two c.frames c.seconds in
    let vs : List ℕ = counted_numbers c in
    ap (take (7 * counted_events c)) (sets-eq vs events 0 (omega (arith, as_many c.frames c.seconds)))
    ∙ take_at vs (drop (0 + length vs) events) (7 * counted_events c) n
