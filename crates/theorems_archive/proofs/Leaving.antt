-- What a call leaves: a tick that is refused all octets of the state, the events and the output, and every other call the octets of
-- the watch.
use Prim.Native.Nat.{ℕ, ◌%◌, ◌^◌}
use mathlib.Core.Path.{◌≡◌, refl, sym, ap, ◌∙◌}
use mathlib.Core.List.{List}
use mathlib.Core.Bool.{false, cond}
use native.Mathlib.Omega.{arith}
use borrow.Author.Tests.{ne_eqb}
use lib.Dec.{ltb, eqb}
use lib.ListN.{length, drop}
use lib.Seq.{sets}
use Rattle.octets.proofs.Bools.{whether, by_cond, never}
use Rattle.link_end.specs.declared.End.{End}
use Rattle.link_end.specs.Parts.{Is, Refused, MaybeEnd}
use Rattle.link.specs.Outcomes.{Outcome}
use Rattle.link_windows.specs.Watches.{Counted}
use Rattle.link_windows.specs.declared.Watch.{Watch}
use Rattle.link_windows.specs.Watches.{taken_count}
use Rattle.link_counting.specs.Counting.{CountedTick, uncounted, counted_tick}
use Rattle.oam_packing.specs.Octets.{end_length, unpacked, watch_in}
use Rattle.theorems_packing.proofs.Packing.{stored_behind}
use Rattle.oam_outcomes.specs.Stepped.{stepped_number, stepped_state}
use Rattle.theorems_reach.specs.Machine.{tick, request, outcome_by}
use Rattle.theorems_reach.proofs.Refusing.{refused_unchanged}
use Rattle.oam.specs.Machine.{state_after, reported_by, received_by}
use Rattle.oam.specs.Ticking.{arisen_room, counted_numbers, ticked_by, ticked_output, ticked_number, ticked_state, answer_of_tick, Ticking}
use Rattle.theorems_archive.specs.Entries.{EntryInput, ticks, reports, receives, asks, is_ticks, outcome_for, answer_for, state_for}

-- ---- a tick by its outcome

module _ (count room octets : ℕ) (w : Watch) (e : End) where
  -- which does not depend on the watch
  pub ticked_outcome : (ticked_by count room octets w e).outcome ≡ outcome_for (ticks count room) octets e
  unfolding ticked_by counted_tick
  ticked_outcome = whether (ltb room arisen_room) (λ t. rw t) (λ f. rw f)

  -- the count is taken where the tick is accepted
  pub ticked_counted : (ticked_by count room octets w e).counted
      ≡ cond (eqb (outcome_for (ticks count room) octets e).answer 0) (taken_count w count) (uncounted w)
  unfolding ticked_by counted_tick
  ticked_counted = whether (ltb room arisen_room) (λ t. rw t) (λ f. rw f)

-- ---- a refused tick

module _ (count room : ℕ) (out : List ℕ) (w : Watch) (e : End) (n : (outcome_for (ticks count room) (length out) e).answer ≡ 0 → ⊥) where
  abbrev call : CountedTick
  call = ticked_by count room (length out) w e

  no : eqb (outcome_for (ticks count room) (length out) e).answer 0 ≡ false
  no = ne_eqb (outcome_for (ticks count room) (length out) e).answer 0 n

  state_left : (state : List ℕ) → ticked_state call state ≡ state
  unfolding ticked_state
  state_left state = rw (ticked_outcome count room (length out) w e, no)

  none_counted : call.counted ≡ uncounted w
  none_counted = ticked_counted count room (length out) w e ∙ rw no

  output_left : ticked_output room e out ≡ out
  unfolding ticked_output
  output_left =
      whether (ltb room arisen_room) (λ t. rw t) (λ f. rw f (refused_unchanged (record { input = tick; out = out }) e (rw f at n)).output)

-- the answer stands in the low 8 bits
accepted_low : (t : CountedTick) → t.outcome.answer ≡ 0 → ticked_number t % 2 ^ 8 ≡ 0
unfolding ticked_number stepped_number
accepted_low t h = omega arith

module _ (count room : ℕ) (events state out : List ℕ) where
  left : (w : Watch) (found : MaybeEnd) → (answer_of_tick (ticked_by count room (length out) w) found % 2 ^ 8 ≡ 0 → ⊥)
      → Ticking (ticked_by count room (length out) w) (ticked_output room) found events state out (answer_of_tick (ticked_by count room (length out) w) found) events state out
  left w (Refused n) h = record { answers = refl; shows = refl; keeps = refl; writes = refl }
  left w (Is e) h =
      let n : (outcome_for (ticks count room) (length out) e).answer ≡ 0 → ⊥ =
      λ z. h (accepted_low (ticked_by count room (length out) w e) (ap (λ (o : Outcome). o.answer) (ticked_outcome count room (length out) w e) ∙ z)) in
      record {
        answers = refl;
        shows = ap (λ (c : Counted). sets events 0 (counted_numbers c)) (sym (none_counted count room out w e n));
        keeps = sym (state_left count room out w e n state);
        writes = sym (output_left count room out w e n);
      }

  -- a tick whose number says a refusal leaves all that it is lent as it was: no octet of the end, of the watch or of the output, and
  -- no number of the events is another
  pub refused_tick : (answer_for (ticks count room) (length out) state % 2 ^ 8 ≡ 0 → ⊥)
      → Ticking (ticked_by count room (length out) (watch_in state)) (ticked_output room) (unpacked state) events state out
      (answer_for (ticks count room) (length out) state) events state out
  refused_tick h = left (watch_in state) (unpacked state) h

-- ---- every other call

stepped_behind : (o : Outcome) (state : List ℕ) → drop end_length (stepped_state o state) ≡ drop end_length state
unfolding stepped_state
stepped_behind o state =
    by_cond (λ (x : List ℕ). drop end_length x ≡ drop end_length state) (eqb o.answer 0) (λ _. stored_behind o.end state) (λ _. refl)

after_behind : (call : End → Outcome) (found : MaybeEnd) (state : List ℕ) → drop end_length (state_after call found state) ≡ drop end_length state
after_behind call (Refused n) state = refl
after_behind call (Is e) state = stepped_behind (call e) state

-- leaves the octets of the watch, whatever the octets are
pub others_leave : (h : EntryInput) → is_ticks h ≡ false → (octets : ℕ) (state : List ℕ)
    → drop end_length (state_for h octets state) ≡ drop end_length state
others_leave (ticks count room) f octets state = never (sym f)
others_leave (reports n) f octets state = after_behind (reported_by n octets) (unpacked state) state
others_leave (receives g room) f octets state = after_behind (received_by g room octets) (unpacked state) state
others_leave (asks q) f octets state = after_behind (outcome_by (request q) octets) (unpacked state) state
