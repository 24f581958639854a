-- Laws of the loop over a notification's events: what they come to by their marks.
use Rattle.std.specs.Prelude.{Option, None, Some, Result, Ok, Err, IfErr}
use Prim.Native.Nat.{ℕ, zero, suc, ◌+◌}
use mathlib.Core.Path.{◌≡◌, refl, sym, ap, ◌∙◌}
use mathlib.Core.Bool.{cond}
use mathlib.Core.List.{List, [], ◌∷◌}
use native.Mathlib.Nat.{add-zero, zero-add}
use native.Mathlib.Omega.{arith}
use lib.ListN.{length}
use Rattle.octets.specs.declared.refusal.Refusal.{Refusal}
use Rattle.octets.specs.declared.refusal.Refusal.TheVariants.{Broken}
use Rattle.frame_tlvs.specs.Walk.{Walk, ends, breaks, over, part, on_next, walk, given, whole, skipped_in}
use Rattle.frame_tlvs.specs.Tlvs.{Mark, End as MarkEnd, Broken as MarkBroken, Unknown, Known, mark_at}
use Rattle.frame_tlvs.specs.Marks.{mark_next, marks_of}
use Rattle.frame_tlvs.specs.Events.{step_of, event_step, next_of, event_walk}
use Rattle.frame_tlvs.specs.declared.Event.{Event}
use Rattle.frame_tlvs.specs.declared.Kind.TheVariants.{Events}
use Rattle.frame_body.specs.Counting.{JudgedEvents, BrokenEvent, WholeEvents, as_judged_events, judged_events}

-- what the events come to by the marks that are left, where so many TLVs were skipped
abbrev pub judged_marks : ℕ → List (Result (ℕ × Option ℕ) Refusal) → Result ℕ Refusal
judged_marks skipped [] = Ok skipped
judged_marks skipped (Err e ∷ ms) = Err e
judged_marks skipped (Ok (at, None) ∷ ms) = judged_marks (skipped + 1) ms
judged_marks skipped (Ok (at, Some t) ∷ ms) = judged_marks skipped ms

pub only_broken : (w : Walk (ℕ × Option ℕ)) (skipped : ℕ) → IfErr (judged_marks skipped (given w)) (λ r. r ≡ Broken)
only_broken ends skipped = tt
only_broken breaks skipped = refl
only_broken (over w) skipped = only_broken w skipped
only_broken (part (at, None) w) skipped = only_broken w (skipped + 1)
only_broken (part (at, Some t) w) skipped = only_broken w skipped

-- and by what is left of the walk
abbrev judged_left : ℕ → Walk Event → JudgedEvents
judged_left skipped w = cond (whole w) (WholeEvents (skipped + skipped_in w)) BrokenEvent

one_skipped : (skipped : ℕ) (w : Walk Event) → judged_left (skipped + 1) w ≡ judged_left skipped (over w)
one_skipped skipped w =
    let one : skipped + 1 + skipped_in w ≡ skipped + suc (skipped_in w) = omega arith in
    ap (λ (n : ℕ). cond (whole w) (WholeEvents n) BrokenEvent) one

module _ (s : List ℕ) where
  abbrev left : ℕ → ℕ → Walk Event
  left steps at = walk (λ n. next_of (event_step s n)) steps at

  abbrev marks_left : ℕ → ℕ → Walk (ℕ × Option ℕ)
  marks_left steps at = walk (λ n. mark_next n (mark_at Events s n)) steps at

  abbrev Same : ℕ → Walk (ℕ × Option ℕ) → Walk Event → Type 0
  Same skipped ms w = as_judged_events (judged_marks skipped (given ms)) ≡ judged_left skipped w

  met_mark : (steps : ℕ) → ((n skipped : ℕ) → Same skipped (marks_left steps n) (left steps n)) → (at skipped : ℕ) (mark : Mark)
      → Same skipped (on_next (mark_next at mark) (marks_left steps)) (on_next (next_of (step_of s at mark)) (left steps))
  met_mark steps rest at skipped MarkEnd = ap WholeEvents (sym (add-zero skipped))
  met_mark steps rest at skipped MarkBroken = refl
  met_mark steps rest at skipped (Unknown n) = rest n (skipped + 1) ∙ one_skipped skipped (left steps n)
  met_mark steps rest at skipped (Known t n) = rest n skipped

  by_marks : (steps at skipped : ℕ) → Same skipped (marks_left steps at) (left steps at)
  unfolding event_step walk
  by_marks zero at skipped = ap WholeEvents (sym (add-zero skipped))
  by_marks (suc steps) at skipped = met_mark steps (by_marks steps) at skipped (mark_at Events s at)

  pub judged_by_marks : as_judged_events (judged_marks 0 (marks_of Events s)) ≡ judged_events s
  unfolding judged_events event_walk
  judged_by_marks = by_marks (length s) 0 0 ∙ rw (zero-add (skipped_in (left (length s) 0)))

  pub broken_marks : IfErr (judged_marks 0 (marks_of Events s)) (λ r. r ≡ Broken)
  broken_marks = only_broken (marks_left (length s) 0) 0
