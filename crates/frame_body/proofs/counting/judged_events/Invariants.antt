use Rattle.std.proofs.Common.{◌≡◌, ◌+◌, ◌≤◌, length}
use Rattle.frame_tlvs.specs.Marks.{marks_of, left}
use Rattle.frame_tlvs.specs.declared.Kind.TheVariants.{Events}
use Rattle.frame_body.proofs.Skips.{judged_marks}
use Rattle.frame_body.proofs.counting.judged_events.Given as goal

abbrev pub invariant-loop-mark : goal.invariant-loop-mark
invariant-loop-mark l =
    (goal.iterator-loop-mark).can_next l.mark-iterator
    × (goal.iterator-loop-mark).is_finite l.mark-iterator
    × (judged_marks l.skipped (left l.mark-iterator) ≡ judged_marks 0 (marks_of Events l.body))
    × (l.skipped + length (left l.mark-iterator) ≤ length l.body)
