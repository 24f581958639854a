use Rattle.std.proofs.Common.{◌≡◌, ◌+◌, ◌≤◌, length}
use Rattle.frame_tlvs.specs.Marks.{left}
use Rattle.frame_body.specs.Judging.{judged_information}
use Rattle.frame_body.proofs.Judging.{judged_marks}
use Rattle.frame_body.proofs.local_remote.judged_information.Given as goal

abbrev pub invariant-loop-mark : goal.invariant-loop-mark
invariant-loop-mark l =
    (goal.iterator-loop-mark).can_next l.mark-iterator
    × (goal.iterator-loop-mark).is_finite l.mark-iterator
    × (judged_marks l.body l.local l.remote l.skipped (left l.mark-iterator) ≡ judged_information l.body)
    × (l.skipped + length (left l.mark-iterator) ≤ length l.body)
