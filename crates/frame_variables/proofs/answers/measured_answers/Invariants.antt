use Rattle.std.proofs.Common.{◌≡◌, ◌+◌, ◌≤◌, drop}
use Rattle.frame_variables.specs.Answers.{measured_answers}
use Rattle.frame_variables.proofs.answers.measured_answers.Given as goal

abbrev pub invariant-loop-descriptor : goal.invariant-loop-descriptor
invariant-loop-descriptor l =
    (l.sum + l.left ≤ l.room)
    × (l.sum + measured_answers l.left l.attributes (drop l.descriptor-index l.descriptors) ≡ measured_answers l.room l.attributes l.descriptors)
