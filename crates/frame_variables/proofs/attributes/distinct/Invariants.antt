use Rattle.std.proofs.Common.{◌≡◌, length}
use Rattle.frame_variables.specs.Attributes.{distinct}
use Rattle.frame_variables.proofs.attributes.distinct.Given as goal

abbrev pub invariant-loop-left : goal.invariant-loop-left
invariant-loop-left l = distinct l.left ≡ distinct l.attributes

abbrev pub decreases-loop-left : goal.decreases-loop-left
decreases-loop-left l = length l.left
