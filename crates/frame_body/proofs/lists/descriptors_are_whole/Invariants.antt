use Rattle.std.proofs.Common.{◌*◌}
use Rattle.frame_body.specs.Lists.{Descriptors}
use Rattle.frame_body.proofs.Strides.{Strode}
use Rattle.frame_body.proofs.lists.descriptors_are_whole.Given as goal

abbrev pub invariant-loop-branch : goal.invariant-loop-branch
invariant-loop-branch l = Strode Descriptors l.body (3 * l.branch-index)
