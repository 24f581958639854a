use Prim.Native.Nat.{◌-◌}
use lib.ListN.{length}
use Rattle.frame_body.specs.Lists.{Containers}
use Rattle.frame_body.proofs.Strides.{Strode}
use Rattle.frame_body.proofs.lists.containers_are_whole.Given as goal

abbrev pub invariant-loop-at : goal.invariant-loop-at
invariant-loop-at l = Strode Containers l.body l.at

abbrev pub decreases-loop-at : goal.decreases-loop-at
decreases-loop-at l = length l.body - l.at
