use Prim.Native.Nat.{◌-◌}
use lib.ListN.{length}
use Rattle.frame_writer.proofs.Containing.{Measured}
use Rattle.frame_writer.proofs.responses.containers_length.Given as goal

abbrev pub invariant-loop-step : goal.invariant-loop-step
invariant-loop-step l = Measured l.containers l.at

abbrev pub decreases-loop-step : goal.decreases-loop-step
decreases-loop-step l = length l.containers - l.at
