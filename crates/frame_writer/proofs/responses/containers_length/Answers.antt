use native.Mathlib.Omega.{arith}
use Rattle.frame_writer.proofs.Containing.{measured_none, measured_on, measured_past}
use Rattle.frame_writer.proofs.responses.containers_length.Goals as goal

pub loop-step-init : goal.loop-step-init
loop-step-init c = measured_none c.args.containers.now

pub returns-in_default-step : goal.returns-in_default-step
returns-in_default-step c = measured_on _ _ c.loop-step.invariant (rw c.in_default-step.is at c.in-Some.ensures.found)

pub loop-step-smaller : goal.loop-step-smaller
loop-step-smaller c = omega (arith, measured_past _ _ c.in-Ok.container c.loop-step.invariant (rw c.in-Ok.is at c.in-Some.ensures.found))

pub loop-step-preserved : goal.loop-step-preserved
loop-step-preserved c = (measured_past _ _ c.in-Ok.container c.loop-step.invariant (rw c.in-Ok.is at c.in-Some.ensures.found)).2

pub returns : goal.returns
returns c = measured_on _ _ c.loop-step.invariant c.in_default.ensures.found
