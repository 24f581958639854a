use Rattle.std.proofs.Common.{◌≡◌, ◌-◌, length, subst, sym, arith}
use Rattle.frame_body.specs.Variables.{Value, container_step, container_value}
use Rattle.frame_body.proofs.Wholes.{Contained, container_within}
use Rattle.frame_body.proofs.variables.container_value.Goals as goal
use Rattle.frame_body.proofs.variables.container_value.Goals.{In-Value}

-- what stands at the octet, and where it ends
met : (c : In-Value) → Value c.in-Some-Ok.container.part.descriptor c.in-Value.width c.in-Some-Ok.container.end ≡ container_step c.args.body.now c.args.at
met c = rw (c.in-Some-Ok.is, c.in-Some-Ok.field-0-is, c.in-Value.is) at c.container_step.ensures.found

within : (c : In-Value) → Contained c.args.at (length c.args.body.now) (Value c.in-Some-Ok.container.part.descriptor c.in-Value.width c.in-Some-Ok.container.end)
within c = let s = c.args.body.now in subst (Contained c.args.at (length s)) (sym (met c)) (container_within s c.args.at)

pub overflow_sub-result : goal.overflow_sub-result
overflow_sub-result c = omega (arith, within (goal.at.overflow_sub-result c).In-Value)

pub slice_bounds-result-end-2 : goal.slice_bounds-result-end-2
slice_bounds-result-end-2 c = omega (arith, within (goal.at.slice_bounds-result-end-2 c).In-Value)

pub returns : goal.returns
unfolding container_value
returns c =
    let at = (goal.at.returns c).In-Value in
    let n = c.in-Some-Ok.container.end in
    let e : n - (n - c.in-Value.width) ≡ c.in-Value.width = omega (arith, within at) in
    rw (← met at, e)
