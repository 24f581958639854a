use Rattle.std.proofs.Common.{arith, suc, drop, ◌∙◌}
use Rattle.std.proofs.Math.Seq.{drop-cons}
use native.Mathlib.Numerals.{add-one}
use Rattle.frame_variables.proofs.Answering.{left_some, measured_off, measured_next}
use Rattle.frame_variables.proofs.answers.measured_answers.Goals as goal

pub returns-in_default : goal.returns-in_default
returns-in_default c = let a = c.args in
    let l = c.loop-descriptor in
    let turn = rw (drop-cons a.descriptors.now l.descriptor-index 0 c.loop-descriptor-test.true, measured_off l.left a.attributes.now _ _ c.in_default.ensures) at l.invariant.1 in
    omega (arith, turn)

pub overflow_add-sum : goal.overflow_add-sum
overflow_add-sum c = let l = c.loop-descriptor in
    omega (arith, l.invariant.0, (measured_next l.left c.in-Some.octets _ (drop l.descriptor-index c.args.descriptors.now) _ c.in-Some.ensures).0)

pub loop-descriptor-preserved : goal.loop-descriptor-preserved
loop-descriptor-preserved c = let a = c.args in
    let l = c.loop-descriptor in
    let next = measured_next l.left c.in-Some.octets a.attributes.now (drop (suc l.descriptor-index) a.descriptors.now) _ c.in-Some.ensures in
    let turn = rw (drop-cons a.descriptors.now l.descriptor-index 0 c.loop-descriptor-test.true, next.1) at l.invariant.1 in
    rw (add-one, c.left_after-left.ensures ∙ left_some l.left _ _ c.in-Some.ensures) (omega (arith, l.invariant.0, next.0), omega (arith, turn))
