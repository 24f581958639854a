use Rattle.std.proofs.Common.{◌≡◌, ◌∙◌, ap, arith, length}
use Rattle.std.proofs.lemmas.Grind.{common_steps}
use Rattle.frame_tlvs.specs.Marks.{marks_of, left}
use Rattle.frame_tlvs.specs.declared.Kind.TheVariants.{Events}
use Rattle.frame_tlvs.proofs.MarkItems.{few_marks}
use Rattle.frame_body.proofs.Skips.{judged_marks, judged_by_marks, broken_marks}
use Rattle.frame_body.proofs.counting.judged_events.Goals as goal

pub loop-mark-init : goal.loop-mark-init
loop-mark-init c =
    let s = c.args.body.now in
    let e : left c.into_iter-mark-iterator.result ≡ marks_of Events s = ap left c.into_iter-mark-iterator.ensures.into_iter_gives ∙ c.new-mark-items.ensures in
    (tt, tt, ap (judged_marks 0) e, omega (arith, ap length e, few_marks Events s))

pub returns-in_err-mark-clause-judged : goal.returns-in_err-mark-clause-judged
returns-in_err-mark-clause-judged c =
    let e = judged_by_marks c.args.body.now in
    let i = c.loop-mark.invariant.2 in
    grind (arith, common_steps)

pub returns-in_err-mark-clause-refusal : goal.returns-in_err-mark-clause-refusal
returns-in_err-mark-clause-refusal c =
    let e = broken_marks c.args.body.now in
    let i = c.loop-mark.invariant.2 in
    grind (arith, common_steps)

pub returns-clause-judged : goal.returns-clause-judged
returns-clause-judged c =
    let e = judged_by_marks c.args.body.now in
    let i = c.loop-mark.invariant.2 in
    grind (arith, common_steps)
