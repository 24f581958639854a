use Rattle.std.proofs.Common.{◌≡◌, ◌∙◌, ap, arith, length}
use Rattle.frame_tlvs.specs.Marks.{marks_of, left}
use Rattle.frame_tlvs.specs.declared.Kind.TheVariants.{Information}
use Rattle.frame_tlvs.proofs.MarkItems.{few_marks}
use Rattle.frame_body.proofs.Judging.{judged_marks, judged_by_marks}
use Rattle.frame_body.proofs.local_remote.judged_information.Goals as goal

pub loop-mark-init : goal.loop-mark-init
loop-mark-init c =
    let s = c.args.body.now in
    let e : left c.into_iter-mark-iterator.result ≡ marks_of Information s = ap left c.into_iter-mark-iterator.ensures.into_iter_gives ∙ c.new-mark-items.ensures in
    (tt, tt, ap (judged_marks s (length s) _ 0) e ∙ judged_by_marks s, omega (arith, ap length e, few_marks Information s))
