use Rattle.std.proofs.Common.{ℕ, Option, ◌∙◌, ap, sym}
use Rattle.frame_tlvs.specs.Tlvs.{placed_mark}
use Rattle.frame_body.proofs.Judging.{information_lies}
use Rattle.frame_body.proofs.local_remote.information_step.Goals as goal

pub information_at-requires-in-Some : goal.information_at-requires-in-Some
information_at-requires-in-Some c =
    let n = c.in-Some-Ok.mark.end in
    let known = rw (c.in-Some-Ok.is, c.in-Some-Ok.field-0-is) at c.mark_at.ensures.found in
    information_lies c.args.body.now c.args.at _ n (sym (ap (λ (m : Option ℕ). placed_mark m n) c.in-Some.is) ∙ known)

pub information_at-requires : goal.information_at-requires
information_at-requires c =
    let n = c.in-Some-Ok.mark.end in
    let known = rw (c.in-Some-Ok.is, c.in-Some-Ok.field-0-is) at c.mark_at.ensures.found in
    information_lies c.args.body.now c.args.at _ n (sym (ap (λ (m : Option ℕ). placed_mark m n) c.in-Some-eq1.is) ∙ known)
