use Rattle.std.proofs.Common.{ℕ, Option, ◌∙◌, ap, sym}
use Rattle.frame_tlvs.specs.Tlvs.{placed_mark}
use Rattle.frame_tlvs.proofs.Marks.{event_lies}
use Rattle.frame_tlvs.proofs.notifications.event_step.Goals as goal

pub event_at-requires : goal.event_at-requires
event_at-requires c =
    let n = c.in-Some-Ok.mark.end in
    let known = rw (c.in-Some-Ok.is, c.in-Some-Ok.field-0-is) at c.mark_at.ensures.found in
    event_lies c.args.body.now c.args.at _ n (sym (ap (λ (m : Option ℕ). placed_mark m n) (rw c.in-Some-Ok.field-0-is at c.in-Some.is)) ∙ known)
