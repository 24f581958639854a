use Rattle.std.proofs.Common.{arith, ◌≡◌, ◌+◌, ◌-◌, ◌∙◌, sym}
use Rattle.frame_writer.proofs.Stores.{put_last}
use Rattle.frame_writer.proofs.storing.put_number.Goals as goal

pub loop-i-preserved : goal.loop-i-preserved
loop-i-preserved c =
    let e : c.loop-i.i - 1 + 1 ≡ c.loop-i.i = omega arith in
    sym (put_last c.loop-i.out c.args.at (c.loop-i.i - 1) c.loop-i.left) ∙ rw e c.loop-i.invariant
