use mathlib.Core.Path.{◌∙◌}
use native.Mathlib.Omega.{arith}
use Rattle.frame_tlvs.proofs.Rows.{total_at}
use Rattle.frame_writer.proofs.Stores.{next_field}
use Rattle.frame_writer.proofs.storing.put_fields.Goals as goal

pub loop-i-preserved : goal.loop-i-preserved
loop-i-preserved c =
    let l = c.loop-i in
    let a = c.args in
    let h = c.loop-i-test.true in
    let n = c.put_number in
    let t = total_at a.widths.now l.i h in (
      n.auto.out ∙ l.invariant.0,
      omega (arith, n.auto, l.invariant),
      l.invariant.2 ∙ next_field l.out l.position l.i a.widths.now a.values.now h (omega (arith, c.requires)) n.ensures,
    )
