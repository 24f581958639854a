use mathlib.Core.Path.{◌∙◌}
use native.Mathlib.Omega.{arith}
use Rattle.text.proofs.Puts.{fitting}
use Rattle.text_eventlog.proofs.Turns.{field_at, parting_at, next_length, next_stored_lem}
use Rattle.text_eventlog.proofs.store.put_fields.Goals as goal

pub loop-i-preserved : goal.loop-i-preserved
loop-i-preserved c = let s = c.args.values.now in
    let l = c.loop-i in
    let h = c.loop-i-test.true in
    let n = c.put_decimal-at in
    let e = c.parting_octet-after.ensures ∙ parting_at s l.i in
    let t = next_length s l.i h in
    let p = fitting (field_at s l.i) l.out l.at (rw e at n.ensures) (omega (arith, l.invariant)) in (
      n.auto.out ∙ l.invariant.0,
      omega (arith, l.invariant, n.auto.out, p.next),
      l.invariant.2 ∙ next_stored_lem s l.i h l.out l.at ∙ rw (p.output, p.next),
    )
