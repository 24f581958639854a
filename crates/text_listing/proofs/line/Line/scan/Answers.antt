use Rattle.std.proofs.Common.{◌∙◌, arith}
use Rattle.text_listing.proofs.Leading.{scans_then, one_taken}
use Rattle.text_listing.proofs.line.Line.scan.Goals as goal

pub loop-i-preserved : goal.loop-i-preserved
loop-i-preserved c = let a = c.args in
    let l = c.loop-i in
    let t = c.take in (
      t.auto.frame ∙ l.invariant.0,
      scans_then l.invariant.1
          (record {
            onward = omega arith;
            within = omega arith;
            leads = λ room number said.
                rw (t.ensures.0, t.ensures.1) (one_taken a.piece.now l.self l.frame l.i c.loop-i-test.true c.if-c-eq-NEWLINE.false room number said);
          }),
    )
