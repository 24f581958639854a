use Rattle.std.proofs.Common.{◌≡◌, ◌+◌, ◌*◌, ◌<◌, get_or, ◌∙◌, arith, length-set}
use Rattle.text_listing.specs.Taking.{value_of, held}
use Rattle.text_listing.proofs.Digits.{both_small}
use Rattle.text_listing.proofs.Leading.{octet_taken}
use Rattle.text_listing.proofs.line.Line.take_octets.Goals as goal

pub overflow_mul-frame : goal.overflow_mul-frame
overflow_mul-frame c = record { fits = omega (arith, both_small c.value_from-high.result c.value_from-low.result (omega arith)) }

pub overflow_add-frame : goal.overflow_add-frame
overflow_add-frame c = record { fits = omega (arith, both_small c.value_from-high.result c.value_from-low.result (omega arith)) }

pub loop-i-preserved : goal.loop-i-preserved
loop-i-preserved c = let l = c.loop-i in
    let piece = c.args.piece.now in
    let at = c.args.at + 2 * l.i in
    let octets = c.in-Whole.octets + l.i in
    let small = both_small c.value_from-high.result c.value_from-low.result (omega arith) in
    let high : c.value_from-high.result ≡ value_of (get_or piece at 0) = c.value_from-high.ensures in
    let low : c.value_from-low.result ≡ value_of (get_or piece (at + 1) 0) = c.value_from-low.ensures in
    let holds : octets < held l.frame = omega (arith, c.loop-i-test.true, c.min-count.ensures, c.saturating_sub.ensures, c.held.ensures, l.invariant.0) in
    let more : c.in-Whole.octets + (l.i + 1) ≡ octets + 1 = omega arith in
    let on : c.args.at + 2 * (l.i + 1) ≡ at + 2 = omega arith in (
      simp length-set l.invariant.0,
      omega arith,
      λ room number said.
          l.invariant.2 room number said
          ∙ rw (high, low, more, on) (octet_taken piece l.frame octets at (omega arith) holds (omega (arith, small.0, high)) (omega (arith, small.1, low)) room number said),
    )
