use Rattle.std.proofs.Common.{◌≡◌, ◌∙◌, arith}
use Rattle.text_listing.specs.Lines.{digit_of}
use Rattle.text_listing.specs.Taking.{line_with, frame_with}
use Rattle.text_listing.proofs.Digits.{digit, foreign}
use Rattle.text_listing.proofs.line.Line.take.Goals as goal

pub returns-then-value-gt15 : goal.returns-then-value-gt15
unfolding line_with frame_with
returns-then-value-gt15 c = let f = foreign c.args.c (omega arith) in
    (rw f, rw f)

pub returns-in-Whole : goal.returns-in-Whole
unfolding line_with frame_with
returns-in-Whole c = let d = digit c.args.c (omega arith) in
    let value : c.value_of-value.result ≡ digit_of c.args.c = c.value_of-value.ensures ∙ rw d in
    (rw (d, c.in-Whole.is, value), rw (d, c.in-Whole.is))

pub returns-in-Half : goal.returns-in-Half
unfolding line_with frame_with
returns-in-Half c = let d = digit c.args.c (omega arith) in
    let value : c.value_of-value.result ≡ digit_of c.args.c = c.value_of-value.ensures ∙ rw d in
    (rw (d, c.in-Half.is, c.counted.ensures), c.keep.ensures ∙ rw (d, c.in-Half.is, value))

pub returns-in-Foreign : goal.returns-in-Foreign
unfolding line_with frame_with
returns-in-Foreign c = let d = digit c.args.c (omega arith) in
    (rw (d, c.in-Foreign.is), rw (d, c.in-Foreign.is))
