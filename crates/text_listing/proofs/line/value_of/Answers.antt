use Rattle.std.proofs.Common.{arith}
use Rattle.text_listing.proofs.Digits.{numeral, letter, neither}
use Rattle.text_listing.proofs.line.value_of.Goals as goal

pub returns-then-from_zero-lt10 : goal.returns-then-from_zero-lt10
returns-then-from_zero-lt10 c = let digit = numeral c.args.c (omega arith) (omega arith) in
    rw (digit.0, digit.1) (omega arith)

pub returns-then-from_a-lt6 : goal.returns-then-from_a-lt6
returns-then-from_a-lt6 c = let digit = letter c.args.c (omega arith) (omega arith) in
    rw (digit.0, digit.1) (omega arith)

pub returns : goal.returns
returns c = rw (neither c.args.c (λ h. omega arith) (λ h. omega arith))
