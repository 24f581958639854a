use Rattle.std.proofs.Common.{ℕ, ◌+◌, ◌≤◌, length, arith}
use Rattle.text.specs.Decimal.{decimal}
use Rattle.text.proofs.Decimals.{within_places}
use Rattle.text_listing.specs.declared.row.Entry.TheVariants.{Accepted, Refused}
use Rattle.text_listing.proofs.Lengths.{length_row, length_accepted, length_refused}
use Rattle.text_listing.proofs.row.row_octets.Goals as goal

-- no sum of a row's digits is large
few : (number code flags skipped : ℕ) → length (decimal number) + length (decimal code) + length (decimal flags) + length (decimal skipped) ≤ 80
few number code flags skipped = omega (arith, within_places 20 number, within_places 20 code, within_places 20 flags, within_places 20 skipped)

pub overflow_add-result : goal.overflow_add-result
overflow_add-result c = omega (arith, few c.args.number c.in-Accepted.code c.in-Accepted.flags c.in-Accepted.skipped)

pub overflow_add-result-in-Accepted : goal.overflow_add-result-in-Accepted
overflow_add-result-in-Accepted c = omega (arith, few c.args.number c.in-Accepted.code c.in-Accepted.flags c.in-Accepted.skipped)

pub overflow_add-result-in-Accepted-2 : goal.overflow_add-result-in-Accepted-2
overflow_add-result-in-Accepted-2 c = omega (arith, few c.args.number c.in-Accepted.code c.in-Accepted.flags c.in-Accepted.skipped)

pub overflow_add-result-in-Accepted-3 : goal.overflow_add-result-in-Accepted-3
overflow_add-result-in-Accepted-3 c = omega (arith, few c.args.number c.in-Accepted.code c.in-Accepted.flags c.in-Accepted.skipped)

pub overflow_add-result-in-Refused : goal.overflow_add-result-in-Refused
overflow_add-result-in-Refused c = omega (arith, few c.args.number c.in-Refused.answer 0 0)

pub overflow_add-result-in-Refused-2 : goal.overflow_add-result-in-Refused-2
overflow_add-result-in-Refused-2 c = omega (arith, few c.args.number c.in-Refused.answer 0 0)

pub returns-in-Accepted : goal.returns-in-Accepted
returns-in-Accepted c = let number = c.args.number in
    rw c.in-Accepted.is
    (omega (arith, length_row number (Accepted c.in-Accepted.code c.in-Accepted.flags c.in-Accepted.skipped), length_accepted c.in-Accepted.code c.in-Accepted.flags c.in-Accepted.skipped))

pub returns-in-Refused : goal.returns-in-Refused
returns-in-Refused c = let number = c.args.number in
    rw c.in-Refused.is (omega (arith, length_row number (Refused c.in-Refused.answer), length_refused c.in-Refused.answer))
