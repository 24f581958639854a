use Prim.Native.Nat.{ℕ, suc, ◌+◌, ◌^◌, ◌<◌}
use mathlib.Core.Path.{◌≡◌}
use lib.ListN.{length}
use Rattle.text.specs.Decimal.{decimal_in, decimal}
use Rattle.text.proofs.decimal.digits.Given as goal

-- So many digits in all, so many counted, and the rest: the rest's last digit is counted already, so that they are one more
-- than all together, and the rest fits into the places that are left of twenty.
abbrev pub Counted : ℕ → ℕ → ℕ → Type 0
Counted all count rest = (places : ℕ) × (count + places ≡ 20) × (rest < 10 ^ suc places) × (all + 1 ≡ count + length (decimal_in (suc places) rest))

abbrev pub invariant-loop-rest : goal.invariant-loop-rest
invariant-loop-rest l = Counted (length (decimal l.n)) l.count l.rest

abbrev pub decreases-loop-rest : goal.decreases-loop-rest
decreases-loop-rest l = l.rest
