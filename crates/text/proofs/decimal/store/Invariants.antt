use Prim.Native.Nat.{ℕ}
use mathlib.Core.Path.{◌≡◌}
use mathlib.Core.List.{List}
use lib.ListN.{length}
use lib.Seq.{sets}
use Rattle.text.specs.Decimal.{decimal_in, decimal}
use Rattle.text.proofs.decimal.store.Given as goal

-- the whole is what storing the rest's digits gives, and so many they are
abbrev pub Left : List ℕ → List ℕ → ℕ → ℕ → ℕ → Type 0
Left whole out at left rest = (places : ℕ) × (left ≡ length (decimal_in places rest)) × (whole ≡ sets out at (decimal_in places rest))

abbrev pub invariant-loop-i : goal.invariant-loop-i
invariant-loop-i l = Left (sets l.fn.out l.at (decimal l.n)) l.out l.at l.i l.rest
