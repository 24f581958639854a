-- Bits of a number, and yes and no as one.
use Rattle.std.specs.Prelude.{ℕ, ◌/◌, ◌%◌, ◌^◌, Bool, true, false, eqb}

-- bit k of a number, counted from 0
unfoldable pub bit : ℕ → ℕ → Bool
bit k n = eqb (n / 2 ^ k % 2) 1

abbrev pub bit_of : Bool → ℕ
bit_of true = 1
bit_of false = 0
