-- A decimal field as it is read.
use Rattle.std.specs.Prelude.{ℕ, ◌+◌, ◌*◌, ◌-◌, ◌^◌, List, [], ◌∷◌, Bool, true, false, cond, not, ◌&&◌, ltb, eqb, Option, Some, None}
use Rattle.frame_writer.specs.Plain.{between, every}

-- the number that digits say after those that said n
abbrev pub value_from : ℕ → List ℕ → ℕ
value_from n [] = n
value_from n (d ∷ ds) = value_from (n * 10 + (d - 48)) ds

abbrev pub value_of : List ℕ → ℕ
value_of ds = value_from 0 ds

-- an octet from `0` to `9`
abbrev pub digit : ℕ → Bool
digit x = between 48 57 x

-- "No leading zeros (zero is `0`)", and no empty field
abbrev pub no_leading_zero : List ℕ → Bool
no_leading_zero [] = false
no_leading_zero (d ∷ []) = true
no_leading_zero (d ∷ e ∷ ds) = not (eqb d 48)

-- a decimal field of a number within 64 bits
unfoldable pub is_decimal : List ℕ → Bool
is_decimal ds = no_leading_zero ds && (every digit ds && ltb (value_of ds) (2 ^ 64))

unfoldable pub number_of : List ℕ → Option ℕ
number_of ds = cond (is_decimal ds) (Some (value_of ds)) None

-- a number with one more digit
unfoldable pub with_digit : ℕ → ℕ → Option ℕ
with_digit n x = cond (digit x && ltb (n * 10 + (x - 48)) (2 ^ 64)) (Some (n * 10 + (x - 48))) None
