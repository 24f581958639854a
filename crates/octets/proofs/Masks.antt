-- Masks as remainders, an or of numbers that share no bit, and yes and no as one bit.
use Prim.Native.Nat.{ℕ, zero, suc, ◌+◌, ◌*◌, ◌/◌, ◌%◌, ◌^◌, ◌<◌}
use mathlib.Core.Path.{◌≡◌, refl, subst}
use mathlib.Core.Bool.{Bool, true, false}
use native.Mathlib.Omega.{arith}
use lib.Dec.{ltb, eqb}
use lib.Bits.{bit_and, bit_or, and_mask, or_shifted}
use lib.Pow.{split}
use Rattle.octets.specs.Bits.{bit_of}

-- masks as remainders
pub mask_1 : (n : ℕ) → bit_and n 1 ≡ n % 2
mask_1 n = and_mask n 1

pub mask_3 : (n : ℕ) → bit_and n 3 ≡ n % 4
mask_3 n = and_mask n 2

-- an or of numbers that share no bit: x is a multiple of 2 ^ k, and y is below it
pub or_sum : (k x y : ℕ) → x % 2 ^ k ≡ 0 → y < 2 ^ k → bit_or x y ≡ x + y
or_sum k x y e h =
    let whole : x / 2 ^ k * 2 ^ k ≡ x = omega (arith, split x k) in
    subst (λ (n : ℕ). bit_or n y ≡ n + y) whole (or_shifted (x / 2 ^ k) k y h)

-- yes is 1 and no is 0: such a number is below 2 and fits one octet, and both come back
pub bit_lt : (on : Bool) → bit_of on < 2
bit_lt true = omega arith
bit_lt false = omega arith

pub bit_fits : (on : Bool) → ltb (bit_of on) (256 ^ 1) ≡ true
bit_fits true = refl
bit_fits false = refl

pub bit_back : (on : Bool) → eqb (bit_of on) 1 ≡ on
bit_back true = refl
bit_back false = refl

pub bit_again : (n : ℕ) → n < 2 → bit_of (eqb n 1) ≡ n
bit_again zero h = refl
bit_again (suc zero) h = refl
bit_again (suc (suc n)) h = absurd (omega arith)
