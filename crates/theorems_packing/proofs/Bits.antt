-- Numbers of one octet, and yes or no in one.
use Prim.Native.Nat.{ℕ, ◌%◌}
use mathlib.Core.Path.{◌≡◌, refl}
use mathlib.Core.Bool.{Bool, true, false}
use native.Mathlib.Omega.{arith}
use borrow.Author.Tests.{leb-true}
use lib.Dec.{eqb}
use Rattle.octets.specs.Bits.{bit_of}
use Rattle.octets.proofs.Masks.{bit_again as below_two}
use Rattle.oam_packing.specs.Parts.{is_bit}

-- ---- yes is 1 and no is 0, both ways

pub bit_is : (b : Bool) → is_bit (bit_of b % 256) ≡ true
bit_is true = refl
bit_is false = refl

pub bit_again : (n : ℕ) → is_bit n ≡ true → bit_of (eqb n 1) ≡ n
bit_again n h = below_two n (omega (arith, leb-true n 1 h))
