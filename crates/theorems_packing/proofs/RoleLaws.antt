-- The two laws of a role in octets.
use Prim.Native.Nat.{ℕ, zero, suc}
use mathlib.Core.Path.{◌≡◌, refl}
use mathlib.Core.List.{List}
use mathlib.Core.Bool.{true}
use native.Mathlib.Nat.{zero-add}
use native.Mathlib.Omega.{arith}
use borrow.Author.Tests.{leb-true}
use lib.Dec.{leb}
use lib.ListN.{length, get_or}
use Rattle.octets.specs.Octets.{Octets}
use Rattle.link_loopback.specs.declared.Role.{Role}
use Rattle.link_loopback.specs.declared.Role.TheVariants.{Idle, Asking, Holding, Ending, Looping}
use Rattle.link_loopback.specs.Roles.{role_number, role_of}
use Rattle.oam_packing.specs.Roles.{role_widths, role_length, role_numbers, role_with, role_octets, role_from, is_role}
use Rattle.theorems_packing.proofs.Fielding.{part_again}

-- read back as that role, and the octets of one
pub role_back : (r : Role) → (role_from (role_octets r) ≡ r) × (is_role (role_octets r) ≡ true)
unfolding role_from role_octets
role_back Idle = (refl, refl)
role_back Asking = (refl, refl)
role_back Holding = (refl, refl)
role_back Ending = (refl, refl)
role_back Looping = (refl, refl)

number_again : (n : ℕ) → leb n 4 ≡ true → role_number (role_of n) ≡ n
number_again zero h = refl
number_again (suc zero) h = refl
number_again (suc (suc zero)) h = refl
number_again (suc (suc (suc zero))) h = refl
number_again (suc (suc (suc (suc zero)))) h = refl
number_again (suc (suc (suc (suc (suc n))))) h = absurd (omega (arith, leb-true (suc (suc (suc (suc (suc n))))) 4 h))

pub role_again : (x : List ℕ) → Octets x → length x ≡ role_length → is_role x ≡ true → role_octets (role_from x) ≡ x
unfolding role_from role_octets
role_again x o l h =
    part_again role_widths role_numbers role_with x o l (rw (zero-add, number_again (get_or x 0 0) h))
