-- The two laws of a link in octets.
use Prim.Native.Nat.{ℕ, ◌^◌}
use mathlib.Core.Path.{◌≡◌, refl}
use mathlib.Core.List.{List}
use mathlib.Core.Bool.{true}
use native.Mathlib.Nat.{zero-add}
use native.Mathlib.Omega.{arith}
use borrow.Author.Tests.{ltb-true, lt-ltb}
use lib.Dec.{ltb}
use lib.ListN.{length, get_or}
use Rattle.octets.specs.Octets.{Octets}
use Rattle.link_end.specs.declared.Link.{Link}
use Rattle.oam_packing.specs.Link.{link_widths, link_length, link_numbers, link_with, link_octets, link_from, is_link}
use Rattle.theorems_packing.proofs.Bits.{bit_is, bit_again}
use Rattle.octets.proofs.Masks.{bit_fits, bit_back}
use Rattle.theorems_packing.proofs.Fielding.{part_back, part_again}

pub link_back : (l : Link) → ltb l.lost 50 ≡ true → link_from (link_octets l) ≡ l
unfolding link_from link_octets
link_back l h =
    let lost = lt-ltb l.lost (256 ^ 1) (omega (arith, ltb-true l.lost 50 h)) in
    part_back link_widths link_numbers link_with l refl (rw (bit_fits l.up, lost)) (λ i. record { up = bit_back l.up i; lost = l.lost })

pub link_is : (l : Link) → is_link (link_octets l) ≡ true
unfolding link_octets
link_is l = bit_is l.up

pub link_again : (x : List ℕ) → Octets x → length x ≡ link_length → is_link x ≡ true → link_octets (link_from x) ≡ x
unfolding link_from link_octets
link_again x o l h = part_again link_widths link_numbers link_with x o l (rw (zero-add, bit_again (get_or x 0 0) h))
