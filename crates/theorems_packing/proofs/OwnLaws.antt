-- The two laws of what an end says of itself in octets.
use Prim.Native.Nat.{ℕ, ◌^◌}
use mathlib.Core.Path.{◌≡◌, refl}
use mathlib.Core.List.{List}
use mathlib.Core.Bool.{true}
use native.Mathlib.Nat.{zero-add}
use lib.Dec.{ltb}
use lib.ListN.{length, get_or}
use Rattle.octets.specs.Octets.{Octets}
use Rattle.octets.proofs.Bools.{and_l, and_r}
use Rattle.link_end.specs.declared.Own.{Own}
use Rattle.oam_packing.specs.Parts.{is_bit}
use Rattle.oam_packing.specs.Own.{own_widths, own_length, own_numbers, own_with, own_octets, own_from, is_own}
use Rattle.theorems_packing.proofs.Bits.{bit_is, bit_again}
use Rattle.octets.proofs.Masks.{bit_fits, bit_back}
use Rattle.theorems_packing.proofs.Fielding.{part_back, part_again}

pub own_back : (o : Own) → ltb o.revision (2 ^ 16) ≡ true → ltb o.number (2 ^ 16) ≡ true → own_from (own_octets o) ≡ o
unfolding own_from own_octets
own_back o r n =
    part_back own_widths own_numbers own_with o refl (rw (r, n, bit_fits o.gasp, bit_fits o.critical, bit_fits o.owed))
    (λ i.
    record {
      revision = o.revision;
      number = o.number;
      gasp = bit_back o.gasp i;
      critical = bit_back o.critical i;
      owed = bit_back o.owed i;
    })

pub own_is : (o : Own) → is_own (own_octets o) ≡ true
unfolding own_octets
own_is o = rw (bit_is o.gasp, bit_is o.critical, bit_is o.owed)

pub own_again : (x : List ℕ) → Octets x → length x ≡ own_length → is_own x ≡ true → own_octets (own_from x) ≡ x
unfolding own_from own_octets
own_again x o l h =
    let gasp : is_bit (get_or x 4 0) ≡ true = search and_l in
    let critical : is_bit (get_or x 5 0) ≡ true = search (and_l, and_r) in
    let owed : is_bit (get_or x 6 0) ≡ true = search (and_l, and_r) in
    part_again own_widths own_numbers own_with x o l
    (simp (zero-add, bit_again (get_or x 4 0) gasp, bit_again (get_or x 5 0) critical, bit_again (get_or x 6 0) owed))
