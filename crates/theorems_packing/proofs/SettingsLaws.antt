-- The two laws of settings in octets.
use Prim.Native.Nat.{ℕ, ◌^◌}
use mathlib.Core.Path.{◌≡◌, refl}
use mathlib.Core.List.{List}
use mathlib.Core.Bool.{true}
use native.Mathlib.Omega.{arith}
use borrow.Author.Tests.{ltb-true, leb-true, lt-ltb}
use lib.Dec.{ltb, leb}
use lib.ListN.{length}
use Rattle.octets.specs.Octets.{Octets, fit}
use Rattle.octets.proofs.Bools.{and_l, and_r}
use Rattle.link_peer.specs.declared.Settings.{Settings}
use Rattle.link_peer.specs.Ranges.{sound}
use Rattle.oam_packing.specs.Settings.{settings_widths, settings_length, settings_numbers, settings_with, settings_octets, settings_from}
use Rattle.theorems_packing.proofs.Fielding.{part_back, part_again}

settings_fit : (s : Settings) → sound s ≡ true → ltb s.vendor (2 ^ 32) ≡ true → fit settings_widths (settings_numbers s) ≡ true
unfolding sound
settings_fit s h vendor =
    let configuration : ltb s.configuration 32 ≡ true = search and_l in
    let size : leb s.size 1518 ≡ true = search (and_l, and_r) in
    let oui : ltb s.oui (256 ^ 3) ≡ true = search (and_l, and_r) in
    let source : ltb s.source (256 ^ 6) ≡ true = search (and_l, and_r) in
    let required : ltb s.required 32 ≡ true = search (and_l, and_r) in
    rw (
      lt-ltb s.configuration (256 ^ 1) (omega (arith, ltb-true s.configuration 32 configuration)),
      lt-ltb s.size (256 ^ 2) (omega (arith, leb-true s.size 1518 size)),
      oui,
      vendor,
      source,
      lt-ltb s.required (256 ^ 1) (omega (arith, ltb-true s.required 32 required)),
    )

pub settings_back : (s : Settings) → sound s ≡ true → ltb s.vendor (2 ^ 32) ≡ true → settings_from (settings_octets s) ≡ s
unfolding settings_from settings_octets
settings_back s h vendor = part_back settings_widths settings_numbers settings_with s refl (settings_fit s h vendor) refl

pub settings_again : (x : List ℕ) → Octets x → length x ≡ settings_length → settings_octets (settings_from x) ≡ x
unfolding settings_from settings_octets
settings_again x o l = part_again settings_widths settings_numbers settings_with x o l refl
