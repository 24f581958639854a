-- Laws of the ranges: each of the tests, and what the types of the fields alone keep to.
use Prim.Native.Nat.{ℕ, zero, suc, ◌^◌, ◌<◌}
use mathlib.Core.Path.{◌≡◌, refl}
use mathlib.Core.List.{List, [], ◌∷◌}
use mathlib.Core.Bool.{Bool, true, and-true}
use borrow.Author.Tests.{lt-ltb}
use lib.Dec.{ltb}
use lib.ListN.{get_or}
use Rattle.frame_body.specs.declared.Information.{Information}
use Rattle.octets.specs.Octets.{fit}
use Rattle.frame_body.specs.Information.{information_widths, information_values}
use Rattle.octets.proofs.Bools.{and_l, and_r}
use Rattle.link_end.specs.Ranges.{all}

-- one of the tests that all hold
pub all_at : (bs : List Bool) (n : ℕ) → all bs ≡ true → get_or bs n true ≡ true
all_at [] n h = refl
all_at (b ∷ bs) zero h = and_l b (all bs) h
all_at (b ∷ bs) (suc n) h = all_at bs n (and_r b (all bs) h)

-- of a record's fields only the OUI is narrower than its type
pub only_oui : (i : Information)
    → i.version < 2 ^ 8 → i.revision < 2 ^ 16 → i.state < 2 ^ 8 → i.configuration < 2 ^ 8 → i.oampdu < 2 ^ 16 → i.vendor < 2 ^ 32
    → fit information_widths (information_values i) ≡ ltb i.oui (256 ^ 3)
only_oui i v r s c o d =
    rw (
      lt-ltb i.version (2 ^ 8) v,
      lt-ltb i.revision (2 ^ 16) r,
      lt-ltb i.state (2 ^ 8) s,
      lt-ltb i.configuration (2 ^ 8) c,
      lt-ltb i.oampdu (2 ^ 16) o,
      lt-ltb i.vendor (2 ^ 32) d,
    )
    (and-true (ltb i.oui (256 ^ 3)))
