-- What an end says of itself.
use Rattle.std.specs.Prelude.{ℕ, List, [], ◌∷◌, Bool, ◌&&◌, eqb, get_or}
use Rattle.octets.specs.Octets.{total, fields_at, octs}
use Rattle.octets.specs.Bits.{bit_of}
use Rattle.link_end.specs.declared.Own.{Own}
use Rattle.oam_packing.specs.Parts.{is_bit}

abbrev pub own_widths : List ℕ
own_widths = 2 ∷ 2 ∷ 1 ∷ 1 ∷ 1 ∷ []

abbrev pub own_length : ℕ
own_length = total own_widths

abbrev pub own_numbers : Own → List ℕ
own_numbers o = o.revision ∷ o.number ∷ bit_of o.gasp ∷ bit_of o.critical ∷ bit_of o.owed ∷ []

-- the same with some numbers
abbrev pub own_with : List ℕ → Own
own_with n =
    record {
      revision = get_or n 0 0;
      number = get_or n 1 0;
      gasp = eqb (get_or n 2 0) 1;
      critical = eqb (get_or n 3 0) 1;
      owed = eqb (get_or n 4 0) 1;
    }

unfoldable pub own_octets : Own → List ℕ
own_octets o = octs own_widths (own_numbers o)

unfoldable pub own_from : List ℕ → Own
own_from x = own_with (fields_at own_widths x 0)

abbrev pub is_own : List ℕ → Bool
is_own x = is_bit (get_or x 4 0) && (is_bit (get_or x 5 0) && is_bit (get_or x 6 0))
