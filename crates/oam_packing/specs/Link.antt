-- The link of an end.
use Rattle.std.specs.Prelude.{ℕ, List, [], ◌∷◌, Bool, eqb, get_or}
use Rattle.octets.specs.Octets.{total, fields_at, octs}
use Rattle.octets.specs.Bits.{bit_of}
use Rattle.link_end.specs.declared.Link.{Link}
use Rattle.oam_packing.specs.Parts.{is_bit}

abbrev pub link_widths : List ℕ
link_widths = 1 ∷ 1 ∷ []

abbrev pub link_length : ℕ
link_length = total link_widths

abbrev pub link_numbers : Link → List ℕ
link_numbers l = bit_of l.up ∷ l.lost ∷ []

-- the link with some numbers
abbrev pub link_with : List ℕ → Link
link_with n = record { up = eqb (get_or n 0 0) 1; lost = get_or n 1 0 }

unfoldable pub link_octets : Link → List ℕ
link_octets l = octs link_widths (link_numbers l)

unfoldable pub link_from : List ℕ → Link
link_from x = link_with (fields_at link_widths x 0)

abbrev pub is_link : List ℕ → Bool
is_link x = is_bit (get_or x 0 0)
