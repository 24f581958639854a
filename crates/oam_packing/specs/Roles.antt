-- The role of an end, kept by its number.
use Rattle.std.specs.Prelude.{ℕ, List, [], ◌∷◌, Bool, leb, get_or}
use Rattle.octets.specs.Octets.{total, fields_at, octs}
use Rattle.link_loopback.specs.declared.Role.{Role}
use Rattle.link_loopback.specs.Roles.{role_number, role_of}

abbrev pub role_widths : List ℕ
role_widths = 1 ∷ []

abbrev pub role_length : ℕ
role_length = total role_widths

abbrev pub role_numbers : Role → List ℕ
role_numbers r = role_number r ∷ []

-- the role with some numbers
abbrev pub role_with : List ℕ → Role
role_with n = role_of (get_or n 0 0)

unfoldable pub role_octets : Role → List ℕ
role_octets r = octs role_widths (role_numbers r)

unfoldable pub role_from : List ℕ → Role
role_from x = role_with (fields_at role_widths x 0)

-- a role is one of five
abbrev pub is_role : List ℕ → Bool
is_role x = leb (get_or x 0 0) 4
