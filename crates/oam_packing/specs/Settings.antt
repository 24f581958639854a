-- The settings of an end.
use Rattle.std.specs.Prelude.{ℕ, List, [], ◌∷◌, get_or}
use Rattle.octets.specs.Octets.{total, fields_at, octs}
use Rattle.link_peer.specs.declared.Settings.{Settings}

abbrev pub settings_widths : List ℕ
settings_widths = 1 ∷ 2 ∷ 3 ∷ 4 ∷ 6 ∷ 1 ∷ []

abbrev pub settings_length : ℕ
settings_length = total settings_widths

abbrev pub settings_numbers : Settings → List ℕ
settings_numbers s = s.configuration ∷ s.size ∷ s.oui ∷ s.vendor ∷ s.source ∷ s.required ∷ []

-- the settings with some numbers
abbrev pub settings_with : List ℕ → Settings
settings_with n =
    record {
      configuration = get_or n 0 0;
      size = get_or n 1 0;
      oui = get_or n 2 0;
      vendor = get_or n 3 0;
      source = get_or n 4 0;
      required = get_or n 5 0;
    }

unfoldable pub settings_octets : Settings → List ℕ
settings_octets s = octs settings_widths (settings_numbers s)

-- any octets of that length are those of settings
unfoldable pub settings_from : List ℕ → Settings
settings_from x = settings_with (fields_at settings_widths x 0)
