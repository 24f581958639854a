-- The meter of an end.
use Rattle.std.specs.Prelude.{ℕ, List, [], ◌∷◌, get_or}
use Rattle.octets.specs.Octets.{total, fields_at, octs}
use Rattle.link_limit.specs.declared.Meter.{Meter}
use Rattle.link_limit.specs.Limit.{meter_of, written_frames}

abbrev pub meter_widths : List ℕ
meter_widths = 1 ∷ 6 ∷ []

abbrev pub meter_length : ℕ
meter_length = total meter_widths

abbrev pub meter_numbers : Meter → List ℕ
meter_numbers m = m.ticks ∷ m.intervals ∷ []

-- the same as it is shown, with the frames written in the place of the intervals' digits
abbrev pub meter_shown : Meter → List ℕ
meter_shown m = m.ticks ∷ written_frames m ∷ []

-- the meter with some numbers
abbrev pub meter_with : List ℕ → Meter
meter_with n = meter_of (get_or n 0 0) (get_or n 1 0)

unfoldable pub meter_octets : Meter → List ℕ
meter_octets m = octs meter_widths (meter_numbers m)

-- any octets of that length are those of a meter
unfoldable pub meter_from : List ℕ → Meter
meter_from x = meter_with (fields_at meter_widths x 0)
