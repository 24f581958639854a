-- The watch that stands beside an end: its two windows, its stamp, and whether the present second has a bad frame.
use Rattle.std.specs.Prelude.{ℕ, List, [], ◌∷◌, ◌++◌, Bool, eqb, get_or}
use Rattle.octets.specs.Octets.{total, fields_at, octs}
use Rattle.octets.specs.Bits.{bit_of}
use Rattle.link_windows.specs.declared.Watch.{Watch}
use Rattle.link_windows.specs.declared.Window.{Window}
use Rattle.link_windows.specs.Watches.{watch_of}
use Rattle.oam_packing.specs.Parts.{together, part_of, is_bit}

-- ---- a window: the widths of its numbers are those of an event's fields, that of its ticks the window's

abbrev pub frames_widths : List ℕ
frames_widths = 2 ∷ 4 ∷ 2 ∷ 4 ∷ 8 ∷ 4 ∷ []

abbrev pub seconds_widths : List ℕ
seconds_widths = 2 ∷ 2 ∷ 2 ∷ 2 ∷ 4 ∷ 4 ∷ []

abbrev pub window_numbers : Window → List ℕ
window_numbers w = w.length ∷ w.threshold ∷ w.at ∷ w.errors ∷ w.total ∷ w.events ∷ []

-- the window with some numbers
abbrev pub window_with : List ℕ → Window
window_with n =
    record {
      length = get_or n 0 0;
      threshold = get_or n 1 0;
      at = get_or n 2 0;
      errors = get_or n 3 0;
      total = get_or n 4 0;
      events = get_or n 5 0;
    }

unfoldable pub frames_octets : Window → List ℕ
frames_octets w = octs frames_widths (window_numbers w)

unfoldable pub seconds_octets : Window → List ℕ
seconds_octets w = octs seconds_widths (window_numbers w)

unfoldable pub frames_from : List ℕ → Window
frames_from x = window_with (fields_at frames_widths x 0)

unfoldable pub seconds_from : List ℕ → Window
seconds_from x = window_with (fields_at seconds_widths x 0)

-- ---- the stamp, and whether the present second has a bad frame

abbrev pub stamp_widths : List ℕ
stamp_widths = 2 ∷ 1 ∷ []

unfoldable pub stamp_octets : ℕ → Bool → List ℕ
stamp_octets stamp bad = octs stamp_widths (stamp ∷ bit_of bad ∷ [])

-- ---- the watch

abbrev pub watch_lengths : List ℕ
watch_lengths = total frames_widths ∷ total seconds_widths ∷ total stamp_widths ∷ []

abbrev pub watch_length : ℕ
watch_length = total watch_lengths

abbrev pub watch_parts : Watch → List (List ℕ)
watch_parts w = frames_octets w.frames ∷ seconds_octets w.seconds ∷ stamp_octets w.stamp w.bad ∷ []

unfoldable pub watch_octets : Watch → List ℕ
watch_octets w = together (watch_parts w)

-- the octets of one part of a watch
abbrev pub watch_part : ℕ → List ℕ → List ℕ
watch_part k x = part_of watch_lengths k x

-- the stamp and the bit that stand in them
abbrev pub stamp_fields : List ℕ → List ℕ
stamp_fields x = fields_at stamp_widths (watch_part 2 x) 0

unfoldable pub watch_from : List ℕ → Watch
watch_from x =
    watch_of (frames_from (watch_part 0 x)) (seconds_from (watch_part 1 x)) (get_or (stamp_fields x) 0 0) (eqb (get_or (stamp_fields x) 1 0) 1)

-- its last octet is a bit; all others are numbers
abbrev pub is_watch : List ℕ → Bool
is_watch x = is_bit (get_or (watch_part 2 x) 2 0)

-- ---- as it is shown: the four settings, then of each window the ticks and errors so far and the totals, the stamp, the second

abbrev pub window_shown : Window → List ℕ
window_shown w = w.at ∷ w.errors ∷ w.total ∷ w.events ∷ []

unfoldable pub watch_shown : Watch → List ℕ
watch_shown w =
    (w.frames.length ∷ w.frames.threshold ∷ w.seconds.length ∷ w.seconds.threshold ∷ [])
    ++ (window_shown w.frames ++ (window_shown w.seconds ++ (w.stamp ∷ bit_of w.bad ∷ [])))
