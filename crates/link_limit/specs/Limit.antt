-- The limit on frames: "ten frames over any eleven successive" tick intervals. The present interval and the ten before it are the
-- stretch that is counted.
use Rattle.std.specs.Prelude.{ℕ, zero, suc, ◌+◌, ◌-◌, ◌*◌, ◌/◌, ◌%◌, ◌^◌, Bool, cond, ◌&&◌, nat_le, nat_lt}
use Rattle.link_limit.specs.declared.Meter.{Meter}

-- how many frames may be written in a stretch, and its intervals
abbrev pub most_frames : ℕ
most_frames = 10

abbrev pub stretch_intervals : ℕ
stretch_intervals = 11

-- the ticks of a timer second
abbrev pub second_ticks : ℕ
second_ticks = 10

abbrev pub new_meter : Meter
new_meter = record { ticks = 0; intervals = 0 }

abbrev pub meter_of : ℕ → ℕ → Meter
meter_of ticks intervals = record { ticks = ticks; intervals = intervals }

-- the frames of the newest k intervals: the count of each is a digit of four bits, that of the present one the lowest
unfoldable pub frames_of_newest : ℕ → ℕ → ℕ
frames_of_newest zero intervals = 0
frames_of_newest (suc k) intervals = intervals % 16 + frames_of_newest k (intervals / 16)

-- the written-frames number: the frames "written in the present and ten preceding intervals"
unfoldable pub written_frames : Meter → ℕ
written_frames m = frames_of_newest stretch_intervals m.intervals

-- the numbers that a meter comes to: a timer second has ten ticks, and a stretch eleven digits and at most ten frames
unfoldable pub is_bounded : Meter → Bool
is_bounded m = nat_lt m.ticks second_ticks && (nat_lt m.intervals (16 ^ stretch_intervals) && nat_le (written_frames m) most_frames)

-- one frame more may be written
unfoldable pub has_room : Meter → Bool
has_room m = nat_lt (written_frames m) most_frames

-- one frame more is written, "counted in the interval of its writing": room is asked first, so never more than ten are counted, and
-- the digit has room too
unfoldable pub charged_meter : Meter → Meter
charged_meter m = record { ticks = m.ticks; intervals = cond (has_room m) (m.intervals + 1) m.intervals }

-- "every tenth tick from fresh (link down or up) closes a timer second"
unfoldable pub closes : Meter → Bool
closes m = nat_le (second_ticks - 1) m.ticks

-- the meter after a tick, which opens an interval: the oldest of the eleven goes, and the new one has no frame yet
unfoldable pub turned_meter : Meter → Meter
turned_meter m = record { ticks = cond (closes m) 0 (m.ticks + 1); intervals = m.intervals % 16 ^ (stretch_intervals - 1) * 16 }
