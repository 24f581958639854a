-- The proved examples of the windows, as a single table: what is found, and what is expected. Every number is computed from the
-- definitions that the contracts cite, or from the history alone (`seconds_of`). Ticks far from fresh are taken from a watch that
-- is given by its parts.
use Rattle.std.specs.Prelude.{ℕ, ◌-◌, ◌^◌, List, [], ◌∷◌, ◌++◌, true, false, take, replicate}
use Rattle.frame_tlvs.specs.Events.{event_of}
use Rattle.frame_tlvs.specs.declared.Event.{Event}
use Rattle.link_windows.specs.declared.Window.{Window}
use Rattle.link_windows.specs.Watches.{watch_of}
use Rattle.theorems_windows.specs.History.{seconds_of}
use Rattle.theorems_windows.specs.Runs.{watch_by, shown_by, WindowSettings, fresh_by}

-- what an example shows: the events of a tick, or numbers
pub data Seen : Type 0 where
  events : List Event → Seen
  numbers : List ℕ → Seen

-- ---- windows of 10 ticks with a threshold of 3, and of 100 ticks with one of 1

abbrev settings : WindowSettings
settings = record { frame_window = 10; frame_threshold = 3; seconds_window = 100; seconds_threshold = 1 }

-- their first events, with a timestamp, errors and the total of these
abbrev frames_event : (stamp errors total : ℕ) → Event
frames_event stamp errors total = event_of 2 (stamp ∷ 10 ∷ 3 ∷ errors ∷ total ∷ 1 ∷ [])

abbrev seconds_event : (stamp errors total : ℕ) → Event
seconds_event stamp errors total = event_of 4 (stamp ∷ 100 ∷ 1 ∷ errors ∷ total ∷ 1 ∷ [])

-- ---- from fresh

-- what a count shows after others
abbrev after : List ℕ → ℕ → Seen
after h count = events (shown_by (watch_by (fresh_by settings) h) count)

-- twenty counts with one bad frame, in some tick from 1 on
abbrev bad_in : ℕ → List ℕ
bad_in tick = replicate (tick - 1) 0 ++ (1 ∷ replicate (20 - tick) 0)

-- the errored seconds after ten of them and after all
abbrev errored_in : ℕ → Seen
errored_in tick =
    numbers
    ((watch_by (fresh_by settings) (take 10 (bad_in tick))).seconds.errors ∷ (watch_by (fresh_by settings) (bad_in tick)).seconds.errors ∷ [])

-- ---- from parts

-- a window of frames that lacks one tick, and one of seconds with some ticks
abbrev frames : (errors total : ℕ) → Window
frames errors total = record { length = 10; threshold = 3; at = 9; errors = errors; total = total; events = 0 }

abbrev seconds : (at total : ℕ) → Window
seconds at total = record { length = 100; threshold = 1; at = at; errors = 0; total = total; events = 0 }

-- one of 16 ticks that lacks its last
abbrev sixteenth : Window
sixteenth = record { length = 16; threshold = 3; at = 15; errors = 3; total = 3; events = 0 }

-- ---- the table

abbrev pub rows : List (Seen × Seen)
rows =
    -- counts that sum to 2 and to 3 at the tenth tick
    (after (2 ∷ replicate 8 0) 0, events [])
    ∷ (after (2 ∷ replicate 8 0) 1, events (frames_event 10 3 3 ∷ []))
    -- both windows end
    ∷ (after (replicate 99 0) 5, events (frames_event 100 5 5 ∷ seconds_event 100 1 1 ∷ []))
    -- the 65,536th tick, at which a window of 16 ticks ends
    ∷ (events (shown_by (watch_of sixteenth (seconds 35 0) 65535 true) 0), events (event_of 2 (0 ∷ 16 ∷ 3 ∷ 3 ∷ 3 ∷ 1 ∷ []) ∷ []))
    -- 2^32 errors
    ∷ (events (shown_by (watch_of (frames 0 0) (seconds 9 0) 9 false) (2 ^ 32)), events (frames_event 10 (2 ^ 32 - 1) (2 ^ 32) ∷ []))
    -- a total of 2^64 - 1 and 2 more, and one of 2^32 - 1 and one more
    ∷ (events (shown_by (watch_of (frames 1 (2 ^ 64 - 1)) (seconds 9 0) 9 true) 2), events (frames_event 10 3 1 ∷ []))
    ∷ (events (shown_by (watch_of (frames 0 0) (seconds 99 (2 ^ 32 - 1)) 99 false) 1), events (seconds_event 100 1 0 ∷ []))
    -- a bad frame in the tenth tick is the first second's, and in the eleventh the next one's
    ∷ (errored_in 10, numbers (1 ∷ 1 ∷ []))
    ∷ (numbers (seconds_of (bad_in 10)), numbers (1 ∷ 0 ∷ []))
    ∷ (errored_in 11, numbers (0 ∷ 1 ∷ []))
    ∷ (numbers (seconds_of (bad_in 11)), numbers (0 ∷ 1 ∷ []))
    ∷ []
