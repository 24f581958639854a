-- The settings that a watch is made of, and what every watch keeps to that counts have made of a fresh one.
use Rattle.std.specs.Prelude.{ℕ, ◌-◌, ◌/◌, ◌%◌, ◌^◌, Bool, false, cond, not, ◌&&◌, ◌||◌, ◌==◌, nat_le, nat_lt, Result, Ok, Err}
use Rattle.octets.specs.declared.refusal.Refusal.{Refusal}
use Rattle.octets.specs.Refusals.{number}
use Rattle.octets.specs.Tests.{between}
use Rattle.link_limit.specs.Limit.{second_ticks}
use Rattle.link_windows.specs.declared.Watch.{Watch}
use Rattle.link_windows.specs.declared.Window.{Window}
use Rattle.link_windows.specs.Watches.{watch_of, phase_of}

-- ---- settings

-- "errored frames (10 to 600 ticks)"; a threshold is from 1 on and within its field, of four octets
unfoldable pub frame_settings : (length threshold : ℕ) → Bool
frame_settings length threshold = between 10 600 length && between 1 (2 ^ 32 - 1) threshold

-- "errored frame seconds (100 to 9,000 ticks, a multiple of 10)"; the threshold's field has two octets
unfoldable pub seconds_settings : (length threshold : ℕ) → Bool
seconds_settings length threshold = between 100 9000 length && (length % second_ticks == 0 && between 1 (2 ^ 16 - 1) threshold)

-- ---- a fresh watch

abbrev pub fresh_window : (length threshold : ℕ) → Window
fresh_window length threshold = record { length = length; threshold = threshold; at = 0; errors = 0; total = 0; events = 0 }

abbrev pub new_watch : (frame_window frame_threshold seconds_window seconds_threshold : ℕ) → Watch
new_watch frame_window frame_threshold seconds_window seconds_threshold =
    watch_of (fresh_window frame_window frame_threshold) (fresh_window seconds_window seconds_threshold) 0 false

-- a watch made of settings, or the number of their refusal
pub data MaybeWatch : Type 0 where
  Refused : ℕ → MaybeWatch
  Is : Watch → MaybeWatch

abbrev pub as_watch : Result Watch Refusal → MaybeWatch
as_watch (Ok w) = Is w
as_watch (Err refusal) = Refused (number refusal)

-- "another window, or a threshold of 0 or beyond its field, is 10"
unfoldable pub fresh_watch : (frame_window frame_threshold seconds_window seconds_threshold : ℕ) → MaybeWatch
fresh_watch frame_window frame_threshold seconds_window seconds_threshold =
    cond (frame_settings frame_window frame_threshold && seconds_settings seconds_window seconds_threshold)
    (Is (new_watch frame_window frame_threshold seconds_window seconds_threshold)) (Refused 10)

-- ---- what a watch keeps to

-- what the types of a window's numbers keep to
abbrev pub fitting : Window → Bool
fitting w = nat_lt w.errors (2 ^ 32) && (nat_lt w.total (2 ^ 64) && nat_lt w.events (2 ^ 32))

-- a window is not past its end, and has no errors before its first tick
unfoldable pub frames_proper : Window → Bool
frames_proper f =
    frame_settings f.length f.threshold
    && (nat_lt f.at f.length && ((not (f.at == 0) || f.errors == 0) && fitting f))

-- and no more errored seconds than whole seconds
unfoldable pub seconds_proper : Window → Bool
seconds_proper s =
    seconds_settings s.length s.threshold
    && (nat_lt s.at s.length && (nat_le s.errors (s.at / second_ticks) && (nat_lt s.total (2 ^ 32) && fitting s)))

-- a bad frame is kept only inside a second
unfoldable pub proper : Watch → Bool
proper w =
    frames_proper w.frames
    && (seconds_proper w.seconds && ((not w.bad || not (phase_of w == 0)) && nat_lt w.stamp (2 ^ 16)))
