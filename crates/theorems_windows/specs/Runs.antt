-- A watch that counts have made of a fresh one, and what the theorems presuppose of its settings.
use Rattle.std.specs.Prelude.{ℕ, ◌≡◌, List, [], ◌∷◌, Bool, true, leb}
use Rattle.frame_tlvs.specs.declared.Event.{Event}
use Rattle.link_windows.specs.declared.Watch.{Watch}
use Rattle.link_windows.specs.Watches.{taken_count}
use Rattle.link_windows.specs.Ranges.{frame_settings, seconds_settings, new_watch}
use Rattle.theorems_windows.specs.History.{events_in}

-- the watch after some counts, the oldest first
abbrev pub watch_by : Watch → List ℕ → Watch
watch_by w [] = w
watch_by w (count ∷ h) = watch_by (taken_count w count).watch h

-- the events that a count shows
abbrev pub shown_by : Watch → ℕ → List Event
shown_by w count = events_in (taken_count w count).frames (taken_count w count).seconds

-- "errors reach or exceed the threshold"
abbrev pub reaches_own : Event → Bool
reaches_own e = leb e.threshold e.errors

-- the four settings
pub record WindowSettings : Type 0 where
  pub frame_window : ℕ
  pub frame_threshold : ℕ
  pub seconds_window : ℕ
  pub seconds_threshold : ℕ

-- those that are not refused
pub record Accepted (s : WindowSettings) : Type 0 where
  pub frames : frame_settings s.frame_window s.frame_threshold ≡ true
  pub seconds : seconds_settings s.seconds_window s.seconds_threshold ≡ true

abbrev pub fresh_by : WindowSettings → Watch
fresh_by s = new_watch s.frame_window s.frame_threshold s.seconds_window s.seconds_threshold
