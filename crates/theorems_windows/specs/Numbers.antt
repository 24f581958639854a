-- What a watch holds after some counts, and what the last of them shows: each by the history alone.
use Rattle.std.specs.Prelude.{ℕ, ◌-◌, ◌/◌, ◌%◌, ◌^◌, min, ◌≡◌, List, length}
use Rattle.link_limit.specs.Limit.{second_ticks}
use Rattle.link_windows.specs.Watches.{Counted}
use Rattle.link_windows.specs.declared.Watch.{Watch}
use Rattle.link_windows.specs.declared.Window.{Window}
use Rattle.theorems_windows.specs.History.{sum_of, present_of, reached_in, errored, seconds_of, stamp_of, frames_arisen, seconds_arisen}
use Rattle.theorems_windows.specs.Runs.{WindowSettings}

-- the window of errored frames, of n ticks and a threshold t
pub record FramesHeld (n t : ℕ) (h : List ℕ) (f : Window) : Type 0 where
  pub window : f.length ≡ n
  pub threshold : f.threshold ≡ t
  pub at : f.at ≡ length h % n
  pub errors : f.errors ≡ min (2 ^ 32 - 1) (sum_of (present_of n h))
  pub total : f.total ≡ sum_of h % 2 ^ 64
  pub events : f.events ≡ reached_in n t h % 2 ^ 32

-- the window of errored frame seconds: its ticks are those of the history, its errors the errored seconds
pub record SecondsHeld (n t : ℕ) (h : List ℕ) (f : Window) : Type 0 where
  pub window : f.length ≡ n
  pub threshold : f.threshold ≡ t
  pub at : f.at ≡ length h % n
  pub errors : f.errors ≡ sum_of (present_of (n / second_ticks) (seconds_of h))
  pub total : f.total ≡ sum_of (seconds_of h) % 2 ^ 32
  pub events : f.events ≡ reached_in (n / second_ticks) t (seconds_of h) % 2 ^ 32

-- both, the timestamp, and whether the present second has a bad frame
pub record HeldAfter (s : WindowSettings) (h : List ℕ) (w : Watch) : Type 0 where
  pub frames : FramesHeld s.frame_window s.frame_threshold h w.frames
  pub seconds : SecondsHeld s.seconds_window s.seconds_threshold h w.seconds
  pub stamp : w.stamp ≡ stamp_of h
  pub bad : w.bad ≡ errored (present_of second_ticks h)

-- what arises at the last tick of a history
pub record ArisenOf (s : WindowSettings) (h : List ℕ) (c : Counted) : Type 0 where
  pub frames : c.frames ≡ frames_arisen s.frame_window s.frame_threshold h
  pub seconds : c.seconds ≡ seconds_arisen s.seconds_window s.seconds_threshold h
