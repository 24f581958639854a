-- Both windows at one tick: "Take the count of bad frames at each tick and run two windows".
use Rattle.std.specs.Prelude.{ℕ, ◌+◌, ◌-◌, ◌%◌, ◌^◌, Bool, false, cond, not, ◌||◌, ◌==◌, Option}
use Rattle.frame_tlvs.specs.declared.Event.{Event}
use Rattle.octets.specs.Bits.{bit_of}
use Rattle.link_limit.specs.Limit.{second_ticks}
use Rattle.link_windows.specs.declared.Arisen.{Arisen}
use Rattle.link_windows.specs.declared.Watch.{Watch}
use Rattle.link_windows.specs.declared.Window.{Window}
use Rattle.link_windows.specs.Windows.{advanced, arisen_in}

abbrev pub watch_of : Window → Window → ℕ → Bool → Watch
watch_of frames seconds stamp bad = record { frames = frames; seconds = seconds; stamp = stamp; bad = bad }

-- "Seconds run from fresh": the ticks of the present one so far. A window of seconds is "a multiple of 10" ticks, so its ticks tell.
unfoldable pub phase_of : Watch → ℕ
phase_of w = w.seconds.at % second_ticks

-- this tick closes a second, and belongs to it
unfoldable pub closes_second : Watch → Bool
closes_second w = phase_of w == second_ticks - 1

-- "one with a bad frame is errored"
abbrev pub bad_second : Watch → ℕ → Bool
bad_second w count = w.bad || not (count == 0)

-- the errored seconds that a tick adds, by whether it closes a second and whether that has a bad frame
abbrev pub errored_seconds : (closes bad : Bool) → ℕ
errored_seconds closes bad = cond closes (bit_of bad) 0

-- whether the second that stands open after it has one
abbrev pub bad_after : (closes bad : Bool) → Bool
bad_after closes bad = cond closes false bad

-- a total of errored seconds has four octets
abbrev pub wrapped : Window → Window
wrapped w =
    record {
      length = w.length;
      threshold = w.threshold;
      at = w.at;
      errors = w.errors;
      total = w.total % 2 ^ 32;
      events = w.events;
    }

-- ---- what a count comes to

-- the watch after it, and what arose in each window
pub record Counted : Type 0 where
  pub watch : Watch
  pub frames : Option Event
  pub seconds : Option Event

abbrev pub errored_by : Watch → ℕ → ℕ
errored_by w count = errored_seconds (closes_second w) (bad_second w count)

-- "the ticks since fresh modulo 65,536"
abbrev pub stamp_after : Watch → ℕ
stamp_after w = (w.stamp + 1) % 65536

abbrev pub frames_after : Watch → ℕ → Window
frames_after w count = advanced w.frames count

abbrev pub seconds_after : Watch → ℕ → Window
seconds_after w count = wrapped (advanced w.seconds (errored_by w count))

abbrev pub watch_after : Watch → ℕ → Watch
watch_after w count =
    watch_of (frames_after w count) (seconds_after w count) (stamp_after w) (bad_after (closes_second w) (bad_second w count))

-- the watch after one more tick, and what arises: errored frames are of type 2, errored frame seconds of type 4
unfoldable pub taken_count : Watch → ℕ → Counted
taken_count w count =
    record {
      watch = watch_after w count;
      frames = arisen_in 2 (stamp_after w) w.frames count (frames_after w count);
      seconds = arisen_in 4 (stamp_after w) w.seconds (errored_by w count) (seconds_after w count);
    }

-- what a count comes to that stepped the watch where it stands
abbrev pub told_count : Watch → Arisen → Counted
told_count w arisen = record { watch = w; frames = arisen.frames; seconds = arisen.seconds }
