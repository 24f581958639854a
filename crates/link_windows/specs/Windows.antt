-- One window at one tick: the ticks before it in the present window, the errors that it adds, and whether an event arises.
use Rattle.frame_tlvs.specs.declared.Event.{Event}
use Rattle.std.specs.Prelude.{ℕ, ◌+◌, ◌-◌, ◌%◌, ◌^◌, min, Bool, cond, ◌&&◌, [], ◌∷◌, nat_le, Option, None, Some}
use Rattle.frame_tlvs.specs.Events.{event_of}
use Rattle.link_windows.specs.declared.Window.{Window}

-- "errors too many for theirs show its largest value": that of four octets. (Of two, for the seconds of a window, 900 are the most.)
abbrev pub most_errors : ℕ
most_errors = 2 ^ 32 - 1

-- this tick is the window's last
unfoldable pub ends : Window → Bool
ends w = nat_le w.length (w.at + 1)

-- the errors of the present window with those that this tick adds, cut at the largest value
unfoldable pub summed : Window → ℕ → ℕ
summed w added = min most_errors (w.errors + added)

-- "An event arises when errors reach or exceed the threshold at the window's end"
unfoldable pub arises : Window → ℕ → Bool
arises w added = ends w && nat_le w.threshold (summed w added)

-- the event total, "itself included"
unfoldable pub events_after : Window → ℕ → ℕ
events_after w added = cond (arises w added) ((w.events + 1) % 2 ^ 32) w.events

-- the window after this tick: "Windows follow each other without a gap." The totals "wrap at their field's width".
unfoldable pub advanced : Window → ℕ → Window
advanced w added =
    record {
      length = w.length;
      threshold = w.threshold;
      at = cond (ends w) 0 (w.at + 1);
      errors = cond (ends w) 0 (summed w added);
      total = (w.total + added) % 2 ^ 64;
      events = events_after w added;
    }

-- the event of a type that arises at this tick, by the window before it, whose errors its end clears, and after it, whose totals
-- have this one in: "with totals since fresh, itself included, and as timestamp the ticks since fresh modulo 65,536"
unfoldable pub arisen_in : (kind stamp : ℕ) → Window → (added : ℕ) → Window → Option Event
arisen_in kind stamp before added after =
    cond (arises before added)
    (Some (event_of kind (stamp ∷ after.length ∷ after.threshold ∷ summed before added ∷ after.total ∷ after.events ∷ []))) None
