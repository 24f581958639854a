use Prim.Native.Nat.{◌*◌, ◌≤◌}
use mathlib.Core.Path.{◌≡◌}
use Rattle.frame_writer.specs.Writing.{events_of, measured_events}
use Rattle.frame_writer.proofs.Sevens.{left_from, summed}
use Rattle.frame_writer.proofs.events.measured_events.Given as goal

abbrev pub invariant-loop-event : goal.invariant-loop-event
invariant-loop-event l =
    record {
      some : l.event-index ≤ l.octets;
      few : l.octets ≤ l.event-index * 40;
      measured : measured_events (events_of l.events) ≡ summed l.octets (left_from l.events l.event-index);
    }
