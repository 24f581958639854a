use Prim.Native.Nat.{◌+◌}
use mathlib.Core.Path.{◌≡◌}
use mathlib.Core.Bool.{true}
use lib.ListN.{length}
use lib.Seq.{sets}
use Rattle.octets.specs.Layout.{events_start}
use Rattle.octets.specs.Tests.{every}
use Rattle.frame_writer.specs.Encode.{event_octets, joined}
use Rattle.frame_writer.specs.Plain.{plain_event, events_length}
use Rattle.frame_writer.specs.Writing.{events_of}
use Rattle.frame_writer.proofs.Sevens.{left_from}
use Rattle.frame_writer.proofs.events.put_events.Given as goal

abbrev pub invariant-loop-event : goal.invariant-loop-event
invariant-loop-event l =
    let left = left_from l.events l.event-index in
    record {
      kept : length l.out ≡ length l.initial.out;
      next : l.position + events_length left ≡ events_start + events_length (events_of l.events);
      plain : every plain_event left ≡ true;
      stored : sets l.initial.out events_start (joined event_octets (events_of l.events)) ≡ sets l.out l.position (joined event_octets left);
    }
