-- The event TLVs of an Event Notification.
use Rattle.std.specs.Prelude.{ℕ, ◌+◌, List, Bool, ◌||◌, eqb, length, get_or, Option, None, Some, Result, Ok, Err}
use Rattle.octets.specs.Octets.{fields_at}
use Rattle.octets.specs.declared.refusal.Refusal.{Refusal}
use Rattle.frame_tlvs.specs.Walk.{Next, stop, broken, skip, has, Walk, walk}
use Rattle.frame_tlvs.specs.Tlvs.{row, Mark, End as MarkEnd, Broken as MarkBroken, Unknown, Known, mark_at}
use Rattle.frame_tlvs.specs.declared.Kind.TheVariants.{Events}
use Rattle.frame_tlvs.specs.declared.Event.{Event}
use Rattle.frame_tlvs.specs.declared.Placed.{Placed}

-- an event of a type and its six values, in the order of the table
abbrev pub event_of : ℕ → List ℕ → Event
event_of t values =
    record {
      kind = t;
      timestamp = get_or values 0 0;
      window = get_or values 1 0;
      threshold = get_or values 2 0;
      errors = get_or values 3 0;
      error_total = get_or values 4 0;
      event_total = get_or values 5 0;
    }

-- the event TLV of a type at octet `at`: its fields stand after its type and length octets
unfoldable pub event_at : List ℕ → ℕ → ℕ → Event
event_at s at t = event_of t (fields_at (row t) s (at + 2))

-- What stands at an octet of an Event Notification, with the octet after it; an unknown TLV is to be skipped.
pub data EventStep : Type 0 where
  End : EventStep
  Broken : EventStep
  Skip : ℕ → EventStep
  Has : Event → ℕ → EventStep

abbrev pub placed_event : Option Event → ℕ → EventStep
placed_event None next = Skip next
placed_event (Some e) next = Has e next

-- the step that the code takes
abbrev pub as_event_step : Option (Result (Placed (Option Event)) Refusal) → EventStep
as_event_step None = End
as_event_step (Some (Err r)) = Broken
as_event_step (Some (Ok p)) = placed_event p.part p.end

abbrev pub step_of : List ℕ → ℕ → Mark → EventStep
step_of s at MarkEnd = End
step_of s at MarkBroken = Broken
step_of s at (Unknown next) = Skip next
step_of s at (Known t next) = Has (event_at s at t) next

-- what stands at octet `at` of an Event Notification after its number
unfoldable pub event_step : List ℕ → ℕ → EventStep
event_step s at = step_of s at (mark_at Events s at)

abbrev pub next_of : EventStep → Next Event
next_of End = stop
next_of Broken = broken
next_of (Skip n) = skip n
next_of (Has e n) = has e n

unfoldable pub event_walk : List ℕ → Walk Event
event_walk s = walk (λ at. next_of (event_step s at)) (length s) 0

-- the widths of numbers that a processor takes at once, as `number` of src/numbers.rt reads them
abbrev pub is_word : ℕ → Bool
is_word width = eqb width 2 || (eqb width 4 || eqb width 8)
