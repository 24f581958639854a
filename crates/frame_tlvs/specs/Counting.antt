-- The TLV walk with the number of TLVs that it has skipped: "The TLV walk gives, beside each known TLV and at its end, the number
-- skipped since the body's start."
use Rattle.std.specs.Prelude.{ℕ, ◌+◌, ◌-◌, ◌^◌, ◌≡◌, List, length, cond, ltb, Option, None, Some, Result, Ok, Err}
use Rattle.std.specs.Iterator.{YieldsFirst}
use Rattle.octets.specs.declared.refusal.Refusal.{Refusal}
use Rattle.frame_tlvs.specs.Walk.{Next, stop, broken, skip, has, walk, items}
use Rattle.frame_tlvs.specs.Events.{EventStep, End as StepEnd, Broken as StepBroken, Skip as StepSkip, Has as StepHas, event_step, next_of}
use Rattle.frame_tlvs.specs.declared.Event.{Event}
use Rattle.frame_tlvs.specs.declared.Cursor.{Cursor}
use Rattle.frame_tlvs.specs.declared.Events.{Events}

-- A step with the cursor after it; at the end the number of all that were skipped. In the cursor behind an event stands the number
-- that were skipped before it.
pub data EventNext : Type 0 where
  End : ℕ → EventNext
  Broken : EventNext
  Skip : Cursor → EventNext
  Has : Event → Cursor → EventNext

-- at the body's start nothing is skipped
abbrev pub start : Cursor
start = record { at = 0; skipped = 0 }

-- one more; the largest number of 64 bits stays, which no body comes to
abbrev pub more : ℕ → ℕ
more n = cond (ltb n (2 ^ 64 - 1)) (n + 1) n

-- the cursor after a TLV that is known, and after one that is skipped
abbrev pub behind : Cursor → ℕ → Cursor
behind c next = record { at = next; skipped = c.skipped }

abbrev pub skipping : Cursor → ℕ → Cursor
skipping c next = record { at = next; skipped = more c.skipped }

abbrev pub counted_step : Cursor → EventStep → EventNext
counted_step c StepEnd = End c.skipped
counted_step c StepBroken = Broken
counted_step c (StepSkip next) = Skip (skipping c next)
counted_step c (StepHas e next) = Has e (behind c next)

-- what stands at a cursor of an Event Notification after its number, with the cursor after it
unfoldable pub event_next : List ℕ → Cursor → EventNext
event_next s c = counted_step c (event_step s c.at)

-- Where an iterator over a body of so many octets stands after a call, by what stood at its cursor: at the walk's end where it stood,
-- after what is broken at the body's end with the number as it was, and else at the cursor of the step.
abbrev pub cursor_after : {P : Type 0} → ℕ → Cursor → Next P → Cursor
cursor_after len c stop = c
cursor_after len c broken = behind c len
cursor_after len c (skip n) = skipping c n
cursor_after len c (has p n) = behind c n

-- ---- the iterator over the events

abbrev pub Item : Type 0
Item = Result (Option Event) Refusal

-- a step of the iterator, which then stands at the cursor after it
abbrev pub as_event_next : Option Item → Cursor → EventNext
as_event_next None c = End c.skipped
as_event_next (Some (Err r)) c = Broken
as_event_next (Some (Ok None)) c = Skip c
as_event_next (Some (Ok (Some e))) c = Has e c

-- what an iterator has left
abbrev pub left : Events → List Item
left e = items (walk (λ at. next_of (event_step e.body.now at)) (length e.body.now) e.cursor.at)

-- A call of `next`: it gives the first of what was left, which is the step at its cursor, and then stands where `cursor_after` says.
abbrev pub Steps : Events → Option Item → Events → Type 0
Steps e item f =
    YieldsFirst left e item f
    × (f.body.now ≡ e.body.now)
    × (as_event_next item f.cursor ≡ event_next e.body.now e.cursor)
    × (f.cursor ≡ cursor_after (length e.body.now) e.cursor (next_of (event_step e.body.now e.cursor.at)))
