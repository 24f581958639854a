-- The TLV walk over a body with the number of TLVs that it has skipped.
use Rattle.std.specs.Prelude.{ℕ, ◌≡◌, List, cond, length, Option, None, Some, Result, Ok, Err}
use Rattle.std.specs.Iterator.{YieldsFirst}
use Rattle.octets.specs.declared.refusal.Refusal.{Refusal}
use Rattle.frame_tlvs.specs.Walk.{Walk, walk, whole, skipped_in, items}
use Rattle.frame_tlvs.specs.Events.{event_walk}
use Rattle.frame_tlvs.specs.Counting.{behind, skipping, cursor_after}
use Rattle.frame_tlvs.specs.declared.Cursor.{Cursor}
use Rattle.frame_body.specs.Information.{InformationStep, End as StepEnd, Broken as StepBroken, Skip as StepSkip, Local as StepLocal, Remote as StepRemote, information_step, next_of}
use Rattle.frame_body.specs.declared.Information.{Information}
use Rattle.frame_body.specs.declared.InformationPart.{InformationPart}
use Rattle.frame_body.specs.declared.InformationPart.TheVariants.{Local as local, Remote as remote}
use Rattle.frame_body.specs.declared.Informations.{Informations}

-- A step with the cursor after it; at the end the number of all TLVs that were skipped. In the cursor behind a Local or Remote
-- stands the number that were skipped before it.
pub data InformationNext : Type 0 where
  End : ℕ → InformationNext
  Broken : InformationNext
  Skip : Cursor → InformationNext
  Local : Information → Cursor → InformationNext
  Remote : Information → Cursor → InformationNext

abbrev pub counted_step : Cursor → InformationStep → InformationNext
counted_step c StepEnd = End c.skipped
counted_step c StepBroken = Broken
counted_step c (StepSkip next) = Skip (skipping c next)
counted_step c (StepLocal i next) = Local i (behind c next)
counted_step c (StepRemote i next) = Remote i (behind c next)

-- what stands at a cursor of an Information body, with the cursor after it
unfoldable pub information_next : List ℕ → Cursor → InformationNext
information_next s c = counted_step c (information_step s c.at)

-- ---- the iterator over the parts of an Information body

abbrev pub Item : Type 0
Item = Result (Option InformationPart) Refusal

-- a step of the iterator, which then stands at the cursor after it
abbrev pub as_information_next : Option Item → Cursor → InformationNext
as_information_next None c = End c.skipped
as_information_next (Some (Err r)) c = Broken
as_information_next (Some (Ok None)) c = Skip c
as_information_next (Some (Ok (Some (local i)))) c = Local i c
as_information_next (Some (Ok (Some (remote i)))) c = Remote i c

-- what an iterator has left
abbrev pub left : Informations → List Item
left i = items (walk (λ at. next_of (information_step i.body.now at)) (length i.body.now) i.cursor.at)

-- A call of `next`: it gives the first of what was left, which is the step at its cursor, and then stands where `cursor_after` says.
abbrev pub Steps : Informations → Option Item → Informations → Type 0
Steps i item j =
    YieldsFirst left i item j
    × (j.body.now ≡ i.body.now)
    × (as_information_next item j.cursor ≡ information_next i.body.now i.cursor)
    × (j.cursor ≡ cursor_after (length i.body.now) i.cursor (next_of (information_step i.body.now i.cursor.at)))

-- ---- the events of a notification

-- What they come to: one is broken, or how many TLVs are skipped among them.
pub data JudgedEvents : Type 0 where
  BrokenEvent : JudgedEvents
  WholeEvents : ℕ → JudgedEvents

-- the judgement that the code gives
abbrev pub as_judged_events : Result ℕ Refusal → JudgedEvents
as_judged_events (Err r) = BrokenEvent
as_judged_events (Ok skipped) = WholeEvents skipped

-- whether a walk ends, and does not break off, and then how many TLVs it skips
abbrev pub judged_walk : {P : Type 0} → Walk P → JudgedEvents
judged_walk w = cond (whole w) (WholeEvents (skipped_in w)) BrokenEvent

unfoldable pub judged_events : List ℕ → JudgedEvents
judged_events s = judged_walk (event_walk s)
