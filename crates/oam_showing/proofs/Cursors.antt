-- What is stored of what stands at a cursor of a body of TLVs, by what the iterator gave there and where it then stands.
use Rattle.std.proofs.Common.{ℕ, ◌+◌, ◌≡◌, refl, ap, ◌∙◌, List, Option, None, Some, Result, Ok, Err}
use Rattle.octets.specs.declared.refusal.Refusal.{Refusal}
use Rattle.frame_tlvs.specs.Walk.{Next}
use Rattle.frame_tlvs.specs.Events.{event_step, next_of as event_next_of, EventStep, End as EventEnd, Broken as EventBroken, Skip as EventSkip, Has as EventHas}
use Rattle.frame_tlvs.specs.Counting.{event_next, as_event_next, counted_step as event_counted, EventNext, End as EventsEnd, Broken as EventsBroken, Skip as EventsSkip, Has as EventsHas}
use Rattle.frame_tlvs.specs.declared.Cursor.{Cursor}
use Rattle.frame_tlvs.specs.declared.Event.{Event}
use Rattle.frame_body.specs.declared.InformationPart.{InformationPart}
use Rattle.frame_body.specs.declared.InformationPart.TheVariants.{Local as local, Remote as remote}
use Rattle.frame_body.specs.Information.{information_step, next_of as information_next_of, InformationStep, End as StepEnd, Broken as StepBroken, Skip as StepSkip, Local as StepLocal, Remote as StepRemote}
use Rattle.frame_body.specs.Counting.{information_next, as_information_next, counted_step as information_counted, InformationNext, End as NextEnd, Broken as NextBroken, Skip as NextSkip, Local as NextLocal, Remote as NextRemote}
use Rattle.oam_showing.specs.Parts.{before, placed, information_row, event_row}
use Rattle.oam_showing.specs.Storing.{mapped, awaiting, part_row, event_row_of, tlv_next, information_row_at, event_row_at, row_stored, stood_of, stood_at, next_count, next_stored, StoringItem, StoringRow}

module _ (count first : ℕ) (lent : List ℕ) where
  -- what is said to stand at a cursor, how many parts there were then, and the lent numbers
  abbrev Made : Type 0
  Made = Option Cursor × ℕ × List ℕ

  abbrev made : Cursor → Next (ℕ → List ℕ) → Made
  made c next = (stood_of c next, next_count count next, next_stored c.skipped count first next lent)

  -- the same of what an iterator gave, which then stands at a cursor
  abbrev given : Cursor → Next (ℕ → List ℕ) → Made
  given after next = (stood_at after next, next_count count next, next_stored after.skipped count first next lent)

  -- and by the counted step, with the cursor that it gives
  abbrev information_made : InformationNext → Made
  information_made (NextEnd n) = (None, count, lent)
  information_made NextBroken = (None, count, lent)
  information_made (NextSkip after) = (Some after, count, lent)
  information_made (NextLocal i after) = (Some after, count + 1, row_stored count first (information_row (before (local i) after.at, after.skipped)) lent)
  information_made (NextRemote i after) = (Some after, count + 1, row_stored count first (information_row (before (remote i) after.at, after.skipped)) lent)

  abbrev event_made : EventNext → Made
  event_made (EventsEnd n) = (None, count, lent)
  event_made EventsBroken = (None, count, lent)
  event_made (EventsSkip after) = (Some after, count, lent)
  event_made (EventsHas e after) = (Some after, count + 1, row_stored count first (event_row (before e after.at, after.skipped)) lent)

  module _ (after : Cursor) where
    information_given : (item : Option (Result (Option InformationPart) Refusal)) → given after (tlv_next part_row item after.at) ≡ information_made (as_information_next item after)
    information_given None = refl
    information_given (Some (Err r)) = refl
    information_given (Some (Ok None)) = refl
    information_given (Some (Ok (Some (local i)))) = refl
    information_given (Some (Ok (Some (remote i)))) = refl

    event_given : (item : Option (Result (Option Event) Refusal)) → given after (tlv_next event_row_of item after.at) ≡ event_made (as_event_next item after)
    event_given None = refl
    event_given (Some (Err r)) = refl
    event_given (Some (Ok None)) = refl
    event_given (Some (Ok (Some e))) = refl

  module _ (c : Cursor) where
    information_same : (x : InformationStep) → information_made (information_counted c x) ≡ made c (mapped (awaiting information_row) (placed (information_next_of x)))
    information_same StepEnd = refl
    information_same StepBroken = refl
    information_same (StepSkip n) = refl
    information_same (StepLocal i n) = refl
    information_same (StepRemote i n) = refl

    event_same : (x : EventStep) → event_made (event_counted c x) ≡ made c (mapped (awaiting event_row) (placed (event_next_of x)))
    event_same EventEnd = refl
    event_same EventBroken = refl
    event_same (EventSkip n) = refl
    event_same (EventHas e n) = refl

    -- what is made of what the iterator gave is what is promised
    as_made : {next by_item : Next (ℕ → List ℕ)} {after : Cursor} {stood : Option Cursor} {count' : ℕ} {exit : List ℕ} → given after by_item ≡ made c next
        → StoringItem after first by_item count lent stood count' exit → StoringRow c first next count lent stood count' exit
    as_made same r =
        record {
          stands = r.stands ∙ ap (λ (m : Made). m.0) same;
          counted = r.counted ∙ ap (λ (m : Made). m.1) same;
          stored = r.stored ∙ ap (λ (m : Made). m.2) same;
        }

    pub information_stored : (f : List ℕ) (item : Option (Result (Option InformationPart) Refusal)) (after : Cursor) {stood : Option Cursor} {count' : ℕ} {exit : List ℕ}
        → as_information_next item after ≡ information_next f c → StoringItem after first (tlv_next part_row item after.at) count lent stood count' exit
        → StoringRow c first (information_row_at f c.at) count lent stood count' exit
    unfolding information_next
    information_stored f item after e = as_made (information_given after item ∙ ap information_made e ∙ information_same (information_step f c.at))

    pub event_stored : (f : List ℕ) (item : Option (Result (Option Event) Refusal)) (after : Cursor) {stood : Option Cursor} {count' : ℕ} {exit : List ℕ}
        → as_event_next item after ≡ event_next f c → StoringItem after first (tlv_next event_row_of item after.at) count lent stood count' exit
        → StoringRow c first (event_row_at f c.at) count lent stood count' exit
    unfolding event_next
    event_stored f item after e = as_made (event_given after item ∙ ap event_made e ∙ event_same (event_step f c.at))
