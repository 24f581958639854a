-- What a writer promises: its answer, and its whole output.
use Rattle.std.specs.Prelude.{ℕ, zero, suc, ◌/◌, ◌%◌, ◌≡◌, List, [], ◌∷◌, Bool, false, cond, length, get_or, drop, ltb, eqb, Option, None, Some, Result, Ok, Err}
use Rattle.std.proofs.lemmas.List.Edits.{sets}
use Rattle.frame_body.specs.declared.InformationPart.{InformationPart}
use Rattle.frame_body.specs.declared.InformationPart.TheVariants.{Local as local, Remote as remote}
use Rattle.frame_tlvs.specs.Tlvs.{event_length}
use Rattle.frame_tlvs.specs.Events.{event_of}
use Rattle.frame.specs.Frame.{Body, Message}
use Rattle.frame_tlvs.specs.declared.Event.{Event}
use Rattle.frame_body.specs.declared.Found.{Found}
use Rattle.frame_body.specs.declared.Information.{Information}
use Rattle.octets.specs.declared.refusal.Refusal.{Refusal}
use Rattle.octets.specs.declared.refusal.Refusal.TheVariants.{ShortOutput, OutOfRange}
use Rattle.octets.specs.Refusals.{number}
use Rattle.frame_writer.specs.Encode.{encode}
use Rattle.frame_writer.specs.Plain.{plain_event, plain_events, events_length, plain}

-- what a writer answers: a refusal's number, or the octets of the frame that it wrote
pub data Written : Type 0 where
  Refused : ℕ → Written
  Wrote : ℕ → Written

abbrev pub as_written : Result ℕ Refusal → Written
as_written (Ok octets) = Wrote octets
as_written (Err refusal) = Refused (number refusal)

-- "The frame writer by itself (10 for what has no plain form) ...: 10, then 9."
unfoldable pub writes : Message → ℕ → Written
writes m room = cond (plain m) (cond (ltb room (length (encode m))) (Refused 9) (Wrote (length (encode m)))) (Refused 10)

-- "A written frame fills the first octets of the output; the others keep their values." A refusal leaves all.
unfoldable pub written : Message → List ℕ → List ℕ
written m out = cond (plain m) (cond (ltb (length out) (length (encode m))) out (sets out 0 (encode m))) out

-- a writer of m: its answer, and the output after it
pub record Writing (m : Message) (entry : List ℕ) (answer : Written) (exit : List ℕ) : Type 0 where
  pub answers : answer ≡ writes m (length entry)
  pub output : exit ≡ written m entry

-- the same of what may not be formed: 10 then, and the output as it was
abbrev pub writes_formed : Bool → Message → ℕ → Written
writes_formed formed m room = cond formed (writes m room) (Refused 10)

abbrev pub written_formed : Bool → Message → List ℕ → List ℕ
written_formed formed m out = cond formed (written m out) out

pub record WritingFormed (formed : Bool) (m : Message) (entry : List ℕ) (answer : Written) (exit : List ℕ) : Type 0 where
  pub answers : answer ≡ writes_formed formed m (length entry)
  pub output : exit ≡ written_formed formed m entry

-- How the code finds both refusals, by whether the header has a plain form, and by the octets that an output must have, none
-- where the body has no plain form.
abbrev pub permitted : Bool → Option ℕ → ℕ → Result ℕ Refusal
permitted plain None room = Err OutOfRange
permitted plain (Some octets) room = cond plain (cond (ltb room octets) (Err ShortOutput) (Ok octets)) (Err OutOfRange)

-- ---- the messages that the writers are handed

-- nothing is skipped in them
abbrev pub message_of : ℕ → ℕ → Body → Message
message_of source flags body = record { source = source; flags = flags; skipped = 0; body = body }

-- the Local first, then the Remote
abbrev pub parts_from : Option Information → Option Information → List InformationPart
parts_from None None = []
parts_from None (Some j) = remote j ∷ []
parts_from (Some i) None = local i ∷ []
parts_from (Some i) (Some j) = local i ∷ remote j ∷ []

abbrev pub parts_of : Found → List InformationPart
parts_of found = parts_from found.local found.remote

-- the event of seven numbers: its type and its six values
abbrev pub event_from : List ℕ → Event
event_from vs = event_of (get_or vs 0 0) (drop 1 vs)

-- whether some numbers are an event in plain form
unfoldable pub plain_seven : List ℕ → Bool
plain_seven vs = cond (eqb (length vs) 7) (plain_event (event_from vs)) false

-- n events, each of seven numbers
abbrev pub events_from : ℕ → List ℕ → List Event
events_from zero vs = []
events_from (suc n) vs = event_from vs ∷ events_from n (drop 7 vs)

-- the events of a list of numbers; one that is no whole number of events says none, and so has no plain form
unfoldable pub events_of : List ℕ → List Event
events_of vs = cond (eqb (length vs % 7) 0) (events_from (length vs / 7) vs) []

-- the octets that some events take, 0 where they have no plain form
unfoldable pub measured_events : List Event → ℕ
measured_events es = cond (plain_events es) (events_length es) 0

-- and one event, of its seven numbers
unfoldable pub measured_seven : List ℕ → ℕ
measured_seven vs = cond (plain_seven vs) (event_length (get_or vs 0 0)) 0
