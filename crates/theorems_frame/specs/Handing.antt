-- What a caller who reads a frame hands to the writer of its code, and what comes of it.
use Rattle.frame_body.specs.declared.Information.{Information}
use Rattle.std.specs.Prelude.{ℕ, ◌≤◌, ◌≡◌, List, [], ◌∷◌, ◌++◌, Bool, true, cond, eqb, length, take, drop, Option, None, Some}
use Rattle.std.proofs.lemmas.List.Edits.{sets}
use Rattle.octets.specs.Layout.{body_start, events_start, data_start}
use Rattle.frame_tlvs.specs.Walk.{met}
use Rattle.frame_tlvs.specs.Events.{event_walk}
use Rattle.frame_tlvs.specs.declared.Event.{Event}
use Rattle.frame_body.specs.declared.Found.{Found}
use Rattle.frame_body.specs.Information.{information_walk, local_in}
use Rattle.frame_body.specs.declared.InformationPart.{InformationPart}
use Rattle.frame_body.specs.declared.InformationPart.TheVariants.{Local as local, Remote as remote}
use Rattle.frame_body.specs.Variables.{Container, descriptor_walk, container_walk}
use Rattle.frame.specs.Frame.{information, notification, request, response, loopback, organization, Message, judgement_of, header_of, fixed_number}
use Rattle.frame.specs.declared.Header.{Header}
use Rattle.frame.specs.Judgement.{Judgement, Refused, Accepted}
use Rattle.frame_variables.specs.Answers.{containers_length}
use Rattle.frame_writer.specs.Encode.{event_values}
use Rattle.frame_writer.specs.Writing.{Written, Wrote, writes, written, WritingFormed, message_of, parts_of, events_of}
use Rattle.frame_writer.specs.Responses.{containers_of, all_containers}

-- events as the writer takes them: seven numbers an event, its type and its six values
abbrev pub sevens : List Event → List ℕ
sevens [] = []
sevens (e ∷ es) = (e.kind ∷ event_values e) ++ sevens es

-- the first Remote of the parts, as `local_in` is the first Local: a body that is accepted has no second
abbrev pub remote_in : List InformationPart → Option Information
remote_in [] = None
remote_in (local i ∷ ps) = remote_in ps
remote_in (remote i ∷ ps) = Some i

abbrev pub found_in : List InformationPart → Found
found_in ps = record { local = local_in ps; remote = remote_in ps }

-- The part of a response's frame from octet 18 to the end of its last container: the steps, and the rows of `oam_read_all`, tell
-- the octet after each container.
abbrev pub containers_part : List ℕ → List ℕ
containers_part f = take (containers_length (met (container_walk (drop body_start f)))) (drop body_start f)

-- a writer's message, with whether what is handed has a form at all (`WritingFormed`), or no writer
pub data Handed : Type 0 where
  nothing : Handed
  formed : Bool → Message → Handed

-- a message of what has one
abbrev pub is : Message → Handed
is m = formed true m

-- The message of the writer of the header's code, as its contract has it, where that is handed the header's source and flags
-- and what else the reader gives: the Local and the Remote that the steps meet, the number at the body's start, the events that
-- the steps meet, the descriptors that they meet, the part of the frame that is its containers, and the part from octet 21.
-- Only the writer of containers may be handed what has no form.
abbrev pub handed_by : List ℕ → Header → Handed
handed_by f h =
    cond (eqb h.code 0) (is (message_of h.source h.flags (information (parts_of (found_in (met (information_walk (drop body_start f))))))))
    (cond (eqb h.code 1)
    (is (message_of h.source h.flags (notification (fixed_number f) (events_of (sevens (met (event_walk (drop events_start f))))))))
    (cond (eqb h.code 2) (is (message_of h.source h.flags (request (met (descriptor_walk (drop body_start f))))))
    (cond (eqb h.code 3) (formed (all_containers (containers_part f)) (message_of h.source h.flags (response (containers_of (containers_part f)))))
    (cond (eqb h.code 4) (is (message_of h.source h.flags (loopback (fixed_number f))))
    (cond (eqb h.code 0xfe) (is (message_of h.source h.flags (organization (fixed_number f) (drop data_start f))))
    nothing)))))

-- the same of a frame that is judged
abbrev pub handed : List ℕ → Judgement → Handed
handed f (Refused n) = nothing
handed f (Accepted at skipped) = handed_by f (header_of f skipped)

-- there is such a writer, what it is handed has a form, and where its output is long enough it writes the very frame
pub record Again (f : List ℕ) : Type 0 where
  pub message : Message
  pub hands : handed f (judgement_of f) ≡ is message
  pub answer : (out : List ℕ) → length f ≤ length out → writes message (length out) ≡ Wrote (length f)
  pub output : (out : List ℕ) → length f ≤ length out → written message out ≡ sets out 0 f

-- Of a response: the part that is its containers has those of the message and nothing else, and a writer of what is handed, as
-- the contract of `write_response` has it, gives the frame again where its output is long enough.
pub record ContainersAgain (f : List ℕ) (source flags : ℕ) (cs : List Container) : Type 0 where
  pub same : containers_of (containers_part f) ≡ cs
  pub all : all_containers (containers_part f) ≡ true
  pub again : (out : List ℕ) (answer : Written) (exit : List ℕ) → length f ≤ length out
      → WritingFormed (all_containers (containers_part f)) (message_of source flags (response (containers_of (containers_part f)))) out answer exit
      → (answer ≡ Wrote (length f)) × (exit ≡ sets out 0 f)
