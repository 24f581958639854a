-- Frames: the message that a frame says, or the number of its refusal, and what is taken from the octets of either.
use Rattle.frame_body.specs.declared.Information.{Information}
use Rattle.std.specs.Prelude.{ℕ, List, false, not, cond, ◌||◌, length, get_or, drop, ltb, eqb, Option, None}
use Rattle.octets.specs.Octets.{num}
use Rattle.octets.specs.Layout.{shortest_frame, longest_frame, destination, length_type, subtype, body_start, events_start, data_start}
use Rattle.frame_tlvs.specs.Walk.{Walk, Parsed, refused as unread, parts, listed, skipped_in}
use Rattle.frame_body.specs.Information.{information_walk, information_parts, local_in}
use Rattle.frame_body.specs.declared.InformationPart.{InformationPart}
use Rattle.frame_body.specs.Judging.{local_place}
use Rattle.frame_tlvs.specs.Events.{event_walk}
use Rattle.frame_body.specs.Variables.{Container, descriptor_walk, container_walk}
use Rattle.frame_tlvs.specs.declared.Event.{Event}
use Rattle.frame.specs.declared.Header.{Header}
use Rattle.frame.specs.Judgement.{Judgement, Refused, Accepted}

-- "Codes: 00 Information, 01 Event Notification, 02 Variable Request, 03 Variable Response, 04 Loopback Control, FE
-- organization specific." A body with its parts in order.
pub data Body : Type 0 where
  information : List InformationPart → Body
  notification : ℕ → List Event → Body
  request : List ℕ → Body
  response : List Container → Body
  loopback : ℕ → Body
  organization : ℕ → List ℕ → Body

-- "A reading shows source address, flags, code and the body's parts in order." Beside the parts it tells how many TLVs were skipped.
pub record Message : Type 0 where
  pub source : ℕ
  pub flags : ℕ
  pub skipped : ℕ
  pub body : Body

abbrev pub code_of : Body → ℕ
code_of (information ps) = 0
code_of (notification n es) = 1
code_of (request ds) = 2
code_of (response cs) = 3
code_of (loopback n) = 4
code_of (organization oui x) = 0xfe

pub data Answer : Type 0 where
  refused : ℕ → Answer
  accepted : Message → Answer

-- The answers 1 to 4 in order, 0 where none is given: "received frame is not 60 to 1,514 octets", "destination is not
-- 01-80-C2-00-00-02", "Length/Type is not 88-09", "subtype is not 3".
unfoldable pub header_answer : List ℕ → ℕ
header_answer f =
    cond (ltb (length f) shortest_frame || ltb longest_frame (length f)) 1
    (cond (not (eqb (num 6 f 0) destination)) 2
    (cond (not (eqb (num 2 f 12) length_type)) 3
    (cond (not (eqb (get_or f 14 0) subtype)) 4
    0)))

-- "Destination 6, source 6, type 2, subtype 1, flags 2, code 1; the body starts at octet 18."
abbrev pub says : List ℕ → ℕ → Body → Answer
says f skipped b = accepted (record { source = num 6 f 6; flags = num 2 f 15; skipped = skipped; body = b })

abbrev pub says_all : {P : Type 0} → List ℕ → ℕ → (List P → Body) → Parsed P → Answer
says_all f skipped make (unread n) = refused n
says_all f skipped make (parts ps) = says f skipped (make ps)

-- the walks over the TLVs of codes 00 and 01, whose numbers of skipped TLVs are told
abbrev pub informed : List ℕ → Walk InformationPart → Answer
informed f w = says_all f (skipped_in w) information (information_parts false false w)

abbrev pub notified : List ℕ → Walk Event → Answer
notified f w = says_all f (skipped_in w) (notification (num 2 f body_start)) (listed w)

-- The body by its code. "The TLV walk begins at octet 18, or 20 after a sequence number (2 octets, code 01)." "Code FE: OUI
-- 3; the reading shows the organization's data as that part of the caller's frame from octet 21 to the end, padding
-- included." "loopback command is not 1 or 2" is 8, "code is 05 to FD, or FF" is 5.
unfoldable pub body_answer : List ℕ → ℕ → Answer
body_answer f code =
    cond (eqb code 0) (informed f (information_walk (drop body_start f)))
    (cond (eqb code 1) (notified f (event_walk (drop events_start f)))
    (cond (eqb code 2) (says_all f 0 request (listed (descriptor_walk (drop body_start f))))
    (cond (eqb code 3) (says_all f 0 response (listed (container_walk (drop body_start f))))
    (cond (eqb code 4) (cond (eqb (get_or f body_start 0) 1 || eqb (get_or f body_start 0) 2) (says f 0 (loopback (get_or f body_start 0))) (refused 8))
    (cond (eqb code 0xfe) (says f 0 (organization (num 3 f body_start) (drop data_start f)))
    (refused 5))))))

-- "Reading: 1 to 5 in order, then the body in octet order; at one TLV 6 comes before 7."
unfoldable pub decode : List ℕ → Answer
decode f = cond (eqb (header_answer f) 0) (body_answer f (get_or f 17 0)) (refused (header_answer f))

-- Where the Local TLV stands in the octets of a body; their length where it has none.
abbrev pub place_in : List ℕ → Body → ℕ
place_in s (information ps) = local_place s
place_in s (notification n es) = length s
place_in s (request ds) = length s
place_in s (response cs) = length s
place_in s (loopback n) = length s
place_in s (organization oui x) = length s

-- what a frame comes to: its answer, where the Local TLV stands in its body, and how many TLVs were skipped
abbrev pub judgement : List ℕ → Answer → Judgement
judgement f (refused n) = Refused n
judgement f (accepted m) = Accepted (place_in (drop body_start f) m.body) m.skipped

unfoldable pub judgement_of : List ℕ → Judgement
judgement_of f = judgement f (decode f)

-- ---- What a message says at fixed octets, and the octets themselves. That they agree is shown in proofs/Judging.antt.

abbrev pub header_in : Message → Header
header_in m = record { source = m.source; flags = m.flags; code = code_of m.body; skipped = m.skipped }

-- zeros where a frame is shorter than any that is accepted; the number of skipped TLVs is the judge's
unfoldable pub header_of : List ℕ → ℕ → Header
header_of f skipped =
    cond (ltb (length f) shortest_frame) (record { source = 0; flags = 0; code = 0; skipped = skipped })
    (record { source = num 6 f 6; flags = num 2 f 15; code = get_or f 17 0; skipped = skipped })

-- the number of a notification and the command of a Loopback Control frame
unfoldable pub event_number : List ℕ → ℕ
event_number f = cond (ltb (length f) shortest_frame) 0 (num 2 f body_start)

unfoldable pub command_of : List ℕ → ℕ
command_of f = cond (ltb (length f) shortest_frame) 0 (get_or f body_start 0)

-- the number at the start of a body: the event number, the command or the OUI
abbrev pub number_in : Body → ℕ
number_in (information ps) = 0
number_in (notification n es) = n
number_in (request ds) = 0
number_in (response cs) = 0
number_in (loopback n) = n
number_in (organization oui x) = oui

unfoldable pub fixed_number : List ℕ → ℕ
fixed_number f =
    cond (ltb (length f) shortest_frame) 0
    (cond (eqb (get_or f 17 0) 1) (num 2 f body_start)
    (cond (eqb (get_or f 17 0) 4) (get_or f body_start 0)
    (cond (eqb (get_or f 17 0) 0xfe) (num 3 f body_start)
    0)))

abbrev pub local_of : Body → Option Information
local_of (information ps) = local_in ps
local_of (notification n es) = None
local_of (request ds) = None
local_of (response cs) = None
local_of (loopback n) = None
local_of (organization oui x) = None
