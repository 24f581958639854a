-- The plain form of a message, and the octets that it takes. (That of a frame, by its octets, is in `theorems_frame`.)
use Rattle.std.specs.Prelude.{ℕ, ◌+◌, ◌-◌, ◌*◌, ◌^◌, max, List, [], ◌∷◌, Bool, true, false, cond, not, ◌&&◌, ◌||◌, length, ltb, leb, eqb}
use Rattle.frame.specs.Flags.{flags_of}
use Rattle.frame_tlvs.specs.Tlvs.{row, event_length}
use Rattle.frame_body.specs.Information.{information_widths, information_values}
use Rattle.frame_body.specs.declared.InformationPart.{InformationPart}
use Rattle.frame_body.specs.declared.InformationPart.TheVariants.{Local as local, Remote as remote}
use Rattle.frame_body.specs.Variables.{Container, value, indication}
use Rattle.frame.specs.Frame.{Body, information, notification, request, response, loopback, organization, Message}
use Rattle.frame_body.specs.declared.Information.{Information}
use Rattle.frame_tlvs.specs.declared.Event.{Event}
use Rattle.octets.specs.Octets.{fit}
use Rattle.octets.specs.Layout.{shortest_frame, longest_frame, body_start}
use Rattle.frame_variables.specs.Descriptors.{plain_descriptor, plain_descriptors}
use Rattle.frame_variables.specs.Attributes.{most_width}
use Rattle.frame_variables.specs.Answers.{containers_length}
-- writers and the ends have it from here
pub use Rattle.frame_variables.specs.Answers.{some_octets}
use Rattle.frame_writer.specs.Encode.{event_values}
-- the event log has these two from here
pub use Rattle.octets.specs.Tests.{between, every}

-- "zero in ignored bits, no flag field 3"
unfoldable pub plain_flags : ℕ → Bool
plain_flags n = ltb n 128 && (not (eqb (flags_of n).local 3) && not (eqb (flags_of n).remote 3))

-- the named bits of state (bits 2:0), configuration (bits 4:0) and OAMPDU configuration (low 11 bits), and each value
-- within its width
unfoldable pub plain_information : Information → Bool
plain_information i =
    ltb i.state 8 && (ltb i.configuration 32 && (ltb i.oampdu 2048 && fit information_widths (information_values i)))

-- "Information as Local, as Local then Remote, or no TLV"
abbrev pub plain_parts : List InformationPart → Bool
plain_parts [] = true
plain_parts (remote i ∷ ps) = false
plain_parts (local i ∷ []) = plain_information i
plain_parts (local i ∷ local j ∷ ps) = false
plain_parts (local i ∷ remote j ∷ []) = plain_information i && plain_information j
plain_parts (local i ∷ remote j ∷ p ∷ ps) = false

-- "with an event type not 1 to 4, a value beyond its width ... is 10"
unfoldable pub plain_event : Event → Bool
plain_event e = between 1 4 e.kind && fit (row e.kind) (event_values e)

-- "The writer takes up to 16, still within both ends' sizes. The plain form follows."
abbrev pub most_events : ℕ
most_events = 16

-- "1 to 32 descriptors"
abbrev pub most_descriptors : ℕ
most_descriptors = 32

-- "1 to 4 events" of the build paper, with 16 for 4 by change request (vi)
abbrev pub plain_events : List Event → Bool
plain_events es = between 1 most_events (length es) && every plain_event es

-- "Demand 2 covers code 03 in writing from now on." A container has a value of 1 to 128 octets, or a width octet with bit 7 set.
abbrev pub plain_container : Container → Bool
plain_container (value d x) = plain_descriptor d && between 1 most_width (length x)
plain_container (indication d octet) = plain_descriptor d && between 128 255 octet

-- none or more, as many as the longest frame has room for after its header
abbrev pub most_containers_octets : ℕ
most_containers_octets = longest_frame - body_start

abbrev pub plain_containers : List Container → Bool
plain_containers cs = every plain_container cs && leb (containers_length cs) most_containers_octets

-- "Code FE is written with 39 to 1,493 octets of data"
abbrev pub plain_organization : ℕ → ℕ → Bool
plain_organization oui octets = ltb oui (256 ^ 3) && between 39 1493 octets

abbrev pub plain_body : Body → Bool
plain_body (information ps) = plain_parts ps
plain_body (notification n es) = ltb n (256 ^ 2) && plain_events es
plain_body (request ds) = plain_descriptors most_descriptors ds
plain_body (response cs) = plain_containers cs
plain_body (loopback n) = eqb n 1 || eqb n 2
plain_body (organization oui x) = plain_organization oui (length x)

abbrev pub plain_header : ℕ → ℕ → Bool
plain_header source flags = ltb source (256 ^ 6) && plain_flags flags

-- "no unknown TLV": none was skipped
unfoldable pub plain : Message → Bool
plain m = eqb m.skipped 0 && (plain_header m.source m.flags && plain_body m.body)

-- ---- lengths

-- the octets of the parts of a body that are told apart from what follows them
abbrev pub events_length : List Event → ℕ
events_length [] = 0
events_length (e ∷ es) = event_length e.kind + events_length es

abbrev pub body_length : Body → ℕ
body_length (information ps) = 16 * length ps
body_length (notification n es) = 2 + events_length es
body_length (request ds) = 3 * length ds
body_length (response cs) = containers_length cs
body_length (loopback n) = 1
body_length (organization oui x) = 3 + length x

-- the octets of a body's frame, 0 where it has no plain form
unfoldable pub sized : Body → ℕ
sized b = cond (plain_body b) (max shortest_frame (body_start + body_length b)) 0
