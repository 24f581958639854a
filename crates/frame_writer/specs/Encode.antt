-- The frame of a message.
use Rattle.std.specs.Prelude.{ℕ, ◌-◌, ◌%◌, List, [], ◌∷◌, ◌++◌, length, replicate, Option, None, Some}
use Rattle.frame_tlvs.specs.Tlvs.{row, event_length}
use Rattle.frame_body.specs.Information.{information_widths, information_values}
use Rattle.frame_body.specs.declared.InformationPart.{InformationPart}
use Rattle.frame_body.specs.declared.InformationPart.TheVariants.{Local as local, Remote as remote}
use Rattle.frame_body.specs.Variables.{Container, value, indication}
use Rattle.frame.specs.Frame.{Body, information, notification, request, response, loopback, organization, Message, code_of}
use Rattle.frame_body.specs.declared.Information.{Information}
use Rattle.frame_tlvs.specs.declared.Event.{Event}
use Rattle.octets.specs.Octets.{oct, octs}
use Rattle.octets.specs.Layout.{shortest_frame, destination, length_type, subtype}

-- "Destination 6, source 6, type 2, subtype 1, flags 2, code 1; the body starts at octet 18."
abbrev pub header_widths : List ℕ
header_widths = 6 ∷ 6 ∷ 2 ∷ 1 ∷ 2 ∷ 1 ∷ []

abbrev pub header_values : ℕ → ℕ → ℕ → List ℕ
header_values source flags code = destination ∷ source ∷ length_type ∷ subtype ∷ flags ∷ code ∷ []

unfoldable pub header_octets : ℕ → ℕ → ℕ → List ℕ
header_octets source flags code = octs header_widths (header_values source flags code)

unfoldable pub information_octets : ℕ → Information → List ℕ
information_octets t i = octs (1 ∷ 1 ∷ information_widths) (t ∷ 16 ∷ information_values i)

-- "Information 01 (Local) and 02 (Remote)"
abbrev pub part_octets : InformationPart → List ℕ
part_octets (local i) = information_octets 1 i
part_octets (remote i) = information_octets 2 i

-- the same for a TLV that may be missing
abbrev pub held_octets : ℕ → Option Information → List ℕ
held_octets t None = []
held_octets t (Some i) = information_octets t i

-- an event's six values, in the order of the table of widths
abbrev pub event_values : Event → List ℕ
event_values e = e.timestamp ∷ e.window ∷ e.threshold ∷ e.errors ∷ e.error_total ∷ e.event_total ∷ []

unfoldable pub event_octets : Event → List ℕ
event_octets e = octs (1 ∷ 1 ∷ row e.kind) (e.kind ∷ event_length e.kind ∷ event_values e)

-- "Container: descriptor, width 1, value. Width 0 is 128 octets, 1 to 127 itself; with bit 7 set it is an indication without value."
abbrev pub container_octets : Container → List ℕ
container_octets (value d x) = oct 3 d ++ (oct 1 (length x % 128) ++ x)
container_octets (indication d octet) = oct 3 d ++ oct 1 octet

-- the octets of parts one after another
abbrev pub joined : {P : Type 0} → (P → List ℕ) → List P → List ℕ
joined octets [] = []
joined octets (p ∷ ps) = octets p ++ joined octets ps

-- the body
abbrev pub body_octets : Body → List ℕ
body_octets (information ps) = joined part_octets ps
body_octets (notification n es) = oct 2 n ++ joined event_octets es
body_octets (request ds) = joined (oct 3) ds
body_octets (response cs) = joined container_octets cs
body_octets (loopback n) = oct 1 n
body_octets (organization oui x) = oct 3 oui ++ x

-- "shortest length (at least 60)", with zeros after the last part
abbrev pub padded : List ℕ → List ℕ
padded x = x ++ replicate (shortest_frame - length x) 0

unfoldable pub encode : Message → List ℕ
encode m = padded (header_octets m.source m.flags (code_of m.body) ++ body_octets m.body)
