-- What answers descriptors: "one container per descriptor in the order asked".
use Rattle.std.specs.Prelude.{ℕ, ◌+◌, ◌-◌, ◌*◌, ◌%◌, min, List, [], ◌∷◌, Bool, cond, ◌&&◌, length, take, leb, eqb, Option, None, Some, Result, Ok, Err}
use Rattle.octets.specs.Layout.{longest_frame, body_start}
use Rattle.frame_body.specs.Variables.{Container, value, indication}
use Rattle.frame_variables.specs.Descriptors.{plain_descriptors}
use Rattle.frame_variables.specs.Attributes.{Attribute, attributes_from, most_attributes, formed_attributes}
use Rattle.frame_variables.specs.declared.Place.{Place}

-- "source 001's indication for an attribute not supported": bit 7 of the width octet, and 0x21, "Requested attribute was unable
-- to be returned because it is not supported by the local DTE."
abbrev pub not_supported : ℕ
not_supported = 0xa1

-- the container that answers a descriptor: the value of its attribute where one is held
abbrev pub lookup : List Attribute → ℕ → Container
lookup [] d = indication d not_supported
lookup (a ∷ table) d = cond (eqb a.descriptor d) (value d a.value) (lookup table d)

-- "Container: descriptor, width 1, value."
abbrev pub container_length : Container → ℕ
container_length (value d x) = 4 + length x
container_length (indication d octet) = 4

abbrev pub containers_length : List Container → ℕ
containers_length [] = 0
containers_length (c ∷ cs) = container_length c + containers_length cs

-- "From the first container that would take the frame, plus 4, past the smaller maximum size, the rest is left off (HOUSE)": the
-- containers in the order asked, until one does not fit into the room that is left
abbrev pub answers : ℕ → List Attribute → List ℕ → List Container
answers room table [] = []
answers room table (d ∷ ds) =
    let c = lookup table d in
    cond (leb (container_length c) room) (c ∷ answers (room - container_length c) table ds) []

-- the room for containers in a frame that, plus 4, is within a maximum size; never more than the longest frame has
abbrev pub room_within : ℕ → ℕ
room_within size = min size (longest_frame + 4) - (body_start + 4)

-- the containers of a response, by the smaller maximum size
abbrev pub answers_within : (size : ℕ) (attributes values descriptors : List ℕ) → List Container
answers_within size ns vs ds = answers (room_within size) (attributes_from ns vs) ds

-- "given 1 to 498 descriptors"
abbrev pub most_asked : ℕ
most_asked = 498

-- what is asked and what is held are in range
unfoldable pub formed_answers : (attributes values descriptors : List ℕ) → Bool
formed_answers ns vs ds = plain_descriptors most_asked ds && formed_attributes ns vs

-- ---- How the code comes to it. No promise of an entry mentions anything below. Where attributes are formed it agrees with what
-- stands above (`place_answers` and `answers_measured`, proofs/).

-- the width octet of an answer, by the width of its value; a width of 0 says that no value is held
abbrev pub width_octet : ℕ → ℕ
width_octet width = cond (eqb width 0) not_supported (width % 128)

-- where the first value of a descriptor stands, from octet `at` of the values on
abbrev pub place_from : ℕ → List ℕ → ℕ → Place
place_from at [] d = record { at = at; width = 0 }
place_from at (x ∷ []) d = record { at = at; width = 0 }
place_from at (x ∷ w ∷ ns) d = cond (eqb x d) (record { at = at; width = w }) (place_from (at + w) ns d)

-- among as many attributes as are taken
unfoldable pub place_of : List ℕ → ℕ → Place
place_of ns d = place_from 0 (take (2 * most_attributes) ns) d

-- a place where a value is held, and where its width says that none is, the octet at which one would stand
abbrev pub found : Place → Result Place ℕ
found place = cond (eqb place.width 0) (Err place.at) (Ok place)

-- and the place that it was: of no octets where no value is held
abbrev pub place_in : Result Place ℕ → Place
place_in (Ok place) = place
place_in (Err at) = record { at = at; width = 0 }

-- the octets of an answer, by the width of its value, where they fit into the room that is left; else 0
abbrev pub fitted : ℕ → ℕ → ℕ
fitted left width = cond (leb (4 + width) left) (4 + width) 0

unfoldable pub answer_octets : ℕ → List ℕ → ℕ → ℕ
answer_octets left ns d = fitted left (place_of ns d).width

-- so many octets, and none where it says 0
abbrev pub some_octets : ℕ → Option ℕ
some_octets n = cond (eqb n 0) None (Some n)

-- what is left after an answer's octets: nothing where it did not fit, since nothing fits into nothing
abbrev pub left_after : ℕ → ℕ → ℕ
left_after left octets = cond (eqb octets 0) 0 (left - octets)

-- the octets of the answers to descriptors
abbrev pub measured_answers : ℕ → List ℕ → List ℕ → ℕ
measured_answers left ns [] = 0
measured_answers left ns (d ∷ ds) = let n = answer_octets left ns d in n + measured_answers (left_after left n) ns ds
