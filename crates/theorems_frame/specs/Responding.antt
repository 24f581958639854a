-- What the theorems say of the answers to descriptors, and computed examples of responses.
use Rattle.std.specs.Prelude.{ℕ, ◌+◌, ◌-◌, ◌<◌, ◌≤◌, ◌≡◌, List, [], ◌∷◌, map, Bool, true, false, not, ◌&&◌, ◌||◌, ◌⊎◌, length, get_or, take, drop, replicate, eqb}
use Rattle.octets.specs.Layout.{body_start}
use Rattle.frame_body.specs.Variables.{Container, value, indication}
use Rattle.frame.specs.Frame.{response, Message, Answer, accepted, decode}
use Rattle.frame_variables.specs.Attributes.{Attribute}
use Rattle.frame_variables.specs.Answers.{lookup, container_length, containers_length, answers_within}
use Rattle.frame_writer.specs.Encode.{encode}
use Rattle.frame_writer.specs.Writing.{message_of}
use Rattle.theorems_frame.specs.Tables.{Row, ◌is◌}

-- ---- the attributes that are held

-- an attribute is one of a table
abbrev pub Among : Attribute → List Attribute → Type 0
Among a [] = ⊥
Among a (b ∷ table) = (a ≡ b) ⊎ Among a table

-- one of a table has a descriptor
abbrev pub holds : List Attribute → ℕ → Bool
holds [] d = false
holds (a ∷ table) d = eqb a.descriptor d || holds table d

-- no two of a table have one descriptor
abbrev pub apart : List Attribute → Bool
apart [] = true
apart (a ∷ table) = not (holds table a.descriptor) && apart table

-- ---- how many descriptors are answered

-- The containers answer the first descriptors in their order. They are within the room of a frame that, plus 4, has at most so
-- many octets; and they answer all descriptors, or with the next container the frame, plus 4, would have more.
pub record First (most : ℕ) (table : List Attribute) (ds : List ℕ) (cs : List Container) : Type 0 where
  pub count : ℕ
  pub upto : count ≤ length ds
  pub those : cs ≡ map (lookup table) (take count ds)
  pub within : containers_length cs ≤ most - (body_start + 4)
  pub full : (count ≡ length ds) ⊎ (most < body_start + containers_length cs + container_length (lookup table (get_or ds count 0)) + 4)

-- ---- examples

-- the response of a box that holds one attribute (branch 7, leaf 2), whose value is so many octets of 5, by the smaller maximum
-- size and the descriptors asked
abbrev response_of : ℕ → ℕ → List ℕ → Message
response_of size width ds = message_of 0x020000000001 0x50 (response (answers_within size (0x070002 ∷ width ∷ []) (replicate width 5) ds))

-- what is seen: what is read of a frame, octets of it, or a number
pub data Seen : Type 0 where
  answer : Answer → Seen
  octets : List ℕ → Seen
  number : ℕ → Seen

-- what is read of the frame that is written of a message
abbrev reads : Message → Seen
reads m = answer (decode (encode m))

-- the containers that are read
abbrev says : List Container → Seen
says cs = answer (accepted (message_of 0x020000000001 0x50 (response cs)))

-- the first container's descriptor and width octet in that frame
abbrev begins : Message → Seen
begins m = octets (take 4 (drop body_start (encode m)))

-- the octets of that frame
abbrev long : Message → Seen
long m = number (length (encode m))

-- how many descriptors are answered, of so many that are not held
abbrev unknowns : ℕ → ℕ → Seen
unknowns size asked = number (length (answers_within size [] [] (replicate asked 0x070003)))

-- one descriptor: the attribute's, and another
abbrev held : List ℕ
held = 0x070002 ∷ []

abbrev unheld : List ℕ
unheld = 0x070003 ∷ []

abbrev pub rows : List (Row Seen)
rows =
    -- a width of 127 is 7F, one of 128 is 00 and is read as 128
    begins (response_of 1518 127 held) is octets (7 ∷ 0 ∷ 2 ∷ 0x7f ∷ [])
    ∷ begins (response_of 1518 128 held) is octets (7 ∷ 0 ∷ 2 ∷ 0x00 ∷ [])
    ∷ reads (response_of 1518 128 held) is says (value 0x070002 (replicate 128 5) ∷ [])
    -- an attribute that is not held
    ∷ begins (response_of 1518 128 unheld) is octets (7 ∷ 0 ∷ 3 ∷ 0xa1 ∷ [])
    ∷ reads (response_of 1518 128 unheld) is says (indication 0x070003 0xa1 ∷ [])
    -- a size of 64: 18 + 4 + 38 + 4 is 64
    ∷ reads (response_of 64 38 held) is says (value 0x070002 (replicate 38 5) ∷ [])
    ∷ reads (response_of 64 39 held) is says []
    ∷ long (response_of 64 38 held) is number 60
    ∷ long (response_of 64 39 held) is number 60
    -- 498 descriptors that are not held: 18 + 4 * 374 + 4 is 1,518
    ∷ unknowns 1518 498 is number 374
    ∷ long (response_of 1518 1 (replicate 498 0x070003)) is number 1514
    ∷ []
