-- How long a notification in plain form may be, and computed examples of writing one.
use Rattle.std.specs.Prelude.{ℕ, zero, suc, List, [], ◌∷◌, Bool, eqb}
use Rattle.frame_tlvs.specs.declared.Event.{Event}
use Rattle.frame.specs.Frame.{notification}
use Rattle.frame_writer.specs.Writing.{Written, Refused, Wrote, writes, message_of, events_of}
use Rattle.theorems_frame.specs.Tables.{Row, ◌is◌}

-- the octets of the longest: 20 before its events, and 16 events of 40
abbrev pub longest_notification : ℕ
longest_notification = 660

-- an event of type 1, whose TLV is the longest
abbrev pub symbol_period : Event → Bool
symbol_period e = eqb e.kind 1

-- so many events of a type as they are lent, all their values 0
abbrev pub event_numbers : (type count : ℕ) → List ℕ
event_numbers type zero = []
event_numbers type (suc count) = type ∷ 0 ∷ 0 ∷ 0 ∷ 0 ∷ 0 ∷ 0 ∷ event_numbers type count

-- the answer of the writer that is lent them, and an output of so many octets
abbrev answer : (type count room : ℕ) → Written
answer type count room = writes (message_of 0x020000000001 0x50 (notification 7 (events_of (event_numbers type count)))) room

abbrev pub rows : List (Row Written)
rows =
    answer 1 0 1514 is Refused 10
    ∷ answer 1 1 1514 is Wrote 60
    ∷ answer 1 16 1514 is Wrote 660
    ∷ answer 1 17 1514 is Refused 10
    -- the longest needs all of its octets, and 10 comes before 9
    ∷ answer 1 16 660 is Wrote 660
    ∷ answer 1 16 659 is Refused 9
    ∷ answer 1 17 659 is Refused 10
    -- the shortest events: 20 + 16 * 18
    ∷ answer 4 16 1514 is Wrote 308
    ∷ []
