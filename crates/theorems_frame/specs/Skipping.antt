-- What the theorems say of the TLVs that are skipped: what a caller counts who takes the steps of a body, how many there can be,
-- and computed examples.
use Rattle.std.specs.Prelude.{ℕ, zero, suc, List, [], ◌∷◌, ◌++◌, map, cond, drop, replicate}
use Rattle.octets.specs.Layout.{body_start}
use Rattle.frame_tlvs.specs.Walk.{Walk, ends, breaks, over, part, whole, skipped_in, beside}
use Rattle.frame_tlvs.specs.Counting.{event_next, EventNext, End as EventsEnd, Broken as EventBroken, Skip as EventSkip, Has}
use Rattle.frame_tlvs.specs.declared.Cursor.{Cursor}
use Rattle.frame_tlvs.specs.declared.Event.{Event}
use Rattle.frame_body.specs.Information.{information_walk}
use Rattle.frame_body.specs.declared.InformationPart.{InformationPart}
use Rattle.frame_body.specs.declared.InformationPart.TheVariants.{Local as local, Remote as remote}
use Rattle.frame_body.specs.Counting.{information_next, InformationNext, End, Broken, Skip, Local, Remote}
use Rattle.frame.specs.Frame.{Body, information, notification, request, response, loopback, organization, Answer, refused, accepted, decode}
use Rattle.frame_writer.specs.Encode.{header_octets, padded}
use Rattle.theorems_frame.specs.Tables.{Row, ◌is◌}

-- ---- what a caller counts who takes the steps

-- how the steps end: with the number of all that were skipped, broken off, or not yet
pub data Ending : Type 0 where
  ends_with : ℕ → Ending
  breaks_off : Ending
  goes_on : Ending

-- the parts that the steps give, with the number beside each, and how they end
pub record Tally (P : Type 0) : Type 0 where
  pub parts : List (P × ℕ)
  pub ending : Ending

abbrev pub only : {P : Type 0} → Ending → Tally P
only e = record { parts = []; ending = e }

-- a part with the number in the cursor behind it, and then what comes of going on there
abbrev pub first : {P : Type 0} → P → Cursor → Tally P → Tally P
first p c t = record { parts = (p, c.skipped) ∷ t.parts; ending = t.ending }

abbrev pub on_event : EventNext → (Cursor → Tally Event) → Tally Event
on_event (EventsEnd n) go = only (ends_with n)
on_event EventBroken go = only breaks_off
on_event (EventSkip c) go = go c
on_event (Has e c) go = first e c (go c)

abbrev pub on_information : InformationNext → (Cursor → Tally InformationPart) → Tally InformationPart
on_information (End n) go = only (ends_with n)
on_information Broken go = only breaks_off
on_information (Skip c) go = go c
on_information (Local i c) go = first (local i) c (go c)
on_information (Remote i c) go = first (remote i) c (go c)

-- At most so many calls of `event_next` from a cursor on, each at the cursor that the one before it gave.
unfoldable pub event_tally : ℕ → List ℕ → Cursor → Tally Event
event_tally zero s c = only goes_on
event_tally (suc steps) s c = on_event (event_next s c) (λ d. event_tally steps s d)

-- the same of `information_next`
unfoldable pub information_tally : ℕ → List ℕ → Cursor → Tally InformationPart
information_tally zero s c = only goes_on
information_tally (suc steps) s c = on_information (information_next s c) (λ d. information_tally steps s d)

-- what there is to count on a walk: "beside each known TLV and at its end, the number skipped since the body's start"
abbrev pub tally_of : {P : Type 0} → Walk P → Tally P
tally_of w = record { parts = beside 0 w; ending = cond (whole w) (ends_with (skipped_in w)) breaks_off }

-- ---- whether any is skipped, and how many there can be

-- something is skipped on a walk
abbrev pub Over : {P : Type 0} → Walk P → Type 0
Over ends = ⊥
Over breaks = ⊥
Over (over w) = Unit
Over (part p w) = Over w

-- A TLV has two octets or more. In a frame of 1,514 octets 1,496 stand from octet 18 on, and 1,494 from octet 20 on, where the TLVs
-- of a notification begin.
abbrev pub most_skipped : Body → ℕ
most_skipped (information ps) = 748
most_skipped (notification n es) = 747
most_skipped (request ds) = 0
most_skipped (response cs) = 0
most_skipped (loopback n) = 0
most_skipped (organization oui x) = 0

-- ---- examples

-- the frame of a code and the octets of a body
abbrev frame : ℕ → List ℕ → List ℕ
frame code body = padded (header_octets 0x020000000001 0x50 code ++ body)

-- what is seen: how many TLVs were skipped in a frame, the number of its refusal, or the numbers beside the parts of its body
pub data Seen : Type 0 where
  skips : ℕ → Seen
  refuses : ℕ → Seen
  besides : List ℕ → Seen

abbrev seen : Answer → Seen
seen (refused n) = refuses n
seen (accepted m) = skips m.skipped

-- what is told of such a frame
abbrev told : ℕ → List ℕ → Seen
told code body = seen (decode (frame code body))

-- the numbers beside the Local and the Remote of an Information frame
abbrev numbers : List ℕ → Seen
numbers body = besides (map (λ (x : InformationPart × ℕ). x.1) (beside 0 (information_walk (drop body_start (frame 0 body)))))

-- a TLV of a type and nothing in it, and a Local TLV
abbrev bare : ℕ → List ℕ
bare t = t ∷ 2 ∷ []

abbrev a_local : List ℕ
a_local = 1 ∷ 16 ∷ replicate 14 0

abbrev mixed : List ℕ
mixed = bare 7 ++ a_local ++ bare 7 ++ bare 8

abbrev pub rows : List (Row Seen)
rows =
    -- one before the Local TLV and two behind it
    numbers mixed is besides (1 ∷ [])
    ∷ told 0 mixed is skips 3
    -- TLVs behind type 00 are not counted
    ∷ told 0 (bare 7 ++ bare 0 ++ bare 7) is skips 1
    -- types 03 and 04 are known in a notification only, FE in neither
    ∷ told 0 (bare 3 ++ bare 4 ++ bare 0xfe) is skips 3
    ∷ told 1 (0 ∷ 1 ∷ bare 0xfe) is skips 1
    -- no TLVs stand behind a loopback command
    ∷ told 4 (1 ∷ bare 7) is skips 0
    -- a refusal has no number of skipped TLVs, whatever stands before the broken one
    ∷ told 0 (bare 7 ++ bare 7 ++ 7 ∷ 1 ∷ []) is refuses 6
    ∷ []
