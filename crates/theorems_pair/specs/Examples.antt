-- The paper's proved examples, as a single table: "lengths 59 (1), 60, 1,514 (accepted), 1,515 (1) in a Loopback frame;
-- code 05 (5); TLV 01 length 15 (6); two Local TLVs (7); command 0 (8); width 00 is 128, 7F is 127, 80 none; revision
-- 65,535 then 0; lost-link count 49 stays, 50 enters FAULT; eleventh frame (13)", this last over a stretch of intervals. Beside it
-- a table of notifications by the two maximum sizes. Every number is computed from the definitions that the contracts cite.
use Rattle.std.specs.Prelude.{ℕ, zero, suc, ◌+◌, ◌-◌, ◌*◌, ◌^◌, List, [], ◌∷◌, ◌++◌, true, false, length, replicate, Some, None}
use Rattle.octets.specs.Bits.{bit_of}
use Rattle.frame.specs.Frame.{Answer, refused, accepted, loopback, decode}
use Rattle.frame_body.specs.Variables.{container_step}
use Rattle.frame_body.specs.Variables.{ContainerStep}
use Rattle.frame_body.specs.Variables.{Value, Indication}
use Rattle.link_limit.specs.Limit.{written_frames}
use Rattle.link_loopback.specs.declared.Role.TheVariants.{Idle}
use Rattle.link_end.specs.declared.End.{End}
use Rattle.link.specs.Outcomes.{Outcome}
use Rattle.link_end.specs.Ranges.{blank}
use Rattle.theorems_frame.specs.Tables.{Row, ◌is◌}
use Rattle.theorems_frame.specs.Notifying.{longest_notification, event_numbers}
use Rattle.theorems_reach.specs.Machine.{Input, tick, request, start, notify, outcome_of}

-- what an example shows: the answer to a frame, what stands at an octet of a list of containers, or a number
pub data Seen : Type 0 where
  answer : Answer → Seen
  container : ContainerStep → Seen
  number : ℕ → Seen

-- ---- frames that are read

-- a header with a code, the first octets of a body, and zeros up to some length
abbrev frame : ℕ → List ℕ → ℕ → List ℕ
frame code body octets =
    let f : List ℕ = 0x01 ∷ 0x80 ∷ 0xc2 ∷ 0 ∷ 0 ∷ 0x02 ∷ 0x02 ∷ 0 ∷ 0 ∷ 0 ∷ 0 ∷ 0x01 ∷ 0x88 ∷ 0x09 ∷ 3 ∷ 0 ∷ 0x50 ∷ code ∷ body in
    f ++ replicate (octets - length f) 0

-- what is read of it
abbrev reads : List ℕ → Seen
reads f = answer (decode f)

-- such a frame that is accepted with a loopback command
abbrev commands : ℕ → Seen
commands n = answer (accepted (record { source = 0x020000000001; flags = 0x50; skipped = 0; body = loopback n }))

-- a TLV of type 01 with so many octets
abbrev local : ℕ → List ℕ
local octets = 1 ∷ octets ∷ replicate (octets - 2) 0

-- ---- a container with a width octet

-- what stands at the beginning of a body with it, after a descriptor (branch 7, leaf 2) and before 128 octets
abbrev width : ℕ → Seen
width octet = container (container_step (7 ∷ 0 ∷ 2 ∷ octet ∷ replicate 128 0) 0)

-- ---- an end in SEND_ANY that takes one input more

-- by its own and its peer's maximum size, its lost-link count, the frames of its intervals and its revision
abbrev end_of_sizes : (own peer lost intervals revision : ℕ) → End
end_of_sizes own peer lost intervals revision =
    record {
      settings = record { configuration = 5; size = own; oui = 1; vendor = 2; source = 3; required = 0 };
      link = record { up = true; lost = lost };
      peer = record {
        kept = 2;
        held = Some (record { version = 1; revision = 0; state = 0; configuration = 5; oampdu = peer; oui = 1; vendor = 2 });
        last = None;
      };
      role = Idle;
      meter = record { ticks = 0; intervals = intervals };
      own = record { revision = revision; number = 0; gasp = false; critical = false; owed = false };
    }

-- one with both sizes the largest
abbrev standing : (lost intervals revision : ℕ) → End
standing lost intervals revision = end_of_sizes 1518 1518 lost intervals revision

abbrev calling : Input → End → Outcome
calling i e = outcome_of (record { input = i; out = replicate 60 0 }) e

-- a loopback start changes the State octet
abbrev revision_after : ℕ → Seen
revision_after revision = number (calling (request start) (standing 0 0 revision)).end.own.revision

-- whether a tick that brings the lost-link count to a number enters FAULT, which clears all that is kept of the peer
abbrev faults_at : ℕ → Seen
faults_at lost = number (bit_of (blank (calling tick (standing (lost - 1) 0 0)).end.peer))

abbrev count_after : ℕ → Seen
count_after lost = number (calling tick (standing (lost - 1) 0 0)).end.link.lost

-- the answer to a request for the n-th frame of a stretch: six were written ten intervals ago, the others in the present one
abbrev answer_to_frame : ℕ → Seen
answer_to_frame n = number (calling (request start) (standing 0 (6 * 16 ^ 10 + (n - 7)) 0)).answer

-- an end that has written ten frames in an interval, so many ticks later: the frames of its stretch, and the answer to a request
-- (shut: opened, an end is computed anew wherever it is named)
unfoldable pub ticks_later : ℕ → End
ticks_later zero = standing 0 10 0
ticks_later (suc n) = (calling tick (ticks_later n)).end

abbrev written_later : ℕ → Seen
written_later n = number (written_frames (ticks_later n).meter)

abbrev answer_later : ℕ → Seen
answer_later n = number (calling (request start) (ticks_later n)).answer

-- ---- the table

abbrev pub rows : List (Row Seen)
rows =
    reads (frame 4 (1 ∷ []) 59) is answer (refused 1)
    ∷ reads (frame 4 (1 ∷ []) 60) is commands 1
    ∷ reads (frame 4 (1 ∷ []) 1514) is commands 1
    ∷ reads (frame 4 (1 ∷ []) 1515) is answer (refused 1)
    ∷ reads (frame 5 [] 60) is answer (refused 5)
    ∷ reads (frame 0 (local 15) 60) is answer (refused 6)
    ∷ reads (frame 0 (local 16 ++ local 16) 60) is answer (refused 7)
    ∷ reads (frame 4 (0 ∷ []) 60) is answer (refused 8)
    -- the descriptor, the octets of its value, and where the next container stands; or no value, and the width octet
    ∷ width 0x00 is container (Value 0x070002 128 132)
    ∷ width 0x7f is container (Value 0x070002 127 131)
    ∷ width 0x80 is container (Indication 0x070002 0x80 4)
    ∷ revision_after 65535 is number 0
    ∷ faults_at 49 is number 0
    ∷ count_after 49 is number 49
    ∷ faults_at 50 is number 1
    ∷ count_after 50 is number 0
    ∷ answer_to_frame 10 is number 0
    ∷ answer_to_frame 11 is number 13
    -- the tenth tick's frame waits until the eleventh, which writes it
    ∷ written_later 10 is number 10
    ∷ answer_later 10 is number 13
    ∷ written_later 11 is number 1
    ∷ answer_later 11 is number 0
    ∷ []

-- ---- notifications

-- the answer to a request to notify of so many symbol period events, by the two maximum sizes; the output has room for the longest
abbrev notified : (own peer count : ℕ) → ℕ
notified own peer count =
    (outcome_of (record { input = request (notify (event_numbers 1 count)); out = replicate longest_notification 0 }) (end_of_sizes own peer 0 0 0)).answer

abbrev pub notifications : List (Row ℕ)
notifications =
    notified 1518 1518 1 is 0
    ∷ notified 1518 1518 16 is 0
    ∷ notified 1518 1518 17 is 10
    -- "request's frame, plus 4, exceeds the smaller of the two maximum OAMPDU sizes": 660 + 4
    ∷ notified 664 664 16 is 0
    ∷ notified 663 1518 16 is 12
    ∷ notified 1518 663 16 is 12
    -- 10 comes before 12
    ∷ notified 64 64 16 is 12
    ∷ notified 64 64 17 is 10
    ∷ []
