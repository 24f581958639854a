-- What a Variable Response is written of: containers as they stand in a frame, or the answers to descriptors.
use Rattle.std.specs.Prelude.{ℕ, ◌+◌, max, List, Bool, cond, ◌&&◌, length, leb, eqb}
use Rattle.octets.specs.Layout.{shortest_frame, body_start}
use Rattle.frame_tlvs.specs.Walk.{met}
use Rattle.frame_body.specs.Variables.{Container, container_walk}
use Rattle.frame_variables.specs.Answers.{containers_length, room_within, formed_answers, measured_answers}
use Rattle.frame_writer.specs.Plain.{plain_containers}

-- the containers that stand in some octets from the first on
abbrev pub containers_of : List ℕ → List Container
containers_of s = met (container_walk s)

-- they are all of the octets: none is broken, and no branch 0 ends the list
unfoldable pub all_containers : List ℕ → Bool
all_containers s = eqb (containers_length (containers_of s)) (length s)

-- and they have a plain form
abbrev pub formed_containers : List ℕ → Bool
formed_containers s = all_containers s && plain_containers (containers_of s)

-- ---- How the code finds that an output is too short for the answers to descriptors

-- The octets that an output of some octets must have for their frame: those of the longest one that there is room for, where the
-- output has them, so that no attribute is searched for; else those of the frame itself.
abbrev pub needed_within : (lent room : ℕ) (attributes descriptors : List ℕ) → ℕ
needed_within lent room ns ds =
    let all = max shortest_frame (body_start + room) in
    cond (leb all lent) all (max shortest_frame (body_start + measured_answers room ns ds))

-- 0 where what is asked or held is out of range
abbrev pub needed_octets : (lent size : ℕ) (attributes values descriptors : List ℕ) → ℕ
needed_octets lent size ns vs ds = cond (formed_answers ns vs ds) (needed_within lent (room_within size) ns ds) 0
