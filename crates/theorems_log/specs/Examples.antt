-- Computed examples of positions in the log, as a single table. Every answer is computed from the definitions that the contracts
-- cite.
use Rattle.std.specs.Prelude.{ℕ, List, [], ◌∷◌, ◌++◌}
use Rattle.frame_writer.specs.Writing.{Written, Refused, Wrote}
use Rattle.theorems_frame.specs.Tables.{Row, ◌is◌}
use Rattle.text.specs.Marks.{tab, newline}
use Rattle.text_eventlog.specs.Line.{line_from, read_line, Reading, Refused as NoLine, LineIs}
use Rattle.text_eventlog.specs.Logging.{logs}
use Rattle.theorems_log.specs.Longest.{longest_line}
use Rattle.theorems_log.specs.Positions.{old_reading}

-- what an example shows: the log writer's answer, or what a text reads as
pub data Seen : Type 0 where
  answer : Written → Seen
  reading : Reading → Seen

-- a symbol period event whose values are 0
abbrev event : List ℕ
event = 1 ∷ 0 ∷ 0 ∷ 0 ∷ 0 ∷ 0 ∷ 0 ∷ []

-- the answer to the one at a position of notification 7, where the output has room for any line
abbrev writes : ℕ → Seen
writes position = answer (logs 7 position event longest_line)

-- its line, with some octets for the position
abbrev line : List ℕ → List ℕ
line position =
    55 ∷ tab ∷ position ++ (tab ∷ 49 ∷ tab ∷ 48 ∷ tab ∷ 48 ∷ tab ∷ 48 ∷ tab ∷ 48 ∷ tab ∷ 48 ∷ tab ∷ 48 ∷ newline ∷ [])

abbrev reads : List ℕ → Seen
reads position = reading (read_line (line position))

-- the same by the old build
abbrev old_reads : List ℕ → Seen
old_reads position = reading (old_reading (line position))

-- what it says, and its refusal
abbrev says : ℕ → Seen
says position = reading (LineIs (line_from (7 ∷ position ∷ event)))

abbrev refused : Seen
refused = reading (NoLine 14)

abbrev pub rows : List (Row Seen)
rows =
    writes 0 is answer (Refused 10)
    ∷ writes 1 is answer (Wrote 18)
    ∷ writes 16 is answer (Wrote 19)
    ∷ writes 17 is answer (Refused 10)
    -- 0, 1, 4, 5, 16, 17, 01 and 016
    ∷ reads (48 ∷ []) is refused
    ∷ reads (49 ∷ []) is says 1
    ∷ reads (52 ∷ []) is says 4
    ∷ reads (53 ∷ []) is says 5
    ∷ reads (49 ∷ 54 ∷ []) is says 16
    ∷ reads (49 ∷ 55 ∷ []) is refused
    ∷ reads (48 ∷ 49 ∷ []) is refused
    ∷ reads (48 ∷ 49 ∷ 54 ∷ []) is refused
    -- 1, 4, 5 and 16 by the old build
    ∷ old_reads (49 ∷ []) is says 1
    ∷ old_reads (52 ∷ []) is says 4
    ∷ old_reads (53 ∷ []) is refused
    ∷ old_reads (49 ∷ 54 ∷ []) is refused
    ∷ []
