-- What builds with different last positions read of the log.
use Rattle.std.specs.Prelude.{ℕ, List, cond, leb}
use Rattle.text_eventlog.specs.Line.{read_line_up_to, Reading, Refused, LineIs}

-- what is left of a reading where no position above a last one is taken
abbrev pub up_to : (last : ℕ) → Reading → Reading
up_to last (Refused n) = Refused n
up_to last (LineIs l) = cond (leb l.position last) (LineIs l) (Refused 14)

-- "the old build answers 14 to a position above 4": what that build reads
abbrev pub old_reading : List ℕ → Reading
old_reading s = read_line_up_to 4 s
