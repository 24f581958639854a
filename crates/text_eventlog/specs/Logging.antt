-- What the log writer promises: its answer, and its whole output.
use Rattle.std.specs.Prelude.{ℕ, ◌≡◌, List, cond, ltb, length}
use Rattle.std.proofs.lemmas.List.Edits.{sets}
use Rattle.frame_writer.specs.Writing.{Written, Refused, Wrote}
use Rattle.text_eventlog.specs.Line.{in_range, line_of}

-- "the log writer (10 for a value out of range): 10, then 9"
unfoldable pub logs : ℕ → ℕ → List ℕ → ℕ → Written
logs number position event room =
    cond (in_range number position event)
    (cond (ltb room (length (line_of number position event))) (Refused 9) (Wrote (length (line_of number position event))))
    (Refused 10)

-- the output after an answer: a refusal leaves it; a line fills its first octets, and the others keep their values
abbrev pub after : Written → List ℕ → List ℕ → List ℕ
after (Refused n) line out = out
after (Wrote n) line out = sets out 0 line

unfoldable pub logged : ℕ → ℕ → List ℕ → List ℕ → List ℕ
logged number position event out = after (logs number position event (length out)) (line_of number position event) out

-- the writer of an event's line: its answer, and the output after it
pub record Logging (number position : ℕ) (event entry : List ℕ) (answer : Written) (exit : List ℕ) : Type 0 where
  pub answers : answer ≡ logs number position event (length entry)
  pub output : exit ≡ logged number position event entry
