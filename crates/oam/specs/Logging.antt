-- What the entry that writes a line of the sent-event log promises.
use Rattle.std.specs.Prelude.{ℕ, ◌≡◌, List, length}
use Rattle.text_eventlog.specs.Logging.{logs, logged}
use Rattle.oam_outcomes.specs.Written.{written_number}

-- an event's line: what the log's writer answers and leaves
pub record WritingLine (number position : ℕ) (event entry : List ℕ) (answer : ℕ) (exit : List ℕ) : Type 0 where
  pub answers : answer ≡ written_number (logs number position event (length entry))
  pub output : exit ≡ logged number position event entry
