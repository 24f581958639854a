-- What an entry that writes promises: its outcome, and its whole output.
use Rattle.std.specs.Prelude.{ℕ, ◌≡◌, List, Bool, length}
use Rattle.frame.specs.Frame.{Message}
use Rattle.frame_writer.specs.Writing.{writes_formed, written_formed}
use Rattle.oam_outcomes.specs.Written.{written_number}

-- an entry that writes m: what its writer answers and leaves; 10, and the output as it was, where what is lent is not formed
pub record WritingFrame (formed : Bool) (m : Message) (entry : List ℕ) (answer : ℕ) (exit : List ℕ) : Type 0 where
  pub answers : answer ≡ written_number (writes_formed formed m (length entry))
  pub output : exit ≡ written_formed formed m entry
