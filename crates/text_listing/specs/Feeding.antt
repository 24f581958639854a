-- How an input is fed: a character at a time, from where a call stands between two characters.
use Rattle.std.specs.Prelude.{◌≡◌, ℕ, ◌<◌, ◌≤◌, cond, List, [], length, drop, ◌==◌, nat_lt, slice_index, Result, Ok, Err}
use Rattle.std.proofs.lemmas.List.Edits.{sets}
use Rattle.octets.specs.declared.refusal.Refusal.{Refusal}
use Rattle.octets.specs.Refusals.{number}
use Rattle.text.specs.Pieces.{Steps, Fed, fed_from, State as StateOf}
use Rattle.text.specs.Marks.{newline}
use Rattle.text_listing.specs.Rows.{row_of, row_room}
use Rattle.text_listing.specs.Listing.{following}
use Rattle.text_listing.specs.Taking.{fresh, line_with, frame_with, has_begun, decoded_of, decoded_entry}
use Rattle.text_listing.specs.declared.line.Line.{Line}
use Rattle.text_listing.specs.declared.feeding.Progress.{Progress}

-- before the first character
abbrev pub begun : Progress
begun = record { number = 1; line = fresh }

-- where a listing stands: the progress, and the working frame
abbrev pub State : Type 0
State = StateOf Progress

-- the row of the present line
abbrev pub present_row : State → List ℕ
present_row s = row_of s.progress.number (decoded_entry s.frame (decoded_of s.progress.line))

-- a character of a line
abbrev pub goes_on : State → ℕ → State
goes_on s c = record {
  progress = record { number = s.progress.number; line = line_with s.progress.line c };
  frame = frame_with s.frame s.progress.line c;
}

-- a newline
abbrev pub ends : State → State
ends s = record {
  progress = record { number = following s.progress.number; line = fresh };
  frame = s.frame;
}

-- at the input's end: "a last line needs no newline"
unfoldable pub last_row : State → List ℕ
last_row s = cond (has_begun s.progress.line) (present_row s) []

-- A newline says its line's row, and wants room for any row.
abbrev pub lister : Steps State
lister = record {
  next = λ s c. cond (c == newline) (ends s) (goes_on s c);
  says = λ s c. cond (c == newline) (present_row s) [];
  wants = λ s c. cond (c == newline) row_room 0;
  last = last_row;
}

-- ---- the input's end

-- so many octets are written, or a refusal's number
pub data Finished : Type 0 where
  Written : ℕ → Finished
  Refused : ℕ → Finished

abbrev pub as_finished : Result ℕ Refusal → Finished
as_finished (Ok octets) = Written octets
as_finished (Err refusal) = Refused (number refusal)

-- whether there is a last line, and then whether an output of so many octets has room for any row
abbrev pub last_of : ℕ → State → Finished
last_of octets s = cond (has_begun s.progress.line) (cond (nat_lt octets row_room) (Refused 9) (Written (length (present_row s)))) (Written 0)

-- a refusal says nothing
abbrev pub last_said : ℕ → State → List ℕ
last_said octets s = cond (nat_lt octets row_room) [] (last_row s)

abbrev pub octets_written : Finished → ℕ
octets_written (Written n) = n
octets_written (Refused answer) = 0

-- what `finish` promises: the result, the row at the output's front, and that it fits
pub record Finishes (p : Progress) (f out : List ℕ) (r : Finished) (out' : List ℕ) : Type 0 where
  pub result : r ≡ last_of (length out) (record { progress = p; frame = f })
  pub output : out' ≡ sets out 0 (last_said (length out) (record { progress = p; frame = f }))
  pub fits : octets_written r ≤ length out

-- ---- a part of a piece

-- a call that has come to a line and a frame at a place of a piece
abbrev pub reached : ℕ → List ℕ → Line → List ℕ → ℕ → Fed State
reached number said line f at = record {
  state = record { progress = record { number = number; line = line }; frame = f };
  taken = at;
  said = said;
}

-- whatever the rows said so far and the room, the call comes to the same from the later place
abbrev pub Leads : List ℕ → Line → List ℕ → ℕ → Line → List ℕ → ℕ → Type 0
Leads piece line f at line' f' at' =
    (room number : ℕ) (said : List ℕ)
    → fed_from lister room (reached number said line f at) (drop at piece) ≡ fed_from lister room (reached number said line' f' at') (drop at' piece)

-- what is promised of a part that is taken
pub record Scans (piece : List ℕ) (line : Line) (f : List ℕ) (at : ℕ) (line' : Line) (f' : List ℕ) (at' : ℕ) : Type 0 where
  pub onward : at ≤ at'
  pub within : at' ≤ length piece
  pub leads : Leads piece line f at line' f' at'

-- at the piece's end, or before a newline
abbrev pub Stops : List ℕ → ℕ → Type 0
Stops piece at = at < length piece → slice_index piece at ≡ newline
