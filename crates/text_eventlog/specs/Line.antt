-- The line of the sent-event log: as it is written, and as it is read.
use Rattle.std.specs.Prelude.{ℕ, ◌-◌, ◌^◌, List, [], ◌∷◌, ◌++◌, map, Bool, cond, ◌&&◌, ltb, eqb, length, get_or, take, drop, Result, Ok, Err}
use Rattle.frame_writer.specs.Plain.{between, every, most_events}
use Rattle.frame_writer.specs.Writing.{plain_seven}
use Rattle.text.specs.Marks.{tab, newline}
use Rattle.text.specs.Decimal.{field}
use Rattle.text_eventlog.specs.Digits.{value_of, is_decimal}
use Rattle.text_eventlog.specs.declared.Line.{Line}
use Rattle.octets.specs.declared.refusal.Refusal.{Refusal}
use Rattle.octets.specs.Refusals.{number}

-- "Log positions run 1 to 16.": as many as the events that a notification is written with
abbrev pub last_position : ℕ
last_position = most_events

-- The number of a notification has sixteen bits. The event is seven numbers, "type, timestamp, window, threshold, errors,
-- error total, event total", "each value within its width". Builds differ in the last position, so it is a parameter.
unfoldable pub in_range_up_to : (last number position : ℕ) → List ℕ → Bool
in_range_up_to last number position event = ltb number (256 ^ 2) && (between 1 last position && plain_seven event)

-- of this build
abbrev pub in_range : (number position : ℕ) → List ℕ → Bool
in_range number position event = in_range_up_to last_position number position event

-- ---- written

-- the octet that parts a field from the fields after it, or ends the line
abbrev pub parting : List ℕ → ℕ
parting [] = newline
parting (v ∷ vs) = tab

-- "decimal fields parted by tabs", "newline last"
abbrev pub fields : List ℕ → List ℕ
fields [] = []
fields (v ∷ vs) = field v (parting vs) ++ fields vs

-- "one line an event, nine decimal fields parted by tabs: number, position ..., type, ..."
unfoldable pub line_of : ℕ → ℕ → List ℕ → List ℕ
line_of number position event = fields (number ∷ position ∷ event)

-- ---- read

-- a refusal's number, or what the line says
pub data Reading : Type 0 where
  Refused : ℕ → Reading
  LineIs : Line → Reading

abbrev pub as_reading : Result Line Refusal → Reading
as_reading (Ok line) = LineIs line
as_reading (Err refusal) = Refused (number refusal)

-- an octet ahead of the first field
abbrev pub ahead : ℕ → List (List ℕ) → List (List ℕ)
ahead x [] = (x ∷ []) ∷ []
ahead x (f ∷ fs) = (x ∷ f) ∷ fs

-- a text, parted at each tab
abbrev pub parted : List ℕ → List (List ℕ)
parted [] = [] ∷ []
parted (x ∷ s) = cond (eqb x tab) ([] ∷ parted s) (ahead x (parted s))

-- what nine values say
abbrev pub line_from : List ℕ → Line
line_from vs =
    record {
      number = get_or vs 0 0;
      position = get_or vs 1 0;
      kind = get_or vs 2 0;
      timestamp = get_or vs 3 0;
      window = get_or vs 4 0;
      threshold = get_or vs 5 0;
      errors = get_or vs 6 0;
      error_total = get_or vs 7 0;
      event_total = get_or vs 8 0;
    }

-- the event's seven numbers
abbrev pub event_in : Line → List ℕ
event_in l = l.kind ∷ l.timestamp ∷ l.window ∷ l.threshold ∷ l.errors ∷ l.error_total ∷ l.event_total ∷ []

-- the same, where each value is in its range
unfoldable pub read_values : (last : ℕ) → List ℕ → Reading
read_values last vs = cond (in_range_up_to last (get_or vs 0 0) (get_or vs 1 0) (drop 2 vs)) (LineIs (line_from vs)) (Refused 14)

-- nine decimal fields
unfoldable pub read_fields : (last : ℕ) → List (List ℕ) → Reading
read_fields last fs = cond (eqb (length fs) 9 && every is_decimal fs) (read_values last (map value_of fs)) (Refused 14)

-- "nine decimal fields parted by tabs", "newline last. It reads back; anything else is 14."
unfoldable pub read_line_up_to : (last : ℕ) → List ℕ → Reading
read_line_up_to last s =
    cond (eqb (get_or s (length s - 1) 0) newline)
    (read_fields last (parted (take (length s - 1) s)))
    (Refused 14)

-- by this build
abbrev pub read_line : List ℕ → Reading
read_line s = read_line_up_to last_position s
