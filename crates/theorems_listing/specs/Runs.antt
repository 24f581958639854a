-- Calls of the listing one after the other, from an input's beginning and with a lent working frame; what a call of any steps is
-- that goes from stage to stage; and what a working frame of any length makes of a line.
use Rattle.std.specs.Prelude.{ℕ, ◌-◌, ◌≡◌, List, [], ◌∷◌, ◌++◌, cond, leb, length, take, drop}
use Rattle.frame.specs.Frame.{decode}
use Rattle.text.specs.Pieces.{Steps, Stage, Call, Run, called, run_of}
use Rattle.text_listing.specs.Rows.{entry_of}
use Rattle.text_listing.specs.Lines.{hexadecimal, octets_of}
use Rattle.text_listing.specs.Taking.{line_with, frame_with, decoded_of, too_many, decoded_entry}
use Rattle.text_listing.specs.Feeding.{begun, State, lister}
use Rattle.text_listing.specs.declared.line.Line.{Line}
use Rattle.text_listing.specs.declared.row.Entry.{Entry}
use Rattle.text_listing.specs.declared.row.Entry.TheVariants.{Refused}

abbrev pub run : List ℕ → List ℕ → List Call → Run State
run frame input calls = run_of lister (record { progress = begun; frame = frame }) input calls

-- From one stage to another is a call of a run: it goes on with what is left of the piece and the rest of the input behind it, and
-- what it says stands in the output after what waited.
abbrev pub IsCall : {S : Type 0} → Steps S → (piece rest said : List ℕ) → Stage S → Stage S → Type 0
IsCall r piece rest said a b =
    called r (record { size = length (drop a.taken piece); room = length a.output - a.waiting })
    (record { state = a.state; left = drop a.taken piece ++ rest; said = said })
    ≡ record { state = b.state; left = drop b.taken piece ++ rest; said = said ++ take (b.waiting - a.waiting) (drop a.waiting b.output) }

-- the entry of a line that goes on with a text, taken a character at a time, and ends
unfoldable pub entry_after : Line → List ℕ → List ℕ → Entry
entry_after line f [] = decoded_entry f (decoded_of line)
entry_after line f (c ∷ text) = entry_after (line_with line c) (frame_with f line c) text

-- the entry of octets for which a working frame of so many may have no room
unfoldable pub entry_in : ℕ → List ℕ → Entry
entry_in room octets = cond (leb (length octets) room) (entry_of (decode octets)) (Refused (too_many (length octets)))

-- the same of a line: "a line that is not hexadecimal is answered 14"
unfoldable pub line_entry_in : ℕ → List ℕ → Entry
line_entry_in room text = cond (hexadecimal text) (entry_in room (octets_of text)) (Refused 14)
