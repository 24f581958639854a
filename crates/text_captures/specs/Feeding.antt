-- How a capture file is fed: an octet at a time, its headers and frames collected in a working frame that is lent.
use Rattle.std.specs.Prelude.{◌≡◌, ℕ, ◌+◌, ◌-◌, ◌<◌, ◌≤◌, Bool, true, false, cond, List, [], length, ◌==◌, nat_lt, slice_set, Option, Some, None}
use Rattle.std.proofs.lemmas.List.Edits.{sets}
use Rattle.text.specs.Pieces.{Steps, State as StateOf, stage, gone_on}
use Rattle.text_listing.specs.Rows.{row_of, row_room}
use Rattle.text_listing.specs.Listing.{following}
use Rattle.text_listing.specs.Taking.{length_entry}
use Rattle.text_listing.specs.Feeding.{Finished, Written, Refused as NoRoom, octets_written}
use Rattle.text_listing.specs.declared.row.Entry.{Entry}
use Rattle.text_listing.specs.declared.row.Entry.TheVariants.{Refused}
use Rattle.text_captures.specs.declared.progress.Awaited.{Awaited}
use Rattle.text_captures.specs.declared.progress.Awaited.TheVariants.{FileHeader, RecordHeader, Frame, Nothing}
use Rattle.text_captures.specs.declared.progress.Progress.{Progress}
use Rattle.text_captures.specs.Captures.{file_header, is_little, is_capture, record_header, stored_of, original_of}

-- ---- what is awaited

-- before the first octet; the row of a file header has the number 0
abbrev pub begun : Progress
begun = record { awaited = FileHeader; number = 0; little = false; filled = 0; stored = 0; original = 0 }

-- how many octets are awaited
abbrev pub wanted : Awaited → ℕ → ℕ
wanted FileHeader stored = file_header
wanted RecordHeader stored = record_header
wanted Frame stored = stored
wanted Nothing stored = 0

abbrev pub is_stopped : Awaited → Bool
is_stopped FileHeader = false
is_stopped RecordHeader = false
is_stopped Frame = false
is_stopped Nothing = true

-- how many octets come before the last one that is awaited
abbrev pub ahead : Progress → ℕ
ahead p = wanted p.awaited p.stored - (p.filled + 1)

-- whether the next octet is that one
abbrev pub is_last : Progress → Bool
is_last p = cond (is_stopped p.awaited) false (ahead p == 0)

-- ---- setters

abbrev pub with_filled : Progress → ℕ → Progress
with_filled p n = record { awaited = p.awaited; number = p.number; little = p.little; filled = n; stored = p.stored; original = p.original }

-- a record's header is awaited, with the next number
abbrev pub awaiting_record : Progress → Bool → Progress
awaiting_record p little = record { awaited = RecordHeader; number = following p.number; little = little; filled = 0; stored = 0; original = 0 }

-- a record's octets are awaited
abbrev pub awaiting_frame : Progress → ℕ → ℕ → Progress
awaiting_frame p stored original = record { awaited = Frame; number = p.number; little = p.little; filled = 0; stored = stored; original = original }

-- nothing is awaited any more
abbrev pub awaiting_nothing : Progress → Progress
awaiting_nothing p = record { awaited = Nothing; number = p.number; little = p.little; filled = 0; stored = 0; original = 0 }

-- ---- what comes of the octets that were awaited, once the working frame has them

-- the progress after the last octet that was awaited, and the row that is said there, if there is one
pub record Acted : Type 0 where
  pub progress : Progress
  pub said : Option Entry

-- after this answer no record can be found
abbrev pub stops_with : Progress → ℕ → Acted
stops_with p answer = record { progress = awaiting_nothing p; said = Some (Refused answer) }

-- a file's header; a working frame that has no room for it is lent too short
unfoldable pub after_file_header : Progress → List ℕ → Acted
after_file_header p f =
    cond (nat_lt (length f) file_header) (stops_with p 9)
    (cond (is_capture f) (record { progress = awaiting_record p (is_little f); said = None }) (stops_with p 16))

-- the entry of octets that are stored: "17 before 1"
abbrev pub stored_entry : List ℕ → ℕ → ℕ → Entry
stored_entry f stored original = cond (nat_lt stored original) (Refused 17) (length_entry f stored)

-- a record's octets
unfoldable pub after_frame : Progress → List ℕ → Acted
after_frame p f = record { progress = awaiting_record p p.little; said = Some (stored_entry f p.stored p.original) }

-- the entry where no octet is stored: the same, of a frame that has none
abbrev pub empty_entry : ℕ → Entry
empty_entry original = cond (nat_lt 0 original) (Refused 17) (Refused 1)

-- a record's header: where no octet is stored, the record is whole with it
unfoldable pub after_record_header : Progress → List ℕ → Acted
after_record_header p f =
    cond (nat_lt (length f) record_header) (stops_with p 9)
    (cond (stored_of p.little f == 0)
    (record { progress = awaiting_record p p.little; said = Some (empty_entry (original_of p.little f)) })
    (record { progress = awaiting_frame p (stored_of p.little f) (original_of p.little f); said = None }))

abbrev pub acted_by : Awaited → Progress → List ℕ → Acted
acted_by FileHeader p f = after_file_header p f
acted_by RecordHeader p f = after_record_header p f
acted_by Frame p f = after_frame p f
acted_by Nothing p f = record { progress = p; said = None }

abbrev pub acted : Progress → List ℕ → Acted
acted p f = acted_by p.awaited p f

-- the octets of what is said
abbrev pub row_said : ℕ → Option Entry → List ℕ
row_said n None = []
row_said n (Some entry) = row_of n entry

-- ---- what the file's end leaves to say

abbrev pub left_by : Awaited → ℕ → Option Entry
left_by FileHeader filled = Some (Refused 16)
left_by RecordHeader filled = cond (filled == 0) None (Some (Refused 18))
left_by Frame filled = Some (Refused 18)
left_by Nothing filled = None

abbrev pub left_to_say : Progress → Option Entry
left_to_say p = left_by p.awaited p.filled

abbrev pub last_row : Progress → List ℕ
last_row p = row_said p.number (left_to_say p)

-- ---- the steps

-- where a listing stands: the progress, and the working frame
abbrev pub State : Type 0
State = StateOf Progress

-- one octet more, where the working frame has room for it
abbrev pub frame_with : State → ℕ → List ℕ
frame_with s c = slice_set s.frame s.progress.filled c

-- an octet before the last one
abbrev pub goes_on : State → ℕ → State
goes_on s c = cond (is_stopped s.progress.awaited) s (record { progress = with_filled s.progress (s.progress.filled + 1); frame = frame_with s c })

-- the last one
abbrev pub completes : State → ℕ → State
completes s c = record { progress = (acted s.progress (frame_with s c)).progress; frame = frame_with s c }

-- The last octet that is awaited says the row, if there is one, and wants room for any row.
abbrev pub captures : Steps State
captures = record {
  next = λ s c. cond (is_last s.progress) (completes s c) (goes_on s c);
  says = λ s c. cond (is_last s.progress) (row_said s.progress.number (acted s.progress (frame_with s c)).said) [];
  wants = λ s c. cond (is_last s.progress) row_room 0;
  last = λ s. last_row s.progress;
}

-- ---- what is promised

-- a part of a piece that is taken before anything is said: whatever waits, the call comes to the same from there
abbrev pub Leads : List ℕ → Progress → List ℕ → ℕ → Progress → List ℕ → ℕ → Type 0
Leads piece p f at p' f' at' =
    (waiting : ℕ) (out : List ℕ)
    → gone_on captures piece (stage p (record { taken = at; waiting = waiting }) f out)
    ≡ gone_on captures piece (stage p' (record { taken = at'; waiting = waiting }) f' out)

-- what is promised of the octets that are collected: they end with the piece, or before the last one that is awaited
pub record Collects (piece : List ℕ) (p : Progress) (f : List ℕ) (at : ℕ) (p' : Progress) (f' : List ℕ) (at' : ℕ) : Type 0 where
  pub onward : at ≤ at'
  pub within : at' ≤ length piece
  pub leads : Leads piece p f at p' f' at'
  pub stops : at' < length piece → is_last p' ≡ true

-- what `finish` writes, by what is left to say: a refusal says nothing
abbrev pub finished_by : ℕ → ℕ → Option Entry → Finished
finished_by octets n None = Written 0
finished_by octets n (Some entry) = cond (nat_lt octets row_room) (NoRoom 9) (Written (length (row_of n entry)))

-- what `finish` promises: the result, the row at the output's front, and that it fits
pub record Finishes (p : Progress) (out : List ℕ) (r : Finished) (out' : List ℕ) : Type 0 where
  pub result : r ≡ finished_by (length out) p.number (left_to_say p)
  pub output : out' ≡ cond (nat_lt (length out) row_room) out (sets out 0 (last_row p))
  pub fits : octets_written r ≤ length out
