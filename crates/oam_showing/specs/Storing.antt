-- How the code comes to the rows that it stores. No public promise mentions anything here.
use Rattle.std.specs.Prelude.{ℕ, ◌+◌, ◌-◌, ◌*◌, ◌/◌, ◌≡◌, cond, List, [], ◌∷◌, map, length, ltb, eqb, Option, None, Some, Result, Ok, Err}
use Rattle.std.proofs.lemmas.List.Edits.{sets}
use Rattle.octets.specs.Layout.{body_start, events_start}
use Rattle.frame_tlvs.specs.Walk.{Next, stop, broken, skip, has, walk, beside}
use Rattle.frame_tlvs.specs.Counting.{behind, skipping}
use Rattle.frame_tlvs.specs.Events.{event_step, next_of as event_next_of}
use Rattle.frame_body.specs.Information.{information_step, next_of as information_next_of}
use Rattle.frame_body.specs.Variables.{descriptor_step, descriptor_next, container_step, container_next}
use Rattle.frame_tlvs.specs.declared.Cursor.{Cursor}
use Rattle.frame_tlvs.specs.declared.Event.{Event}
use Rattle.frame_tlvs.specs.declared.Placed.{Placed as FoundPlaced}
use Rattle.frame_body.specs.declared.InformationPart.{InformationPart}
use Rattle.frame_body.specs.declared.Container.{Container}
use Rattle.frame_body.specs.declared.Content.{Content}
use Rattle.frame_body.specs.declared.Content.TheVariants.{Value, Indication}
use Rattle.octets.specs.declared.refusal.Refusal.{Refusal}
use Rattle.oam_showing.specs.Parts.{Placed, before, placed, row_numbers, row, information_row, event_row, descriptor_row, container_row, stored_rows}

-- what stands at an octet, its part made into something else
abbrev pub mapped : {P Q : Type 0} → (P → Q) → Next P → Next Q
mapped make stop = stop
mapped make broken = broken
mapped make (skip n) = skip n
mapped make (has p n) = has (make p) n

-- a row that awaits the number skipped before its part
abbrev pub awaiting : {P : Type 0} → (Placed P × ℕ → List ℕ) → Placed P → ℕ → List ℕ
awaiting row p skipped = row (p, skipped)

-- ---- the parts as the code finds them

abbrev pub part_row : InformationPart → ℕ → ℕ → List ℕ
part_row p next skipped = information_row (before p next, skipped)

abbrev pub event_row_of : Event → ℕ → ℕ → List ℕ
event_row_of e next skipped = event_row (before e next, skipped)

abbrev pub descriptor_row_of : ℕ → ℕ → ℕ → List ℕ
descriptor_row_of d next skipped = descriptor_row (before d next, skipped)

abbrev pub content_row_of : ℕ → Content → ℕ → ℕ → List ℕ
content_row_of descriptor (Value width) next skipped = row 36 next skipped (descriptor ∷ (next - width) ∷ width ∷ [])
content_row_of descriptor (Indication octet) next skipped = row 37 next skipped (descriptor ∷ octet ∷ [])

abbrev pub content_row : Container → ℕ → ℕ → List ℕ
content_row c next skipped = content_row_of c.descriptor c.content next skipped

-- what the code finds at an octet, its part as a row
abbrev pub part_next : {P : Type 0} → (P → ℕ → ℕ → List ℕ) → Option (Result (FoundPlaced P) Refusal) → Next (ℕ → List ℕ)
part_next row None = stop
part_next row (Some (Err r)) = broken
part_next row (Some (Ok p)) = has (row p.part p.end) p.end

-- what an iterator over TLVs gave, in which an unknown one is skipped, with the octet at which it then stands
abbrev pub known_next : {P : Type 0} → (P → ℕ → ℕ → List ℕ) → Option P → ℕ → Next (ℕ → List ℕ)
known_next row None next = skip next
known_next row (Some p) next = has (row p next) next

abbrev pub tlv_next : {P : Type 0} → (P → ℕ → ℕ → List ℕ) → Option (Result (Option P) Refusal) → ℕ → Next (ℕ → List ℕ)
tlv_next row None next = stop
tlv_next row (Some (Err r)) next = broken
tlv_next row (Some (Ok part)) next = known_next row part next

-- what stands at octet `at` of a frame, its part as such a row
abbrev pub information_row_at : List ℕ → ℕ → Next (ℕ → List ℕ)
information_row_at f at = mapped (awaiting information_row) (placed (information_next_of (information_step f at)))

abbrev pub event_row_at : List ℕ → ℕ → Next (ℕ → List ℕ)
event_row_at f at = mapped (awaiting event_row) (placed (event_next_of (event_step f at)))

abbrev pub descriptor_row_at : List ℕ → ℕ → Next (ℕ → List ℕ)
descriptor_row_at f at = mapped (awaiting descriptor_row) (placed (descriptor_next (descriptor_step f at)))

abbrev pub container_row_at : List ℕ → ℕ → Next (ℕ → List ℕ)
container_row_at f at = mapped (awaiting container_row) (placed (container_next f (container_step f at)))

-- by the code of the frame; codes beyond 3 have no parts
abbrev pub row_at : ℕ → List ℕ → ℕ → Next (ℕ → List ℕ)
row_at code f at =
    cond (eqb code 0) (information_row_at f at)
    (cond (eqb code 1) (event_row_at f at)
    (cond (eqb code 2) (descriptor_row_at f at)
    (cond (eqb code 3) (container_row_at f at)
    stop)))

-- each row with the number beside it
abbrev pub numbered : List ((ℕ → List ℕ) × ℕ) → List (List ℕ)
numbered rows = map (λ r. r.0 r.1) rows

-- the rows from octet `at` on
abbrev pub rows_from : ℕ → List ℕ → ℕ → List (List ℕ)
rows_from code f at = numbered (beside 0 (walk (λ n. row_at code f n) (length f) at))

-- "The TLV walk begins at octet 18, or 20 after a sequence number (2 octets, code 01)."
abbrev pub start_of : ℕ → ℕ
start_of code = cond (eqb code 1) events_start body_start

-- the row of the part that comes after `count` parts, stored: not among the first ones, nor where the lent numbers are full
abbrev pub row_stored : ℕ → ℕ → List ℕ → List ℕ → List ℕ
row_stored count first row lent =
    cond (ltb count first) lent
    (cond (ltb (count - first) (length lent / row_numbers)) (sets lent ((count - first) * row_numbers) row) lent)

-- what stood at a cursor: nothing more, or something, with the cursor after it
abbrev pub stood_of : Cursor → Next (ℕ → List ℕ) → Option Cursor
stood_of c stop = None
stood_of c broken = None
stood_of c (skip n) = Some (skipping c n)
stood_of c (has row n) = Some (behind c n)

-- the same where the cursor after it is there already, with its own number
abbrev pub stood_at : Cursor → Next (ℕ → List ℕ) → Option Cursor
stood_at after stop = None
stood_at after broken = None
stood_at after (skip n) = Some after
stood_at after (has row n) = Some after

-- the parts that there were, and the lent numbers, after it
abbrev pub next_count : ℕ → Next (ℕ → List ℕ) → ℕ
next_count count stop = count
next_count count broken = count
next_count count (skip n) = count
next_count count (has row n) = count + 1

abbrev pub next_stored : ℕ → ℕ → ℕ → Next (ℕ → List ℕ) → List ℕ → List ℕ
next_stored skipped count first stop lent = lent
next_stored skipped count first broken lent = lent
next_stored skipped count first (skip n) lent = lent
next_stored skipped count first (has row n) lent = row_stored count first (row skipped) lent

-- a function that stores the row of what stands at a cursor
pub record StoringRow (c : Cursor) (first : ℕ) (next : Next (ℕ → List ℕ)) (count : ℕ) (entry : List ℕ) (stood : Option Cursor) (count' : ℕ) (exit : List ℕ) : Type 0 where
  pub stands : stood ≡ stood_of c next
  pub counted : count' ≡ next_count count next
  pub stored : exit ≡ next_stored c.skipped count first next entry

-- a function that stores the row of what an iterator gave, which then stands at a cursor
pub record StoringItem (after : Cursor) (first : ℕ) (next : Next (ℕ → List ℕ)) (count : ℕ) (entry : List ℕ) (stood : Option Cursor) (count' : ℕ) (exit : List ℕ) : Type 0 where
  pub stands : stood ≡ stood_at after next
  pub counted : count' ≡ next_count count next
  pub stored : exit ≡ next_stored after.skipped count first next entry

-- a function that stores rows: how many there are, and those that are stored
pub record StoringRows (rows : List (List ℕ)) (first : ℕ) (entry : List ℕ) (count : ℕ) (exit : List ℕ) : Type 0 where
  pub counted : count ≡ length rows
  pub stored : exit ≡ sets entry 0 (stored_rows first (length entry) rows)
