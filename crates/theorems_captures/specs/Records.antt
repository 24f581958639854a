-- Octets that are records, one after another and nothing else; and what is listed of a file's.
use Rattle.std.specs.Prelude.{ℕ, ◌≡◌, Bool, true, false, not, List, [], ◌∷◌, ◌++◌, eqb, length, drop}
use Rattle.octets.specs.Tests.{every}
use Rattle.text_listing.specs.declared.row.Entry.{Entry}
use Rattle.text_listing.specs.declared.row.Entry.TheVariants.{Accepted, Refused}
use Rattle.text_captures.specs.Captures.{file_header, is_little, record_size, entries}

-- ---- records

-- as many octets as the first record has
abbrev pub IsRecord : Bool → List ℕ → Type 0
IsRecord little s = length s ≡ record_size little s

abbrev pub AreRecords : Bool → List (List ℕ) → Type 0
AreRecords little [] = Unit {0}
AreRecords little (s ∷ rest) = IsRecord little s × AreRecords little rest

abbrev pub joined : List (List ℕ) → List ℕ
joined [] = []
joined (s ∷ rest) = s ++ joined rest

-- the octets after a file's header
abbrev pub records_in : List ℕ → List ℕ
records_in input = drop file_header input

-- an input ends at a record's end
pub record EndsAtRecord (input : List ℕ) : Type 0 where
  pub parts : List (List ℕ)
  pub records : AreRecords (is_little input) parts
  pub whole : joined parts ≡ records_in input

-- ---- entries

-- those of a file's records
abbrev pub entries_in : List ℕ → List Entry
entries_in input = entries (is_little input) (records_in input)

-- whether an entry is that refusal
abbrev pub is_refusal : ℕ → Entry → Bool
is_refusal answer (Accepted code flags skipped) = false
is_refusal answer (Refused n) = eqb n answer

-- no entry is that refusal
abbrev pub without : ℕ → List Entry → Bool
without answer rows = every (λ (entry : Entry). not (is_refusal answer entry)) rows

-- the last entry is that refusal, and no other is
pub record OnlyLast (answer : ℕ) (rows : List Entry) : Type 0 where
  pub before : List Entry
  pub others : without answer before ≡ true
  pub all : rows ≡ before ++ (Refused answer ∷ [])
