-- Capture files as they are written: records, in either byte order.
use Rattle.std.specs.Prelude.{ℕ, zero, suc, ◌/◌, ◌%◌, ◌^◌, ◌<◌, Bool, cond, List, [], ◌∷◌, ◌++◌, map, ltb, length, take}
use Rattle.octets.specs.Octets.{oct}
use Rattle.frame.specs.Frame.{decode}
use Rattle.text_listing.specs.Rows.{entry_of}
use Rattle.text_listing.specs.declared.row.Entry.{Entry}
use Rattle.text_listing.specs.declared.row.Entry.TheVariants.{Refused}
use Rattle.text_captures.specs.Captures.{magic, link_type}

-- the `width` octets of a number, the lowest first
abbrev pub oct_little : ℕ → ℕ → List ℕ
oct_little zero v = []
oct_little (suc width) v = v % 256 ∷ oct_little width (v / 256)

-- a number in four octets, "either byte order"
unfoldable pub four_octets : Bool → ℕ → List ℕ
four_octets little v = cond little (oct_little 4 v) (oct 4 v)

-- a record: the two numbers of its time, the octets that are stored, and how many the frame had
pub record FileRecord : Type 0 where
  pub seconds : ℕ
  pub fraction : ℕ
  pub octets : List ℕ
  pub original : ℕ

-- its lengths are numbers of four octets
abbrev pub Fitting : FileRecord → Type 0
Fitting r = (length r.octets < 2 ^ 32) × (r.original < 2 ^ 32)

abbrev pub AllFitting : List FileRecord → Type 0
AllFitting [] = Unit {0}
AllFitting (r ∷ rest) = Fitting r × AllFitting rest

abbrev pub record_octets : Bool → FileRecord → List ℕ
record_octets little r =
    four_octets little r.seconds
    ++ (four_octets little r.fraction ++ (four_octets little (length r.octets) ++ (four_octets little r.original ++ r.octets)))

abbrev pub all_octets : Bool → List FileRecord → List ℕ
all_octets little [] = []
all_octets little (r ∷ rest) = record_octets little r ++ all_octets little rest

-- a file: the magic number, octets that are not looked at, the link type, and what follows
abbrev pub file_with : Bool → List ℕ → List ℕ → List ℕ
file_with little between octets = four_octets little magic ++ (between ++ (four_octets little link_type ++ octets))

-- records follow
abbrev pub file_of : Bool → List ℕ → List FileRecord → List ℕ
file_of little between rs = file_with little between (all_octets little rs)

-- records follow, and the first octets of one more
abbrev pub ending_inside : Bool → List ℕ → List FileRecord → FileRecord → ℕ → List ℕ
ending_inside little between rs r count = file_with little between (all_octets little rs ++ take count (record_octets little r))

-- what a record's row says of it, whatever the byte order
abbrev pub entry_for : FileRecord → Entry
entry_for r = cond (ltb (length r.octets) r.original) (Refused 17) (entry_of (decode r.octets))

abbrev pub entries_for : List FileRecord → List Entry
entries_for rs = map entry_for rs
