-- Rows of the listing: "fields parted by tabs, being line number, code and flags (all sixteen bits) in decimal (`-` if
-- refused), answer (0 accepted)"; and "a fifth column, `skipped`, `-` where refused".
use Rattle.std.specs.Prelude.{ℕ, List, [], ◌∷◌, ◌++◌}
use Rattle.frame.specs.Frame.{Answer, refused, accepted, code_of}
use Rattle.text.specs.Marks.{tab, newline}
use Rattle.text.specs.Decimal.{field}
use Rattle.text_listing.specs.declared.row.Entry.{Entry}
use Rattle.text_listing.specs.declared.row.Entry.TheVariants.{Accepted, Refused}

-- what a row says of a frame
abbrev pub entry_of : Answer → Entry
entry_of (refused n) = Refused n
entry_of (accepted m) = Accepted (code_of m.body) m.flags m.skipped

-- code, flags, answer and skipped, with `-` for all but the answer of a refused frame
unfoldable pub columns : Entry → List ℕ
columns (Accepted code flags skipped) = field code tab ++ field flags tab ++ field 0 tab ++ field skipped newline
columns (Refused answer) = (45 ∷ tab ∷ 45 ∷ tab ∷ []) ++ field answer tab ++ (45 ∷ newline ∷ [])

-- a row: the line number before them
unfoldable pub row_of : ℕ → Entry → List ℕ
row_of number entry = field number tab ++ columns entry

-- the octets that a row of any number and entry has at most
abbrev pub row_room : ℕ
row_room = 54

-- "no", "code", "flags", "answer" and "skipped", parted by tabs
abbrev pub header : List ℕ
header =
    110 ∷ 111 ∷ tab ∷ 99 ∷ 111 ∷ 100 ∷ 101 ∷ tab ∷ 102 ∷ 108 ∷ 97 ∷ 103 ∷ 115 ∷ tab
    ∷ 97 ∷ 110 ∷ 115 ∷ 119 ∷ 101 ∷ 114 ∷ tab ∷ 115 ∷ 107 ∷ 105 ∷ 112 ∷ 112 ∷ 101 ∷ 100 ∷ newline ∷ []
