-- The listing of an input, whole: what a reader has to believe.
use Rattle.std.specs.Prelude.{ℕ, ◌+◌, ◌%◌, ◌^◌, cond, List, [], ◌∷◌, ◌++◌}
use Rattle.frame.specs.Frame.{decode}
use Rattle.text_listing.specs.Rows.{entry_of, row_of, header}
use Rattle.text_listing.specs.Lines.{hexadecimal, octets_of, lines}
use Rattle.text_listing.specs.declared.row.Entry.{Entry}
use Rattle.text_listing.specs.declared.row.Entry.TheVariants.{Refused}

-- "a line that is not hexadecimal is answered 14 and the next line is taken. Then length. An empty line is length 0"
unfoldable pub line_entry : List ℕ → Entry
line_entry text = cond (hexadecimal text) (entry_of (decode (octets_of text))) (Refused 14)

-- the number of the line after a line: a 64-bit number, the last one followed by 0
abbrev pub following : ℕ → ℕ
following number = (number + 1) % 2 ^ 64

-- the rows of some lines, the first with that number
unfoldable pub rows : ℕ → List (List ℕ) → List ℕ
rows number [] = []
rows number (text ∷ rest) = row_of number (line_entry text) ++ rows (following number) rest

-- "Empty input gives the header only."
unfoldable pub listing : List ℕ → List ℕ
listing input = header ++ rows 1 (lines input)
