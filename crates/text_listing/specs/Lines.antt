-- Lines of hexadecimal text: "The lister reads standard input, one frame a line in digits 0-9a-f".
use Rattle.std.specs.Prelude.{ℕ, ◌+◌, ◌-◌, ◌*◌, Bool, true, false, cond, ◌&&◌, ◌||◌, List, [], ◌∷◌, ◌==◌, nat_le}
use Rattle.text.specs.Marks.{newline}

-- "digits 0-9a-f"
unfoldable pub is_digit : ℕ → Bool
is_digit c = (nat_le 48 c && nat_le c 57) || (nat_le 97 c && nat_le c 102)

-- the value of a digit
unfoldable pub digit_of : ℕ → ℕ
digit_of c = cond (nat_le c 57) (c - 48) (c - 87)

-- "Odd or foreign digits: a line that is not hexadecimal": every character is a digit, and they are even in number
unfoldable pub hexadecimal : List ℕ → Bool
hexadecimal [] = true
hexadecimal (a ∷ []) = false
hexadecimal (a ∷ b ∷ text) = is_digit a && is_digit b && hexadecimal text

-- two digits an octet
unfoldable pub octets_of : List ℕ → List ℕ
octets_of [] = []
octets_of (a ∷ []) = []
octets_of (a ∷ b ∷ text) = (digit_of a * 16 + digit_of b) ∷ octets_of text

-- a character before the first of some lines
abbrev pub longer : ℕ → List (List ℕ) → List (List ℕ)
longer c [] = (c ∷ []) ∷ []
longer c (line ∷ rest) = (c ∷ line) ∷ rest

-- Each newline ends a line; "a last line needs no newline", and nothing after the last newline is no line.
unfoldable pub lines : List ℕ → List (List ℕ)
lines [] = []
lines (c ∷ rest) = cond (c == newline) ([] ∷ lines rest) (longer c (lines rest))
