-- How a line is taken: a character at a time, its octets into a working frame.
use Rattle.std.specs.Prelude.{◌≡◌, ℕ, ◌+◌, ◌*◌, ◌%◌, ◌<◌, min, Bool, true, cond, List, length, take, nat_le, nat_lt, slice_index, slice_set, Option, Some, None}
use Rattle.octets.specs.Layout.{longest_frame}
use Rattle.frame.specs.Frame.{decode}
use Rattle.text_listing.specs.Rows.{entry_of}
use Rattle.text_listing.specs.Lines.{is_digit, digit_of}
use Rattle.text_listing.specs.declared.line.Line.{Line}
use Rattle.text_listing.specs.declared.line.Line.TheVariants.{Whole, Half, Foreign}
use Rattle.text_listing.specs.declared.row.Entry.{Entry}
use Rattle.text_listing.specs.declared.row.Entry.TheVariants.{Refused}

-- a digit's value, and 16 for any other character
abbrev pub value_of : ℕ → ℕ
value_of c = cond (is_digit c) (digit_of c) 16

-- a table of the values of all characters, each at its number
abbrev pub Values : List ℕ → Type 0
Values values = (length values ≡ 256) × ((c : ℕ) → c < 256 → slice_index values c ≡ value_of c)

-- one octet more; one more than a frame has stands for any number above
abbrev pub counted : ℕ → ℕ
counted octets = cond (nat_le octets longest_frame) (octets + 1) octets

-- no character yet
abbrev pub fresh : Line
fresh = Whole 0

-- one digit more: the first of an octet, or the second
abbrev pub with_digit : Line → ℕ → Line
with_digit (Whole n) v = Half n v
with_digit (Half n high) v = Whole (counted n)
with_digit Foreign v = Foreign

-- the octets that a working frame holds: as many as it has, and no more than a frame
abbrev pub held : List ℕ → ℕ
held f = min (length f) longest_frame

abbrev pub keep : List ℕ → ℕ → ℕ → List ℕ
keep f n octet = cond (nat_lt n (held f)) (slice_set f n octet) f

-- "filled digit by digit": the second digit of an octet stores it, where the working frame holds it
abbrev pub store_digit : List ℕ → Line → ℕ → List ℕ
store_digit f (Whole n) v = f
store_digit f (Half n high) v = keep f n (high % 16 * 16 + v)
store_digit f Foreign v = f

-- one character more
unfoldable pub line_with : Line → ℕ → Line
line_with line c = cond (is_digit c) (with_digit line (digit_of c)) Foreign

unfoldable pub frame_with : List ℕ → Line → ℕ → List ℕ
frame_with f line c = cond (is_digit c) (store_digit f line (digit_of c)) f

abbrev pub has_begun : Line → Bool
has_begun (Whole n) = nat_lt 0 n
has_begun (Half n high) = true
has_begun Foreign = true

-- what a line comes to at its end: so many octets, or no hexadecimal
abbrev pub decoded_of : Line → Option ℕ
decoded_of (Whole n) = Some n
decoded_of (Half n high) = None
decoded_of Foreign = None

-- the refusal of a line whose octets are more than the working frame holds: 9, it is lent too short; or 1, they are more
-- than a frame has
abbrev pub too_many : ℕ → ℕ
too_many n = cond (nat_le n longest_frame) 9 1

-- the entry of the first so many octets of a working frame
abbrev pub length_entry : List ℕ → ℕ → Entry
length_entry f n = cond (nat_le n (held f)) (entry_of (decode (take n f))) (Refused (too_many n))

-- the entry of what a line comes to
abbrev pub decoded_entry : List ℕ → Option ℕ → Entry
decoded_entry f (Some n) = length_entry f n
decoded_entry f None = Refused 14
