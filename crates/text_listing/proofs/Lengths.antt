-- How many octets a row has, and that there is room for any.
use Rattle.std.proofs.Common.{◌≡◌, ℕ, ◌+◌, ◌<◌, ◌≤◌, List, [], ◌∷◌, ◌++◌, length, ap, arith, length-append}
use mir.Val.{Val}
use denote.Laws.{Is}
use Rattle.text.specs.Marks.{tab, newline}
use Rattle.text.specs.Decimal.{decimal, field}
use Rattle.text.proofs.Decimals.{one_digit, within_places, at_most, length-field}
use Rattle.text_listing.specs.contracts.row.Entry.{the_row}
use Rattle.text_listing.specs.Rows.{columns, row_of, row_room}
use Rattle.text_listing.specs.declared.row.Entry.{Entry}
use Rattle.text_listing.specs.declared.row.Entry.TheVariants.{Accepted, Refused}

pub length_accepted : (code flags skipped : ℕ)
    → length (columns (Accepted code flags skipped)) ≡ length (decimal code) + length (decimal flags) + length (decimal skipped) + 5
unfolding columns
length_accepted code flags skipped =
    let two = field code tab ++ field flags tab in
    let zero : length (decimal 0) ≡ 1 = ap length (one_digit 19 0 (omega arith)) in
    let first = length-append (field code tab) (field flags tab) in
    let second = length-append two (field 0 tab) in
    let third = length-append (two ++ field 0 tab) (field skipped newline) in
    omega (arith, length-field code tab, length-field flags tab, length-field 0 tab, length-field skipped newline)

pub length_refused : (answer : ℕ) → length (columns (Refused answer)) ≡ length (decimal answer) + 7
unfolding columns
length_refused answer =
    let dashes : List ℕ = 45 ∷ tab ∷ 45 ∷ tab ∷ [] in
    omega (arith, length-field answer tab, length-append dashes (field answer tab), length-append (dashes ++ field answer tab) (45 ∷ newline ∷ []))

module _ (number : ℕ) where
  pub length_row : (entry : Entry) → length (row_of number entry) ≡ length (decimal number) + 1 + length (columns entry)
  unfolding row_of
  length_row entry = omega (arith, length-field number tab, length-append (field number tab) (columns entry))

  pub refused_within : (answer : ℕ) → answer < 256 → length (row_of number (Refused answer)) ≤ row_room
  refused_within answer octet = omega (arith, length_row (Refused answer), length_refused answer, within_places 20 number, at_most 20 2 answer (omega arith))

  -- an entry that code can hold: its numbers are of their types
  pub row_within : (entry : Entry) {held : List Val} → Is the_row entry held → length (row_of number entry) ≤ row_room
  row_within (Accepted code flags skipped) is =
      let row = length_row (Accepted code flags skipped) in
      let of_code = at_most 20 2 code (omega (arith, is)) in
      let of_flags = at_most 20 4 flags (omega (arith, is)) in
      omega (arith, length_accepted code flags skipped, within_places 20 number, within_places 20 skipped)
  row_within (Refused answer) is = refused_within answer (omega (arith, is))
