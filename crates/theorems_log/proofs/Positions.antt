-- A build that takes more positions reads all that one with fewer reads, and the same of it; the one with fewer answers 14 to the
-- rest. So old lines read as before.
use Prim.Native.Nat.{ℕ, ◌-◌, ◌^◌, ◌≤◌, ◌<◌}
use mathlib.Core.Path.{◌≡◌, refl, sym, ap, ◌∙◌}
use mathlib.Core.List.{List, ◌∷◌, map}
use mathlib.Core.Bool.{Bool, true, false, cond, ◌&&◌, and-true, and-false}
use native.Mathlib.Omega.{arith}
use borrow.Author.Tests.{leb-true, le-leb, lt-leb, lt-ltb}
use lib.Dec.{ltb, leb, eqb}
use lib.ListN.{length, get_or, take, drop}
use Rattle.frame_tlvs.specs.Tlvs.{row}
use Rattle.frame_writer.specs.Plain.{every, plain_event}
use Rattle.frame_writer.specs.Writing.{plain_seven}
use Rattle.theorems_frame.specs.Tables.{all_found, all_expected}
use Rattle.text.specs.Marks.{newline}
use Rattle.text.specs.Decimal.{decimal_in}
use Rattle.text_eventlog.specs.Digits.{value_of, is_decimal}
use Rattle.text_eventlog.specs.Line.{last_position, in_range_up_to, line_of, parted, line_from, read_values, read_fields, read_line_up_to, read_line, Reading, Refused, LineIs}
use Rattle.text_eventlog.specs.Logging.{logs}
use Rattle.text_eventlog.specs.declared.Line.{Line}
use Rattle.theorems_log.specs.Positions.{up_to, old_reading}
use Rattle.theorems_log.specs.Examples.{rows}
use Rattle.theorems_log.proofs.Lines.{passed, written_reads}

-- ---- any two last positions, in order

-- what a test refuses stays refused
refused_stays : (last : ℕ) (b : Bool) (r : Reading) → cond b (up_to last r) (Refused 14) ≡ up_to last (cond b r (Refused 14))
refused_stays last true r = refl
refused_stays last false r = refl

-- a line that is narrowed passes one test more
one_test_more : (last : ℕ) (b : Bool) (l : Line)
    → up_to last (cond b (LineIs l) (Refused 14)) ≡ cond (leb l.position last && b) (LineIs l) (Refused 14)
one_test_more last true l = rw (and-true (leb l.position last))
one_test_more last false l = rw (and-false (leb l.position last))

-- of two tests of the position the narrower decides
narrower_decides : (a b c d e : Bool) → (c ≡ true → d ≡ true) → (c && (a && ((b && d) && e))) ≡ (a && ((b && c) && e))
narrower_decides a b true d e h = rw (h refl)
narrower_decides false b false d e h = refl
narrower_decides true false false d e h = refl
narrower_decides true true false d e h = refl

module _ (smaller larger : ℕ) (h : smaller ≤ larger) where
  values_narrowed : (vs : List ℕ) → read_values smaller vs ≡ up_to smaller (read_values larger vs)
  unfolding read_values in_range_up_to
  values_narrowed vs =
      let position = get_or vs 1 0 in
      let a = ltb (get_or vs 0 0) (256 ^ 2) in
      let e = plain_seven (drop 2 vs) in
      let wider : leb position smaller ≡ true → leb position larger ≡ true = λ t. le-leb position larger (omega (arith, leb-true position smaller t)) in
      sym
      (one_test_more smaller (a && ((leb 1 position && leb position larger) && e)) (line_from vs)
      ∙ ap (λ (b : Bool). cond b (LineIs (line_from vs)) (Refused 14)) (narrower_decides a (leb 1 position) (leb position smaller) (leb position larger) e wider))

  fields_narrowed : (fs : List (List ℕ)) → read_fields smaller fs ≡ up_to smaller (read_fields larger fs)
  unfolding read_fields
  fields_narrowed fs =
      rw (values_narrowed (map value_of fs))
      (refused_stays smaller (eqb (length fs) 9 && every is_decimal fs) (read_values larger (map value_of fs)))

  -- the reading up to the smaller is that up to the larger, with 14 for a position above the smaller
  pub narrowed : (s : List ℕ) → read_line_up_to smaller s ≡ up_to smaller (read_line_up_to larger s)
  unfolding read_line_up_to
  narrowed s =
      let fs = parted (take (length s - 1) s) in
      rw (fields_narrowed fs) (refused_stays smaller (eqb (get_or s (length s - 1) 0) newline) (read_fields larger fs))

-- a line that is left of a reading was its line
narrowed_line : (last : ℕ) (r : Reading) (l : Line) → up_to last r ≡ LineIs l → r ≡ LineIs l
narrowed_line last (Refused n) l e = e
narrowed_line last (LineIs k) l e = (passed (leb k.position last) (LineIs k) l e).1

-- ---- the old build

-- "Old log lines read as before"
pub old_lines : (s : List ℕ) (l : Line) → old_reading s ≡ LineIs l → read_line s ≡ LineIs l
old_lines s l e = narrowed_line 4 (read_line s) l (sym (narrowed 4 last_position (omega arith) s) ∙ e)

-- what the old build wrote, too: the same line, of any values that were in range there
pub old_written : (number position : ℕ) (event : List ℕ) → number < 256 ^ 2 → 1 ≤ position → position ≤ 4 → plain_seven event ≡ true
    → read_line (line_of number position event) ≡ LineIs (line_from (number ∷ position ∷ event))
unfolding in_range_up_to
old_written number position event n least most seven =
    written_reads number position event
    (rw (lt-ltb number (256 ^ 2) n, le-leb 1 position least, le-leb position last_position (omega arith), seven))

-- "the old build answers 14 to a position above 4"
pub old_refuses : (s : List ℕ) (l : Line) → read_line s ≡ LineIs l → 4 < l.position → old_reading s ≡ Refused 14
old_refuses s l e h = narrowed 4 last_position (omega arith) s ∙ ap (up_to 4) e ∙ rw (lt-leb l.position 4 h)

-- ---- examples

pub positions_hold : all_found rows ≡ all_expected rows
unfolding logs line_of decimal_in in_range_up_to plain_seven plain_event row is_decimal read_values read_fields read_line_up_to
positions_hold = refl
