-- The two laws of the log: a line that is written reads back as what was meant, and a line that reads is the one line that
-- is written for its values. And how long a line may be.
use Prim.Native.Nat.{ℕ, suc, ◌-◌, ◌≤◌, ◌<◌}
use mathlib.Core.Path.{◌≡◌, refl, sym, ap, ◌∙◌}
use mathlib.Core.List.{List, [], ◌∷◌, ◌++◌, map, append_assoc, append-nil}
use mathlib.Core.Bool.{Bool, true, false, cond, ◌&&◌, and-eq-true_iff}
use native.Mathlib.Omega.{arith}
use borrow.Author.Tests.{eqb-true, eq-eqb}
use lib.Dec.{eqb}
use lib.ListN.{length, get_or, take, drop, length-append, length-map, drop_of_length-le}
use lib.Seq.{split_at, take_at, get_or_at}
use Rattle.frame_tlvs.specs.Tlvs.{row}
use Rattle.frame_writer.specs.Plain.{every, plain_event}
use Rattle.frame_writer.specs.Writing.{plain_seven}
use Rattle.octets.proofs.Bools.{never}
use Rattle.text.specs.Marks.{tab, newline}
use Rattle.text.specs.Decimal.{decimal_in, decimal, field}
use Rattle.text_eventlog.specs.Digits.{value_of, is_decimal}
use Rattle.text_eventlog.specs.Line.{last_position, in_range_up_to, in_range, fields, line_of, parted, line_from, event_in, read_values, read_fields, read_line_up_to, read_line, Reading, Refused, LineIs}
use Rattle.text_eventlog.specs.declared.Line.{Line}
use Rattle.text_eventlog.proofs.Ranges.{seven_cells}
use Rattle.theorems_log.specs.Longest.{longest_line}
use Rattle.theorems_log.proofs.Tabbed.{tabbed, tabbed-parted, parted-tabbed}
use Rattle.theorems_log.proofs.Values.{ranged, digits_say, say_digits, all_small, all_short}

-- a line is the digits of its values, parted by tabs, and the newline
fields-tabbed : (vs : List ℕ) → 0 < length vs → fields vs ≡ tabbed (map decimal vs) ++ (newline ∷ [])
fields-tabbed [] h = absurd (omega arith)
fields-tabbed (v ∷ []) h = append-nil (field v newline)
fields-tabbed (v ∷ w ∷ vs) h =
    append_assoc (decimal v) (tab ∷ []) (fields (w ∷ vs))
    ∙ ap (λ (x : List ℕ). decimal v ++ (tab ∷ x)) (fields-tabbed (w ∷ vs) (omega arith))
    ∙ sym (append_assoc (decimal v) (tab ∷ tabbed (map decimal (w ∷ vs))) (newline ∷ []))

-- ---- a line that is written reads back as what was meant

-- a text that ends in a newline
ended : (s : List ℕ) → read_line (s ++ (newline ∷ [])) ≡ read_fields last_position (parted s)
unfolding read_line_up_to
ended s =
    let e : length (s ++ (newline ∷ [])) - 1 ≡ length s = omega (arith, length-append s (newline ∷ [])) in
    rw (e, get_or_at s newline [] 0 (length s) refl, take_at s (newline ∷ []) (length s) refl)

module _ (number position : ℕ) (event : List ℕ) (h : in_range number position event ≡ true) where
  said : read_values last_position (number ∷ position ∷ event) ≡ LineIs (line_from (number ∷ position ∷ event))
  unfolding read_values
  said = rw h

  nine : read_fields last_position (map decimal (number ∷ position ∷ event)) ≡ read_values last_position (number ∷ position ∷ event)
  unfolding read_fields
  nine =
      let vs = number ∷ position ∷ event in
      let r = ranged number position event h in
      let d = digits_say vs (all_small number position event r) in
      let l : length (map decimal vs) ≡ 9 = length-map vs decimal ∙ omega (arith, r.seven.long) in
      rw (eq-eqb (length (map decimal vs)) 9 l, d.0, d.1)

  pub written_reads : read_line (line_of number position event) ≡ LineIs (line_from (number ∷ position ∷ event))
  unfolding line_of
  written_reads =
      let vs = number ∷ position ∷ event in
      let d = digits_say vs (all_small number position event (ranged number position event h)) in
      rw (fields-tabbed vs (omega arith))
      (ended (tabbed (map decimal vs)) ∙ rw (parted-tabbed (decimal number) (map decimal (position ∷ event)) d.0) (nine ∙ said))

-- ---- a line that reads is the one line that is written for its values

-- what does not say 14 passed the test
pub passed : (b : Bool) (r : Reading) (l : Line) → cond b r (Refused 14) ≡ LineIs l → (b ≡ true) × (r ≡ LineIs l)
passed true r l e = (refl, e)
passed false r l e = let z : ◌≡◌ {A = ℕ} 0 1 = cc in absurd (omega arith)

-- a text that ends in a newline is not empty
ends : (s : List ℕ) → eqb (get_or s (length s - 1) 0) newline ≡ true → s ≡ take (length s - 1) s ++ (newline ∷ [])
ends [] h = never h
ends (x ∷ s) h =
    let k = length (x ∷ s) - 1 in
    split_at (x ∷ s) k 0 (omega arith)
    ∙ rw (eqb-true (get_or (x ∷ s) k 0) newline h, drop_of_length-le (x ∷ s) {i = (suc k)} (omega arith))

nine_cells : (vs : List ℕ) → length vs ≡ 9 → get_or vs 0 0 ∷ get_or vs 1 0 ∷ event_in (line_from vs) ≡ vs
nine_cells [] l = absurd (omega arith)
nine_cells (a ∷ []) l = absurd (omega arith)
nine_cells (a ∷ b ∷ vs) l = ap (λ (x : List ℕ). a ∷ b ∷ x) (seven_cells vs (omega arith))

-- what was read: a text with its values
record Said (s : List ℕ) (l : Line) : Type 0 where
  values : List ℕ
  says : line_from values ≡ l
  nine : length values ≡ 9
  ranges : in_range (get_or values 0 0) (get_or values 1 0) (drop 2 values) ≡ true
  line : fields values ≡ s

said_of : (s : List ℕ) (l : Line) → read_line s ≡ LineIs l → Said s l
unfolding read_line_up_to read_fields read_values
said_of s l h =
    let t = take (length s - 1) s in
    let fs = parted t in
    let vs = map value_of fs in
    let p = passed (eqb (get_or s (length s - 1) 0) newline) (read_fields last_position fs) l h in
    let q = passed (eqb (length fs) 9 && every is_decimal fs) (read_values last_position vs) l p.1 in
    let r = passed (in_range (get_or vs 0 0) (get_or vs 1 0) (drop 2 vs)) (LineIs (line_from vs)) l q.1 in
    let d = (and-eq-true_iff (eqb (length fs) 9) (every is_decimal fs)).0 q.0 in
    let n : length vs ≡ 9 = length-map fs value_of ∙ eqb-true (length fs) 9 d.0 in
    let e : line_from vs ≡ l = cc r.1 in
    record {
      values = vs;
      says = e;
      nine = n;
      ranges = r.0;
      line = fields-tabbed vs (omega arith) ∙ rw (say_digits fs d.1, tabbed-parted t) (sym (ends s p.0));
    }

pub reads_written : (s : List ℕ) (l : Line) → read_line s ≡ LineIs l
    → (in_range l.number l.position (event_in l) ≡ true) × (s ≡ line_of l.number l.position (event_in l))
unfolding line_of
reads_written s l h =
    let w = said_of s l h in
    let vs = w.values in
    let c = nine_cells vs w.nine in
    rw (sym w.says)
    (ap (λ (x : List ℕ). in_range (get_or vs 0 0) (get_or vs 1 0) (drop 2 x)) c ∙ w.ranges, sym (ap fields c ∙ w.line))

-- ---- the longest line

pub longest : (number position : ℕ) (event : List ℕ) → in_range number position event ≡ true → length (line_of number position event) ≤ longest_line
unfolding line_of
longest number position event h = all_short number position event (ranged number position event h)

-- the largest values: a symbol period event whose every field is full
abbrev largest : List ℕ
largest =
    1 ∷ 0xffff ∷ 0xffff_ffff_ffff_ffff ∷ 0xffff_ffff_ffff_ffff ∷ 0xffff_ffff_ffff_ffff ∷ 0xffff_ffff_ffff_ffff ∷ 0xffff_ffff ∷ []

pub longest_reached : (in_range 0xffff last_position largest ≡ true) × (length (line_of 0xffff last_position largest) ≡ longest_line)
unfolding in_range_up_to plain_seven plain_event row line_of decimal_in
longest_reached = (refl, refl)
