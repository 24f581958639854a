-- What the fields left say, after the values of those that were read.
use Prim.Native.Nat.{ℕ, suc, ◌+◌, ◌-◌, ◌<◌}
use mathlib.Core.Path.{◌≡◌, refl, ◌∙◌}
use mathlib.Core.List.{List, [], ◌∷◌, ◌++◌, map, append_assoc, append-nil}
use mathlib.Core.Bool.{cond, ◌&&◌, and-false}
use native.Mathlib.Omega.{arith}
use native.Mathlib.Numerals.{add-one}
use borrow.Author.Tests.{ne_eqb}
use lib.Dec.{eqb, eqb-suc-suc}
use lib.ListN.{length, take, drop, set, length-set}
use lib.Seq.{take-suc-set, take_all}
use Rattle.frame_writer.specs.Plain.{every}
use Rattle.text.proofs.Bounds.{by_bound}
use Rattle.text_eventlog.specs.Digits.{value_of, is_decimal, number_of}
use Rattle.std.specs.Prelude.{Some, None}
use Rattle.text_eventlog.specs.Line.{last_position, parted, read_values, read_fields, Reading, Refused}
use Rattle.text_eventlog.proofs.Numbers.{number_is, number_bad, all_digits}
use Rattle.text_eventlog.proofs.Parted.{first, one_field, next_field, digits_one, some_field}

-- what nine fields say of which i were read, by their values and the fields left
unfoldable pub left : ℕ → List ℕ → List (List ℕ) → Reading
left i values fs = cond (eqb (length fs) (9 - i) && every is_decimal fs) (read_values last_position (take i values ++ map value_of fs)) (Refused 14)

pub all_left : (values : List ℕ) (fs : List (List ℕ)) → read_fields last_position fs ≡ left 0 values fs
unfolding read_fields left
all_left values fs = refl

module _ (i : ℕ) (values : List ℕ) (f : List ℕ) where
  -- a field that is no number
  pub bad_field : (fs : List (List ℕ)) → number_of f ≡ None → left i values (f ∷ fs) ≡ Refused 14
  unfolding left
  bad_field fs h = rw (number_bad f h, and-false (eqb (suc (length fs)) (9 - i)))

  -- a field too few
  pub no_more : i < 8 → left i values (f ∷ []) ≡ Refused 14
  unfolding left
  no_more h = rw (ne_eqb 1 (9 - i) (λ e. omega arith))

  -- one field more
  pub one_read : (fs : List (List ℕ)) (v : ℕ) → i < 9 → length values ≡ 9 → number_of f ≡ Some v → left i values (f ∷ fs) ≡ left (i + 1) (set values i v) fs
  unfolding left
  one_read fs v h l is =
      let d = number_is f v is in
      let n : 9 - i ≡ suc (9 - (i + 1)) = omega arith in
      rw (n, eqb-suc-suc (length fs) (9 - (i + 1)), d.0, d.1, add-one i, take-suc-set values i v (omega arith), append_assoc)

-- no field left
none_left : (values : List ℕ) → length values ≡ 9 → left 9 values [] ≡ read_values last_position values
unfolding left
none_left values l = rw (append-nil (take 9 values), take_all 9 values (omega arith))

-- the last field, which takes all that is left
pub last_read : (s values : List ℕ) (v : ℕ) → length values ≡ 9 → number_of s ≡ Some v → left 8 values (parted s) ≡ read_values last_position (set values 8 v)
last_read s values v l is =
    rw (digits_one s (all_digits s (number_is s v is).0))
    (one_read 8 values s [] v (omega arith) l is ∙ none_left (set values 8 v) (simp length-set l))

-- a field too many
too_many : (values : List ℕ) (f : List ℕ) (fs : List (List ℕ)) → 0 < length fs → left 8 values (f ∷ fs) ≡ Refused 14
unfolding left
too_many values f fs h = rw (ne_eqb (suc (length fs)) 1 (λ e. omega arith))

pub bad_last : (s values : List ℕ) → number_of s ≡ None → left 8 values (parted s) ≡ Refused 14
bad_last s values d =
    by_bound (length (first s)) (length s)
    (λ h. rw (next_field s h) (too_many values (take (length (first s)) s) (parted (drop (suc (length (first s))) s)) (some_field (drop (suc (length (first s))) s))))
    (λ h. rw (one_field s h) (bad_field 8 values s [] d))
