-- A decimal field as it is read: one octet more, and what its number says of it.
use Prim.Native.Nat.{ℕ, ◌+◌, ◌*◌, ◌-◌, ◌^◌, ◌≤◌, ◌<◌}
use mathlib.Core.Path.{◌≡◌, refl, sym}
use mathlib.Core.List.{List, [], ◌∷◌}
use mathlib.Core.Bool.{Bool, true, false, cond, not, ◌&&◌, and-false, and-eq-true_iff}
use native.Mathlib.Omega.{arith}
use borrow.Author.Tests.{lt-ltb, le-ltb, ltb-false, leb-true}
use lib.Dec.{ltb, leb, eqb}
use lib.ListN.{length, get_or}
use Rattle.octets.proofs.Bools.{whether, and_l, and_r}
use Rattle.frame_writer.specs.Plain.{every}
use Rattle.text_eventlog.specs.Digits.{value_from, value_of, digit, no_leading_zero, is_decimal, number_of, with_digit}
use Rattle.std.specs.Prelude.{Option, Some, None}

apart : {n : ℕ} {P : Type 0} → None ≡ Some n → P
apart e = let z : ◌≡◌ {A = ℕ} 0 1 = cc in absurd (omega arith)

-- ---- a field, octet by octet

-- whether a field has a leading zero, by its length
pub led_by_length : (ds : List ℕ) → no_leading_zero ds ≡ cond (ltb (length ds) 1) false (cond (ltb (length ds) 2) true (not (eqb (get_or ds 0 0) 48)))
led_by_length [] = refl
led_by_length (d ∷ []) = refl
led_by_length (d ∷ e ∷ ds) = rw (le-ltb (length (d ∷ e ∷ ds)) 1 (omega arith), le-ltb (length (d ∷ e ∷ ds)) 2 (omega arith))

-- more digits say no smaller number
value_grows : (ds : List ℕ) (n : ℕ) → n ≤ value_from n ds
value_grows [] n = omega arith
value_grows (d ∷ ds) n = omega (arith, value_grows ds (n * 10 + (d - 48)))

-- the number of a field whose first digits said n, by the octets left
unfoldable pub left_of : ℕ → List ℕ → Option ℕ
left_of n ds = cond (every digit ds && ltb (value_from n ds) (2 ^ 64)) (Some (value_from n ds)) None

pub all_left : (ds : List ℕ) → no_leading_zero ds ≡ true → number_of ds ≡ left_of 0 ds
unfolding number_of is_decimal left_of
all_left ds h = rw h

pub not_led : (ds : List ℕ) → no_leading_zero ds ≡ false → number_of ds ≡ None
unfolding number_of is_decimal
not_led ds h = rw h

pub none_left : (n : ℕ) → n < 2 ^ 64 → left_of n [] ≡ Some n
unfolding left_of
none_left n h = rw (lt-ltb n (2 ^ 64) h)

-- what a number says of the test that it was told by
told_is : (b : Bool) (m : ℕ) {n : ℕ} → cond b (Some m) None ≡ Some n → (b ≡ true) × (m ≡ n)
told_is true m h = (refl, cc)
told_is false m h = apart h

told_bad : (b : Bool) (m : ℕ) → cond b (Some m) None ≡ None → b ≡ false
told_bad true m h = apart (sym h)
told_bad false m h = refl

module _ (n x : ℕ) (ds : List ℕ) where
  abbrev next : ℕ
  next = n * 10 + (x - 48)

  -- the octet is a digit, and the number within 64 bits
  pub one_left : (m : ℕ) → with_digit n x ≡ Some m → left_of n (x ∷ ds) ≡ left_of m ds
  unfolding with_digit left_of
  one_left m h = let t = told_is (digit x && ltb next (2 ^ 64)) next h in rw (and_l (digit x) (ltb next (2 ^ 64)) t.0, t.1)

  pub bad_left : with_digit n x ≡ None → left_of n (x ∷ ds) ≡ None
  unfolding with_digit left_of
  bad_left h =
      let b = told_bad (digit x && ltb next (2 ^ 64)) next h in
      whether (digit x)
      (λ d.
      let big : 2 ^ 64 ≤ value_from next ds = omega (arith, ltb-false next (2 ^ 64) (rw d at b), value_grows ds next) in
      rw (d, le-ltb (value_from next ds) (2 ^ 64) big) (rw (and-false (every digit ds))))
      (λ d. rw d)

-- what the number of a field says of it
module _ (ds : List ℕ) where
  pub number_is : (n : ℕ) → number_of ds ≡ Some n → (is_decimal ds ≡ true) × (value_of ds ≡ n)
  unfolding number_of
  number_is n h = told_is (is_decimal ds) (value_of ds) h

  pub number_bad : number_of ds ≡ None → is_decimal ds ≡ false
  unfolding number_of
  number_bad h = told_bad (is_decimal ds) (value_of ds) h

-- ---- the octets of a decimal field are digits

pub all_digits : (ds : List ℕ) → is_decimal ds ≡ true → every digit ds ≡ true
unfolding is_decimal
all_digits ds h =
    and_l (every digit ds) (ltb (value_of ds) (2 ^ 64)) (and_r (no_leading_zero ds) (every digit ds && ltb (value_of ds) (2 ^ 64)) h)

-- the first octet is a digit, and so are the others
pub first_digit : (d : ℕ) (ds : List ℕ) → every digit (d ∷ ds) ≡ true → (48 ≤ d) × (d ≤ 57) × (every digit ds ≡ true)
first_digit d ds h =
    let p = (and-eq-true_iff (digit d) (every digit ds)).0 h in
    let q = (and-eq-true_iff (leb 48 d) (leb d 57)).0 p.0 in
    (leb-true 48 d q.0, leb-true d 57 q.1, p.1)
