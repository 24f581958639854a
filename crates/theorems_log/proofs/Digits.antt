-- The two ways between a number and its digits.
use Prim.Native.Nat.{ℕ, zero, suc, ◌+◌, ◌*◌, ◌-◌, ◌/◌, ◌%◌, ◌^◌, ◌≤◌, ◌<◌}
use mathlib.Core.Path.{◌≡◌, refl, ◌∙◌}
use mathlib.Core.List.{List, [], ◌∷◌, ◌++◌, append_assoc, append-nil}
use mathlib.Core.Bool.{true, ◌&&◌, and-eq-true_iff}
use native.Mathlib.Nat.{add-zero, pow-suc, pow-le-pow_right}
use native.Mathlib.Omega.{arith}
use borrow.Author.Tests.{lt-ltb, ltb-true, le-leb, eqb-false, ne_eqb, not-true}
use lib.Dec.{ltb, eqb}
use lib.ListN.{length}
use Rattle.frame_writer.specs.Plain.{every}
use Rattle.octets.proofs.Bools.{never}
use Rattle.text.specs.Decimal.{decimal_in, decimal}
use Rattle.text.proofs.Bounds.{by_bound}
use Rattle.text.proofs.Decimals.{one_digit, more_digits, no_digit, tenth}
use Rattle.text_eventlog.specs.Digits.{value_from, value_of, digit, no_leading_zero, is_decimal}
use Rattle.text_eventlog.proofs.Numbers.{first_digit}

-- what a decimal field is
record Field (ds : List ℕ) : Type 0 where
  leads : no_leading_zero ds ≡ true
  digits : every digit ds ≡ true
  within : value_of ds < 2 ^ 64

field_is : (ds : List ℕ) → is_decimal ds ≡ true → Field ds
unfolding is_decimal
field_is ds h =
    let p = (and-eq-true_iff (no_leading_zero ds) (every digit ds && ltb (value_of ds) (2 ^ 64))).0 h in
    let q = (and-eq-true_iff (every digit ds) (ltb (value_of ds) (2 ^ 64))).0 p.1 in
    record { leads = p.0; digits = q.0; within = ltb-true (value_of ds) (2 ^ 64) q.1 }

-- ---- from the digits to the number

-- digits after others say a number of as many places more
places_more : (ds : List ℕ) (n k : ℕ) → 10 ^ k ≤ n → 10 ^ (k + length ds) ≤ value_from n ds
places_more [] n k h = rw add-zero h
places_more (d ∷ ds) n k h =
    let e : k + suc (length ds) ≡ suc k + length ds = omega arith in
    rw e (places_more ds (n * 10 + (d - 48)) (suc k) (omega (arith, pow-suc 10 k)))

-- a field of a number within 64 bits that does not begin with 0 has at most twenty digits
twenty : (ds : List ℕ) (n : ℕ) → 0 < n → value_from n ds < 2 ^ 64 → length ds ≤ 19
twenty ds n h w =
    by_bound (length ds) 20 (λ s. omega arith)
    (λ l. absurd (omega (arith, places_more ds n 0 h, pow-le-pow_right {n = 10} (omega arith) {i = 20} {j = (0 + length ds)} (omega arith))))

-- the digits of a number that goes on with more of them
digits_more : (ds : List ℕ) (n places : ℕ) → 0 < n → every digit ds ≡ true → decimal_in (places + length ds) (value_from n ds) ≡ decimal_in places n ++ ds
digits_more [] n places h e = rw (add-zero, append-nil)
digits_more (d ∷ ds) n places h e =
    let m = n * 10 + (d - 48) in
    let p = first_digit d ds e in
    let k : places + suc (length ds) ≡ suc places + length ds = omega arith in
    let q : m / 10 ≡ n = omega (arith, p.0, p.1) in
    let r : 48 + m % 10 ≡ d = omega (arith, p.0, p.1) in
    let t : decimal_in (suc places) m ≡ decimal_in places n ++ (d ∷ []) = more_digits places m (omega arith) ∙ rw (q, r) in
    rw k (digits_more ds m (suc places) (omega arith) p.2 ∙ rw (t, append_assoc))

-- a decimal field is the digits of its number
pub digits_back : (ds : List ℕ) → is_decimal ds ≡ true → decimal (value_of ds) ≡ ds
digits_back ds h = go ds (field_is ds h)
  where
    go : (ds : List ℕ) → Field ds → decimal (value_of ds) ≡ ds
    go [] f = never f.leads
    go (d ∷ []) f =
        let p = first_digit d [] f.digits in
        let e : 48 + (0 * 10 + (d - 48)) ≡ d = omega (arith, p.0) in
        one_digit 19 (0 * 10 + (d - 48)) (omega (arith, p.1)) ∙ rw e
    go (d ∷ e ∷ ds) f =
        let p = first_digit d (e ∷ ds) f.digits in
        let z = eqb-false d 48 (not-true (eqb d 48) f.leads) in
        let n = 0 * 10 + (d - 48) in
        let h : 0 < n = omega (arith, p.0, z) in
        let s = twenty (e ∷ ds) n h f.within in
        let k : suc (19 - length (e ∷ ds)) + length (e ∷ ds) ≡ 20 = omega arith in
        let q : 48 + n ≡ d = omega (arith, p.0) in
        rw (← k)
        (digits_more (e ∷ ds) n (suc (19 - length (e ∷ ds))) h p.2 ∙ rw (one_digit (19 - length (e ∷ ds)) n (omega (arith, p.1)), q))

-- ---- from a number to its digits

is_field : (ds : List ℕ) → Field ds → is_decimal ds ≡ true
unfolding is_decimal
is_field ds f = rw (f.leads, f.digits, lt-ltb (value_of ds) (2 ^ 64) f.within)

value_append : (xs ys : List ℕ) (n : ℕ) → value_from n (xs ++ ys) ≡ value_from (value_from n xs) ys
value_append [] ys n = refl
value_append (x ∷ xs) ys n = value_append xs ys (n * 10 + (x - 48))

every_append : (xs ys : List ℕ) → every digit xs ≡ true → every digit ys ≡ true → every digit (xs ++ ys) ≡ true
every_append [] ys h k = k
every_append (x ∷ xs) ys h k =
    let p = (and-eq-true_iff (digit x) (every digit xs)).0 h in
    rw p.0 (every_append xs ys p.1 k)

one_is : (n : ℕ) → n < 10 → every digit ((48 + n) ∷ []) ≡ true
one_is n h = rw (le-leb 48 (48 + n) (omega arith), le-leb (48 + n) 57 (omega arith))

-- each is one of 0 to 9
pub digits_only : (places n : ℕ) → every digit (decimal_in places n) ≡ true
digits_only zero n = rw (no_digit n)
digits_only (suc places) n =
    by_bound n 10
    (λ h. rw (one_digit places n h) (one_is n h))
    (λ h. rw (more_digits places n h) (every_append (decimal_in places (n / 10)) ((48 + n % 10) ∷ []) (digits_only places (n / 10)) (one_is (n % 10) (omega arith))))

value_is : (places n : ℕ) → n < 10 ^ places → value_of (decimal_in places n) ≡ n
value_is zero n h = rw (no_digit n) (omega arith)
value_is (suc places) n h =
    by_bound n 10
    (λ s. rw (one_digit places n s) (omega arith))
    (λ s.
    let e : n / 10 * 10 + (48 + n % 10 - 48) ≡ n = omega arith in
    rw (more_digits places n s)
    (value_append (decimal_in places (n / 10)) ((48 + n % 10) ∷ []) 0 ∙ rw (value_is places (n / 10) (tenth places n h)) e))

-- the first digit is no zero
leading : (places n : ℕ) → 0 < n → n < 10 ^ places → (d : ℕ) × (ds : List ℕ) × (decimal_in places n ≡ d ∷ ds) × (d ≡ 48 → ⊥)
leading zero n h k = absurd (omega arith)
leading (suc places) n h k =
    by_bound n 10
    (λ s. (48 + n, [], one_digit places n s, λ q. omega arith))
    (λ s.
    let p = leading places (n / 10) (omega arith) (tenth places n k) in
    (p.0, p.1 ++ ((48 + n % 10) ∷ []), more_digits places n s ∙ rw p.2, p.3))

led_by : (d : ℕ) (ds : List ℕ) → (d ≡ 48 → ⊥) → no_leading_zero (d ∷ ds) ≡ true
led_by d [] h = refl
led_by d (e ∷ ds) h = rw (ne_eqb d 48 h)

-- the digits of a number within 64 bits are a decimal field, and say the number
pub digits_of : (n : ℕ) → n < 2 ^ 64 → (is_decimal (decimal n) ≡ true) × (value_of (decimal n) ≡ n)
digits_of n h = (is_field (decimal n) (record { leads = leads; digits = digits_only 20 n; within = rw says h }), says)
  where
    within : n < 10 ^ 20
    within = omega arith

    says : value_of (decimal n) ≡ n
    says = value_is 20 n within

    leads : no_leading_zero (decimal n) ≡ true
    leads =
        by_bound n 1
        (λ z. rw (one_digit 19 n (omega arith)))
        (λ z. let p = leading 20 n z within in rw p.2 (led_by p.0 p.1 p.3))
