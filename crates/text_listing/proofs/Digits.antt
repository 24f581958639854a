-- A character as a digit.
use Rattle.std.proofs.Common.{◌≡◌, ℕ, ◌+◌, ◌-◌, ◌<◌, ◌≤◌, true, false, List, length, get_or, set, ◌∙◌, arith, get_or-set_other, get_or-set_same, le-leb}
use borrow.Author.Tests.{lt-leb}
use lib.Bits.{bit_or, or_add_and, and_le_l, and_le_r}
use Rattle.octets.proofs.Bools.{whether, not_both}
use Rattle.text.proofs.Bounds.{by_bound}
use Rattle.text_listing.specs.Lines.{is_digit, digit_of}
use Rattle.text_listing.specs.Taking.{value_of}

module _ (c : ℕ) where
  -- 0 to 9
  pub numeral : 48 ≤ c → c ≤ 57 → (is_digit c ≡ true) × (digit_of c ≡ c - 48)
  unfolding is_digit digit_of
  numeral a b = (simp (le-leb 48 c a, le-leb c 57 b), simp (le-leb c 57 b))

  -- a to f
  pub letter : 97 ≤ c → c ≤ 102 → (is_digit c ≡ true) × (digit_of c ≡ c - 87)
  unfolding is_digit digit_of
  letter a b =
      let high : 57 < c = omega arith in
      (simp (le-leb 48 c (omega arith), lt-leb c 57 high, le-leb 97 c a, le-leb c 102 b), simp (lt-leb c 57 high))

  -- neither
  pub neither : (48 ≤ c → 57 < c) → (97 ≤ c → 102 < c) → is_digit c ≡ false
  unfolding is_digit
  neither h k =
      by_bound c 48
      (λ a. simp (lt-leb 48 c a, lt-leb 97 c (omega arith)))
      (λ a.
      by_bound c 97
      (λ b. simp (le-leb 48 c a, lt-leb c 57 (h a), lt-leb 97 c b))
      (λ b. simp (le-leb 48 c a, lt-leb c 57 (h a), le-leb 97 c b, lt-leb c 102 (k b))))

  -- a digit's value is below 16
  pub small : is_digit c ≡ true → digit_of c ≤ 15
  small digit =
      by_bound c 58
      (λ a. by_bound c 48 (λ b. other (λ h. omega arith) (λ h. omega arith)) (λ b. omega (arith, (numeral b (omega arith)).1)))
      (λ a.
      by_bound c 97
      (λ b. other (λ h. omega arith) (λ h. omega arith))
      (λ b. by_bound c 103 (λ d. omega (arith, (letter b (omega arith)).1)) (λ d. other (λ h. omega arith) (λ h. omega arith))))
    where
      other : (48 ≤ c → 57 < c) → (97 ≤ c → 102 < c) → digit_of c ≤ 15
      other h k = not_both digit (neither h k)

  -- what the value tells
  pub digit : value_of c ≤ 15 → is_digit c ≡ true
  digit h = whether (is_digit c) (λ t. t) (λ f. absurd (omega (arith, rw f at h)))

  pub foreign : 15 < value_of c → is_digit c ≡ false
  foreign h = whether (is_digit c) (λ t. absurd (omega (arith, rw t at h, small t))) (λ f. f)

-- one value more is set in a table
pub value_set : (values : List ℕ) (n value : ℕ) → n < length values → value ≡ value_of n
    → ((c : ℕ) → c < n → get_or values c 0 ≡ value_of c) → (c : ℕ) → c < n + 1 → get_or (set values n value) c 0 ≡ value_of c
value_set values n value within is before c h =
    by_bound c n
    (λ a. get_or-set_other values n c value 0 (λ e. absurd (omega (arith, a, e))) ∙ before c a)
    (λ a. let e : c ≡ n = omega arith in rw e (get_or-set_same values n value 0 within ∙ is))

-- two values are tested at once
pub both_small : (a b : ℕ) → bit_or a b ≤ 15 → (a ≤ 15) × (b ≤ 15)
both_small a b h = (omega (arith, or_add_and a b, and_le_r a b), omega (arith, or_add_and a b, and_le_l a b))
