-- The digits of a number: how they go on, and how many there are.
use Prim.Native.Nat.{ℕ, zero, suc, ◌+◌, ◌/◌, ◌%◌, ◌^◌, ◌≤◌, ◌<◌}
use mathlib.Core.Path.{◌≡◌, refl, ap, ◌∙◌}
use mathlib.Core.List.{[], ◌∷◌, ◌++◌}
use native.Mathlib.Nat.{pow-suc, mod-eq_of_lt, not-suc-le-zero}
use native.Mathlib.Omega.{arith}
use borrow.Author.Tests.{lt-ltb, le-ltb}
use lib.ListN.{length, length-append}
use Rattle.text.specs.Decimal.{decimal_in, decimal, field}
use Rattle.text.proofs.Bounds.{by_bound}

module _ (places n : ℕ) where
  pub one_digit : n < 10 → decimal_in (suc places) n ≡ (48 + n) ∷ []
  unfolding decimal_in
  one_digit h = simp (lt-ltb n 10 h)

  pub more_digits : 10 ≤ n → decimal_in (suc places) n ≡ decimal_in places (n / 10) ++ ((48 + n % 10) ∷ [])
  unfolding decimal_in
  more_digits h = simp (le-ltb n 10 h)

  pub one_more : 10 ≤ n → length (decimal_in (suc places) n) ≡ length (decimal_in places (n / 10)) + 1
  one_more h = ap length (more_digits h) ∙ length-append (decimal_in places (n / 10)) ((48 + n % 10) ∷ [])

-- no digits in no places
pub no_digit : (n : ℕ) → decimal_in 0 n ≡ []
unfolding decimal_in
no_digit n = refl

-- no more digits than places
pub within_places : (places n : ℕ) → length (decimal_in places n) ≤ places
within_places zero n = rw (no_digit n) (omega arith)
within_places (suc places) n =
    let rest : length (decimal_in places (n / 10)) ≤ places = within_places places (n / 10) in
    by_bound n 10 (λ h. rw (one_digit places n h) (omega arith)) (λ h. omega (arith, one_more places n h))

-- a tenth of a number has a place less
pub tenth : (k n : ℕ) → n < 10 ^ suc k → n / 10 < 10 ^ k
tenth k n h = omega (arith, rw (pow-suc 10 k) at h)

-- a number below 10 ^ k has at most k digits, and one where k is 0
pub at_most : (places k n : ℕ) → n < 10 ^ suc k → length (decimal_in places n) ≤ suc k
at_most zero k n h = rw (no_digit n) (omega arith)
at_most (suc places) zero n h = rw (one_digit places n h) (omega arith)
at_most (suc places) (suc k) n h =
    let rest : length (decimal_in places (n / 10)) ≤ suc k = at_most places k (n / 10) (tenth (suc k) n h) in
    by_bound n 10 (λ s. rw (one_digit places n s) (omega arith)) (λ s. omega (arith, one_more places n s))

-- the last digit, and the digits before it
pub last_digit : (places n : ℕ) → 0 < length (decimal_in places n) → (before : ℕ) × (decimal_in places n ≡ decimal_in before (n / 10) ++ ((48 + n % 10) ∷ []))
last_digit zero n h = absurd (not-suc-le-zero (rw (no_digit n) at h))
last_digit (suc places) n h =
    by_bound n 10
    (λ s. (0, one_digit places n s ∙ rw (no_digit (n / 10), mod-eq_of_lt s)))
    (λ s. (places, more_digits places n s))

-- a field has an octet more than its number has digits
pub length-field : (n after : ℕ) → length (field n after) ≡ length (decimal n) + 1
length-field n after = length-append (decimal n) (after ∷ [])

pub field_at_most : (k n after : ℕ) → n < 10 ^ suc k → length (field n after) ≤ k + 2
field_at_most k n after h = omega (arith, length-field n after, at_most 20 k n h)
