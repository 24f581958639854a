-- A list that is longer by one, cut into windows: either the present window grows, or it is whole and the next one is empty.
use Prim.Native.Nat.{ℕ, zero, suc, ◌+◌, ◌-◌, ◌*◌, ◌/◌, ◌%◌, ◌<◌, ◌≤◌}
use mathlib.Core.Path.{◌≡◌, refl, ap, ◌∙◌}
use mathlib.Core.List.{List, [], ◌∷◌, ◌++◌}
use native.Mathlib.Nat.{le_of_eq, div-add-mod', div-mul-le_self, mod-lt, zero-mul, mul-div_cancel, mul-mod_left}
use native.Mathlib.Numerals.{add-one}
use native.Mathlib.Omega.{arith}
use lib.Arith.{digits_div, digits_mod}
use lib.ListN.{length, take, drop, length-append, length-drop, drop_of_length-le}
use lib.Seq.{take_all, take-append-le, drop-append-le, drop-drop}
use Rattle.octets.specs.Bits.{bit_of}
use Rattle.theorems_windows.specs.History.{sum_of, windows_from, windows_of, present_of, reaches, count_of, last_of}

-- ---- one more, by how many stand in the present window

module _ (m n : ℕ) where
  module _ (h : m % n + 1 < n) where
    one_more : m + 1 ≡ m / n * n + (m % n + 1)
    one_more = omega (arith, div-add-mod' m n)

    inside_div : (m + 1) / n ≡ m / n
    inside_div = rw one_more (digits_div (m / n) h)

    pub inside_mod : (m + 1) % n ≡ m % n + 1
    inside_mod = rw one_more (digits_mod (m / n) h)

  module _ (some : 0 < n) (h : n ≤ m % n + 1) where
    whole : m + 1 ≡ (m / n + 1) * n
    whole = omega (arith, div-add-mod' m n, mod-lt m some)

    ending_div : (m + 1) / n ≡ m / n + 1
    ending_div = rw whole (mul-div_cancel (m / n + 1) some)

    pub ending_mod : (m + 1) % n ≡ 0
    ending_mod = rw whole (mul-mod_left (m / n + 1) n)

-- ---- the first windows

-- those that a list has do not change when it grows
from_append : (k n : ℕ) (xs ys : List ℕ) → k * n ≤ length xs → windows_from k n (xs ++ ys) ≡ windows_from k n xs
from_append zero n xs ys h = refl
from_append (suc k) n xs ys h =
    let long : n ≤ length xs = omega arith in
    let rest = from_append k n (drop n xs) ys (simp length-drop (omega arith)) in
    rw (take-append-le n xs ys long, drop-append-le n xs ys long, rest)

-- the last of them
from_last : (k n : ℕ) (xs : List ℕ) → windows_from (suc k) n xs ≡ windows_from k n xs ++ (take n (drop (k * n) xs) ∷ [])
from_last zero n xs = rw (zero-mul n)
from_last (suc k) n xs =
    let e : n + k * n ≡ suc k * n = omega arith in
    ap (λ (ws : List (List ℕ)). take n xs ∷ ws) (from_last k n (drop n xs) ∙ rw (drop-drop (k * n) n xs, e))

-- ---- one element more

pub length_more : (xs : List ℕ) (x : ℕ) → length (xs ++ (x ∷ [])) ≡ length xs + 1
length_more xs x = length-append xs (x ∷ [])

pub sum_more : (xs : List ℕ) (x : ℕ) → sum_of (xs ++ (x ∷ [])) ≡ sum_of xs + x
sum_more [] x = omega arith
sum_more (y ∷ xs) x = omega (arith, sum_more xs x)

pub count_more : (t : ℕ) (ws : List (List ℕ)) (w : List ℕ) → count_of t (ws ++ (w ∷ [])) ≡ count_of t ws + bit_of (reaches t w)
count_more t [] w = omega arith
count_more t (v ∷ ws) w = omega (arith, count_more t ws w)

module _ (n : ℕ) (xs : List ℕ) where
  pub present_length : length (present_of n xs) ≡ length xs % n
  unfolding present_of
  present_length = length-drop (length xs / n * n) xs ∙ omega (arith, div-add-mod' (length xs) n)

  -- the present window with one element more
  module _ (x : ℕ) where
    more : drop (length xs / n * n) (xs ++ (x ∷ [])) ≡ present_of n xs ++ (x ∷ [])
    unfolding present_of
    more = drop-append-le (length xs / n * n) xs (x ∷ []) (div-mul-le_self (length xs) n)

    same_windows : windows_from (length xs / n) n (xs ++ (x ∷ [])) ≡ windows_of n xs
    unfolding windows_of
    same_windows = from_append (length xs / n) n xs (x ∷ []) (div-mul-le_self (length xs) n)

    -- it is not whole yet
    module _ (h : length xs % n + 1 < n) where
      div : length (xs ++ (x ∷ [])) / n ≡ length xs / n
      div = rw (length_more xs x) (inside_div (length xs) n h)

      pub present_inside : present_of n (xs ++ (x ∷ [])) ≡ present_of n xs ++ (x ∷ [])
      unfolding present_of
      present_inside = rw div more

      pub windows_inside : windows_of n (xs ++ (x ∷ [])) ≡ windows_of n xs
      unfolding windows_of
      windows_inside = rw div same_windows

    -- it is whole
    module _ (some : 0 < n) (h : n ≤ length xs % n + 1) where
      length_whole : length (xs ++ (x ∷ [])) ≡ (length xs / n + 1) * n
      length_whole = length_more xs x ∙ whole (length xs) n some h

      div_whole : length (xs ++ (x ∷ [])) / n ≡ length xs / n + 1
      div_whole = rw (length_more xs x) (ending_div (length xs) n some h)

      pub present_ending : present_of n (xs ++ (x ∷ [])) ≡ []
      unfolding present_of
      present_ending = rw div_whole (drop_of_length-le (xs ++ (x ∷ [])) (le_of_eq length_whole))

      pub windows_ending : windows_of n (xs ++ (x ∷ [])) ≡ windows_of n xs ++ ((present_of n xs ++ (x ∷ [])) ∷ [])
      unfolding windows_of
      windows_ending =
          rw (
            div_whole,
            add-one,
            from_last (length xs / n) n (xs ++ (x ∷ [])),
            same_windows,
            more,
            take_all n (present_of n xs ++ (x ∷ []))
                (omega (arith, length_more (present_of n xs) x, present_length, mod-lt (length xs) some)),
          )

      pub last_ending : last_of n (xs ++ (x ∷ [])) ≡ present_of n xs ++ (x ∷ [])
      last_ending =
          let e : length (xs ++ (x ∷ [])) - n ≡ length xs / n * n = omega (arith, length_whole) in
          rw e more
