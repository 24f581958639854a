-- The sums over a history that is longer by a tick, from those before it: over the counts, and over the seconds.
use Prim.Native.Nat.{ℕ, zero, suc, ◌+◌, ◌*◌, ◌/◌, ◌%◌, ◌<◌, ◌≤◌}
use mathlib.Core.Path.{◌≡◌, refl, sym, ap, ◌∙◌}
use mathlib.Core.List.{List, [], ◌∷◌, ◌++◌}
use mathlib.Core.Bool.{Bool, true, false, cond}
use native.Mathlib.Nat.{add-zero, mod-lt, zero-div}
use native.Mathlib.Omega.{arith}
use borrow.Author.Tests.{leb-true, leb-false, le-leb, lt-leb}
use lib.Dec.{leb}
use lib.Arith.{mod-mul}
use lib.ListN.{length, drop}
use lib.Seq.{drop-nil}
use Rattle.octets.specs.Bits.{bit_of}
use Rattle.octets.proofs.Bools.{whether, not_both}
use Rattle.link_limit.specs.Limit.{second_ticks}
use Rattle.theorems_windows.specs.History.{sum_of, windows_from, windows_of, present_of, reached_in, errored, errored_of, seconds_of, last_of}
use Rattle.theorems_windows.proofs.Cutting.{length_more, sum_more, count_more, present_inside, windows_inside, present_ending, windows_ending, last_ending}

-- the numbers of a window of some ticks, neither cut nor wrapped
pub record Sums : Type 0 where
  pub ticks : ℕ
  pub errors : ℕ
  pub total : ℕ
  pub events : ℕ

-- the next tick is a window's last
abbrev pub last : (n ticks : ℕ) → Bool
last n ticks = leb n (ticks % n + 1)

module _ (n k : ℕ) where
  pub is_last : last n k ≡ true → n ≤ k % n + 1
  is_last = leb-true n (k % n + 1)

  pub not_last : last n k ≡ false → k % n + 1 < n
  not_last = leb-false n (k % n + 1)

-- a tick more, which adds x
abbrev pub tick_on : (n t x : ℕ) → Sums → Sums
tick_on n t x s =
    record {
      ticks = s.ticks + 1;
      errors = cond (last n s.ticks) 0 (s.errors + x);
      total = s.total + x;
      events = cond (last n s.ticks) (s.events + bit_of (leb t (s.errors + x))) s.events;
    }

-- sums after some ticks
abbrev after : ℕ → Sums → Sums
after ticks s = record { ticks = ticks; errors = s.errors; total = s.total; events = s.events }

-- ---- a window over counts

abbrev pub sums_of : (n t : ℕ) → List ℕ → Sums
sums_of n t xs = record { ticks = length xs; errors = sum_of (present_of n xs); total = sum_of xs; events = reached_in n t xs }

pub sums_none : (n t : ℕ) → sums_of n t [] ≡ record { ticks = 0; errors = 0; total = 0; events = 0 }
unfolding present_of reached_in windows_of
sums_none n t = rw (drop-nil (0 / n * n), zero-div n)

pub sums_more : (n t : ℕ) → 0 < n → (xs : List ℕ) (x : ℕ) → sums_of n t (xs ++ (x ∷ [])) ≡ tick_on n t x (sums_of n t xs)
unfolding reached_in
sums_more n t some xs x =
    whether (last n (length xs))
    (λ e.
    let h = is_last n (length xs) e in
    let w : List ℕ = present_of n xs ++ (x ∷ []) in
    rw (e, length_more xs x, present_ending n xs x some h, sum_more xs x, windows_ending n xs x some h, count_more t (windows_of n xs) w, sum_more (present_of n xs) x))
    (λ i.
    let h = not_last n (length xs) i in
    rw (i, length_more xs x, present_inside n xs x h, sum_more (present_of n xs) x, sum_more xs x, windows_inside n xs x h))

-- ---- a window over seconds

length_from : (k n : ℕ) (xs : List ℕ) → length (windows_from k n xs) ≡ k
length_from zero n xs = refl
length_from (suc k) n xs = ap suc (length_from k n (drop n xs))

errored_length : (ws : List (List ℕ)) → length (errored_of ws) ≡ length ws
errored_length [] = refl
errored_length (w ∷ ws) = ap suc (errored_length ws)

errored_more : (ws : List (List ℕ)) (w : List ℕ) → errored_of (ws ++ (w ∷ [])) ≡ errored_of ws ++ (bit_of (errored w) ∷ [])
errored_more [] w = refl
errored_more (v ∷ ws) w = ap (λ (bs : List ℕ). bit_of (errored v) ∷ bs) (errored_more ws w)

seconds_length : (h : List ℕ) → length (seconds_of h) ≡ length h / second_ticks
unfolding seconds_of windows_of
seconds_length h = errored_length (windows_from (length h / second_ticks) second_ticks h) ∙ length_from (length h / second_ticks) second_ticks h

-- the errored seconds that a tick adds
abbrev pub seconds_by : List ℕ → ℕ → ℕ
seconds_by h x = cond (last second_ticks (length h)) (bit_of (errored (present_of second_ticks h ++ (x ∷ [])))) 0

-- a tick that closes a second, and one that does not
module _ (h : List ℕ) (x : ℕ) where
  closing : last second_ticks (length h) ≡ true → seconds_of (h ++ (x ∷ [])) ≡ seconds_of h ++ (seconds_by h x ∷ [])
  unfolding seconds_of
  closing e =
      rw (e, windows_ending second_ticks h x (omega arith) (is_last second_ticks (length h) e))
      (errored_more (windows_of second_ticks h) (present_of second_ticks h ++ (x ∷ [])))

  within : last second_ticks (length h) ≡ false → seconds_of (h ++ (x ∷ [])) ≡ seconds_of h
  unfolding seconds_of
  within i = ap errored_of (windows_inside second_ticks h x (not_last second_ticks (length h) i))

-- "a multiple of 10": a window's last tick closes a second, the last of as many seconds
module _ (m k : ℕ) (some : 0 < m) where
  pub by_seconds : k % (m * second_ticks) ≡ k / second_ticks % m * second_ticks + k % second_ticks
  by_seconds = mod-mul k some (omega arith)

  last_closing : last second_ticks k ≡ true → last (m * second_ticks) k ≡ last m (k / second_ticks)
  last_closing e =
      let nine : k % second_ticks ≡ 9 = omega (arith, is_last second_ticks k e) in
      whether (last m (k / second_ticks))
      (λ t. rw t (le-leb (m * second_ticks) (k % (m * second_ticks) + 1) (omega (arith, by_seconds, is_last m (k / second_ticks) t))))
      (λ f. rw f (lt-leb (m * second_ticks) (k % (m * second_ticks) + 1) (omega (arith, by_seconds, not_last m (k / second_ticks) f))))

  last_within : last second_ticks k ≡ false → last (m * second_ticks) k ≡ false
  last_within i =
      lt-leb (m * second_ticks) (k % (m * second_ticks) + 1)
      (omega (arith, by_seconds, not_last second_ticks k i, mod-lt (k / second_ticks) some))

-- the numbers of a window of m seconds: its ticks, and the sums over the seconds
abbrev pub second_sums : (m t : ℕ) → List ℕ → Sums
second_sums m t h = after (length h) (sums_of m t (seconds_of h))

pub second_sums_more : (m t : ℕ) → 0 < m → (h : List ℕ) (x : ℕ)
    → second_sums m t (h ++ (x ∷ [])) ≡ tick_on (m * second_ticks) t (seconds_by h x) (second_sums m t h)
second_sums_more m t some h x =
    whether (last second_ticks (length h))
    (λ e.
    let lasts : last (m * second_ticks) (length h) ≡ last m (length (seconds_of h)) =
    last_closing m (length h) some e ∙ ap (last m) (sym (seconds_length h)) in
    rw (lasts, closing h x e, length_more h x) (ap (after (length h + 1)) (sums_more m t some (seconds_of h) (seconds_by h x))))
    (λ i. rw (last_within m (length h) some i, i, within h x i, length_more h x) (simp add-zero))

-- what the window's last seconds come to at its end
pub seconds_last : (m : ℕ) → 0 < m → (h : List ℕ) (x : ℕ) → last (m * second_ticks) (length h) ≡ true
    → sum_of (last_of m (seconds_of (h ++ (x ∷ [])))) ≡ sum_of (present_of m (seconds_of h)) + seconds_by h x
seconds_last m some h x y =
    whether (last second_ticks (length h))
    (λ e.
    let full : last m (length (seconds_of h)) ≡ true = ap (last m) (seconds_length h) ∙ sym (last_closing m (length h) some e) ∙ y in
    ap (λ (bs : List ℕ). sum_of (last_of m bs)) (closing h x e)
    ∙ ap sum_of (last_ending m (seconds_of h) (seconds_by h x) some (is_last m (length (seconds_of h)) full))
    ∙ sum_more (present_of m (seconds_of h)) (seconds_by h x))
    (λ i. not_both y (last_within m (length h) some i))
