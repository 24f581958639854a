-- A number is the same wherever its octets are.
use Prim.Native.Nat.{ℕ, zero, suc, ◌+◌, ◌≤◌, ◌<◌}
use mathlib.Core.Path.{◌≡◌, refl, ap, ◌∙◌}
use mathlib.Core.Bool.{Bool, true, false}
use mathlib.Core.List.{List, ◌++◌}
use native.Mathlib.Omega.{arith}
use borrow.Author.Tests.{le-leb}
use lib.ListN.{length, get_or, take, get_or-append}
use lib.Seq.{sets, sets-eq, length-take-le, get_or-take}
use Rattle.octets.specs.Octets.{num}
use Rattle.text_captures.specs.Captures.{num_little, number, is_little, is_capture}

-- two lists that have the same octets up to a place
abbrev pub SameUpTo : ℕ → List ℕ → List ℕ → Type 0
SameUpTo k s t = (i : ℕ) → i < k → get_or s i 0 ≡ get_or t i 0

module _ (k : ℕ) (s t : List ℕ) (same : SameUpTo k s t) where
  num_same : (w at : ℕ) → at + w ≤ k → num w s at ≡ num w t at
  num_same zero at h = refl
  num_same (suc w) at h = rw (num_same w at (omega arith), same (at + w) (omega arith))

  little_same : (w at : ℕ) → at + w ≤ k → num_little w s at ≡ num_little w t at
  little_same zero at h = refl
  little_same (suc w) at h = rw (little_same w at (omega arith), same (at + w) (omega arith))

  pub number_same : (little : Bool) (at : ℕ) → at + 4 ≤ k → number little s at ≡ number little t at
  unfolding number
  number_same true at h = little_same 4 at h
  number_same false at h = num_same 4 at h

  -- the same file header, where both lists have one
  pub little_of_same : 24 ≤ k → is_little s ≡ is_little t
  unfolding is_little
  little_of_same h = rw (number_same true 0 (omega arith))

  pub capture_same : 24 ≤ k → 24 ≤ length s → 24 ≤ length t → is_capture s ≡ is_capture t
  unfolding is_capture
  capture_same h a b =
      rw (le-leb 24 (length s) a, le-leb 24 (length t) b, little_of_same h, number_same (is_little t) 0 (omega arith), number_same (is_little t) 20 (omega arith))

-- octets that were stored at the front of a list that has room for them
pub same_stored : (f s : List ℕ) (k : ℕ) → k ≤ length f → k ≤ length s → SameUpTo k (sets f 0 (take k s)) s
same_stored f s k fits within i h =
    let many : length (take k s) ≡ k = length-take-le k s within in
    ap (λ (x : List ℕ). get_or x i 0) (sets-eq (take k s) f 0 (omega (arith, many)))
    ∙ get_or-append (take k s) _ 0 i (omega (arith, many)) ∙ get_or-take k s i 0 h

-- a list, and others after it
pub same_before : (s rest : List ℕ) (k : ℕ) → k ≤ length s → SameUpTo k (s ++ rest) s
same_before s rest k within i h = get_or-append s rest 0 i (omega arith)
