-- Octets stored in those of a state: what stands before and behind them stays, and so does the length.
use Prim.Native.Nat.{ℕ, suc, ◌+◌, ◌≤◌}
use mathlib.Core.Path.{◌≡◌, refl, ◌∙◌}
use mathlib.Core.List.{List, [], ◌∷◌}
use native.Mathlib.Omega.{arith}
use lib.Dec.{eqb}
use lib.ListN.{length, take, drop, set}
use lib.Seq.{sets, length-sets, take-set-le, drop-set-lt}
use Rattle.octets.proofs.Bools.{by_cond}
use Rattle.oam_packing.specs.Octets.{state_length, kept_at}

-- ---- a run of stores in any list

sets_before : (n : ℕ) (l : List ℕ) (at : ℕ) (xs : List ℕ) → n ≤ at → take n (sets l at xs) ≡ take n l
sets_before n l at [] h = refl
sets_before n l at (x ∷ xs) h = sets_before n (set l at x) (suc at) xs (omega arith) ∙ take-set-le n l at x h

sets_behind : (n : ℕ) (l : List ℕ) (at : ℕ) (xs : List ℕ) → at + length xs ≤ n → drop n (sets l at xs) ≡ drop n l
sets_behind n l at [] h = refl
sets_behind n l at (x ∷ xs) h = sets_behind n (set l at x) (suc at) xs (omega arith) ∙ drop-set-lt n l at x (omega arith)

-- ---- the same of octets that may be a state's

module _ (at : ℕ) (x state : List ℕ) where
  pub kept_long : length (kept_at at x state) ≡ length state
  kept_long = by_cond (λ (s : List ℕ). length s ≡ length state) (eqb (length state) state_length) (λ _. length-sets state at x) (λ _. refl)

  pub kept_before : (n : ℕ) → n ≤ at → take n (kept_at at x state) ≡ take n state
  kept_before n h = by_cond (λ (s : List ℕ). take n s ≡ take n state) (eqb (length state) state_length) (λ _. sets_before n state at x h) (λ _. refl)

  pub kept_behind : (n : ℕ) → at + length x ≤ n → drop n (kept_at at x state) ≡ drop n state
  kept_behind n h = by_cond (λ (s : List ℕ). drop n s ≡ drop n state) (eqb (length state) state_length) (λ _. sets_behind n state at x h) (λ _. refl)
