-- Attributes that are lent as two numbers each, and the pairs that they are.
use Rattle.std.proofs.Common.{◌≡◌, refl, sym, ap, ◌∙◌, ℕ, zero, suc, ◌+◌, ◌*◌, ◌/◌, ◌%◌, ◌<◌, ◌≤◌, List, [], ◌∷◌, Bool, ◌&&◌, ◌||◌, eqb, length, take, drop, get_or, arith, length-drop}
use Rattle.std.specs.List.{list_all, list_any}
use Rattle.std.specs.Simd.{first_chunks}
use Rattle.std.proofs.Math.Bool.{and_assoc}
use Rattle.std.proofs.lemmas.List.{drop-drop}
use Rattle.octets.specs.Tests.{every}
use Rattle.frame_variables.specs.Attributes.{formed_pair, formed_pairs, held_in}

-- a test of every element in std's word
pub every_all : {P : Type 0} (test : P → Bool) (ps : List P) → list_all test ps ≡ every test ps
every_all test [] = refl
every_all test (p ∷ ps) = ap (λ (b : Bool). test p && b) (every_all test ps)

-- ---- all pairs at once

abbrev pairs : List ℕ → List (List ℕ)
pairs ns = first_chunks 2 (length ns / 2) ns

pairs_cons : (d w : ℕ) (ns : List ℕ) → pairs (d ∷ w ∷ ns) ≡ (d ∷ w ∷ []) ∷ pairs ns
pairs_cons d w ns = let e : suc (suc (length ns)) / 2 ≡ suc (length ns / 2) = omega arith in rw e

pub formed_all : (ns : List ℕ) → (list_all (λ (p : List ℕ). formed_pair (get_or p 0 0) (get_or p 1 0)) (first_chunks 2 (length ns / 2) ns) && eqb (length ns % 2) 0) ≡ formed_pairs ns
formed_all [] = refl
formed_all (d ∷ []) = refl
formed_all (d ∷ w ∷ ns) =
    let e : suc (suc (length ns)) % 2 ≡ length ns % 2 = omega arith in
    rw (pairs_cons d w ns, e) (and_assoc (formed_pair d w) _ _ ∙ ap (λ (b : Bool). formed_pair d w && b) (formed_all ns))

pub held_any : (d : ℕ) (ns : List ℕ) → list_any (λ (p : List ℕ). eqb (get_or p 0 0) d) (first_chunks 2 (length ns / 2) ns) ≡ held_in d ns
held_any d [] = refl
held_any d (x ∷ []) = refl
held_any d (x ∷ w ∷ ns) = rw (pairs_cons x w ns) (ap (λ (b : Bool). eqb x d || b) (held_any d ns))

-- ---- one pair after another

chunk_at : (k i : ℕ) (xs : List ℕ) (d : List ℕ) → i < k → get_or (first_chunks 2 k xs) i d ≡ take 2 (drop (2 * i) xs)
chunk_at zero i xs d h = absurd (omega arith)
chunk_at (suc k) zero xs d h = refl
chunk_at (suc k) (suc i) xs d h =
    let e : 2 * suc i ≡ 2 + 2 * i = omega arith in
    chunk_at k i (drop 2 xs) d (omega arith) ∙ ap (take 2) (drop-drop (2 * i) 2 xs ∙ ap (λ (n : ℕ). drop n xs) (sym e))

-- a list of two and more is its first pair and the others
two_first : (l : List ℕ) → 2 ≤ length l → l ≡ get_or (take 2 l) 0 0 ∷ get_or (take 2 l) 1 0 ∷ drop 2 l
two_first [] h = absurd (omega arith)
two_first (d ∷ []) h = absurd (omega arith)
two_first (d ∷ w ∷ l) h = refl

-- the numbers from the i-th pair on are its two, and those from the next one on
module _ (xs : List ℕ) (ps : List (List ℕ)) (e : ps ≡ first_chunks 2 (length xs / 2) xs) (i : ℕ) (h : i < length xs / 2) where
  chunk : get_or ps i [] ≡ take 2 (drop (2 * i) xs)
  chunk = ap (λ (l : List (List ℕ)). get_or l i []) e ∙ chunk_at (length xs / 2) i xs [] h

  pub pair_at : drop (2 * i) xs ≡ get_or (get_or ps i []) 0 0 ∷ get_or (get_or ps i []) 1 0 ∷ drop (2 * (i + 1)) xs
  pair_at =
      let n : 2 * i + 2 ≡ 2 * (i + 1) = omega arith in
      rw (chunk, ← n, ← drop-drop 2 (2 * i) xs) (two_first (drop (2 * i) xs) (omega (arith, length-drop (2 * i) xs)))

-- after the last one there is nothing or one number
pub after_last : (P : List ℕ → Type 0) → P [] → ((x : ℕ) → P (x ∷ [])) → (ns : List ℕ) (i : ℕ) → length ns / 2 ≤ i → P (drop (2 * i) ns)
after_last P none one ns i h = by (drop (2 * i) ns) (omega (arith, length-drop (2 * i) ns))
  where
    by : (l : List ℕ) → length l < 2 → P l
    by [] k = none
    by (x ∷ []) k = one x
    by (x ∷ y ∷ l) k = absurd (omega arith)
