-- Octets three by three.
use Rattle.std.proofs.Common.{◌≡◌, refl, sym, ap, ◌∙◌, ℕ, zero, suc, ◌+◌, ◌*◌, ◌/◌, ◌<◌, List, [], ◌∷◌, length, take, drop, get_or, arith, add-zero}
use Rattle.octets.specs.Octets.{num}
use Rattle.std.specs.Simd.{first_chunks}
use Rattle.std.proofs.lemmas.List.{drop-drop, get_or-take, get_or-drop}

chunk-at : (k i : ℕ) (xs : List ℕ) (d : List ℕ) → i < k → get_or (first_chunks 3 k xs) i d ≡ take 3 (drop (3 * i) xs)
chunk-at zero i xs d h = absurd (omega arith)
chunk-at (suc k) zero xs d h = refl
chunk-at (suc k) (suc i) xs d h =
    let e : 3 * suc i ≡ 3 + 3 * i = omega arith in
    chunk-at k i (drop 3 xs) d (omega arith) ∙ ap (take 3) (drop-drop (3 * i) 3 xs ∙ ap (λ (n : ℕ). drop n xs) (sym e))

-- octet k of the one at an index
pub triple : (xs : List ℕ) (ts : List (List ℕ)) → ts ≡ first_chunks 3 (length xs / 3) xs → (i : ℕ) → i < length xs / 3
    → (k : ℕ) → k < 3 → get_or (get_or ts i []) k 0 ≡ get_or xs (3 * i + k) 0
triple xs ts e i h k less =
    rw e (ap (λ (l : List ℕ). get_or l k 0) (chunk-at (length xs / 3) i xs [] h) ∙ get_or-take 3 (drop (3 * i) xs) k 0 less ∙ get_or-drop (3 * i) xs k 0)

-- the branch of the one at an index
pub branch : (xs : List ℕ) (ts : List (List ℕ)) → ts ≡ first_chunks 3 (length xs / 3) xs → (count i : ℕ) → count ≡ i → i < length xs / 3
    → get_or (get_or ts i []) 0 0 ≡ get_or xs (3 * count) 0
branch xs ts e count i p h = rw p (triple xs ts e i h 0 (omega arith) ∙ rw add-zero)

-- the number of the one at an index
pub number : (xs : List ℕ) (ts : List (List ℕ)) → ts ≡ first_chunks 3 (length xs / 3) xs → (i : ℕ) → i < length xs / 3
    → num 3 (get_or (get_or ts i []) 0 0 ∷ get_or (get_or ts i []) 1 0 ∷ get_or (get_or ts i []) 2 0 ∷ []) 0 ≡ num 3 xs (3 * i)
number xs ts e i h = rw (triple xs ts e i h 0 (omega arith), triple xs ts e i h 1 (omega arith), triple xs ts e i h 2 (omega arith))
