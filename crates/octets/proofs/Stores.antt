-- Runs of stores in a list, and numbers that fit in octets.
use Rattle.std.proofs.Common.{◌≡◌, refl, ap, ◌∙◌, ℕ, suc, ◌+◌, ◌-◌, ◌^◌, ◌<◌, ◌≤◌, min, List, [], ◌∷◌, ◌++◌, ◌&&◌, ltb, leb, length, get_or, drop, arith, add-zero, add-one, append_assoc}
use Rattle.std.proofs.Math.ListN.{set, drop_of_length-le}
use Rattle.std.proofs.Math.Seq.{set_comm, set_out, drop-cons}
use Rattle.std.proofs.lemmas.List.{drop-drop}
use Rattle.std.proofs.lemmas.List.Edits.{sets, sets-eq}
use Rattle.std.proofs.Math.Nat.{add-suc}
use borrow.Author.Tests.{leb-true, leb-false}
use borrow.Rule.Slice.PartMut.{put_mid}
use Rattle.octets.specs.Octets.{fit}
use Rattle.octets.proofs.Bools.{whether}

-- a run of stores in two runs
pub sets-append : (l : List ℕ) (at : ℕ) (xs ys : List ℕ) → sets l at (xs ++ ys) ≡ sets (sets l at xs) (at + length xs) ys
sets-append l at [] ys = rw add-zero
sets-append l at (x ∷ xs) ys =
    let e : at + suc (length xs) ≡ suc at + length xs = omega arith in
    rw e (sets-append (set l at x) (suc at) xs ys)

-- a run of stores may begin with its last one
pub sets_last : (l : List ℕ) (at : ℕ) (xs : List ℕ) (x : ℕ) → sets l at (xs ++ (x ∷ [])) ≡ sets (set l (at + length xs) x) at xs
sets_last l at [] x = rw add-zero
sets_last l at (y ∷ xs) x =
    let e : suc at + length xs ≡ at + suc (length xs) = omega arith in
    sets_last (set l at y) (suc at) xs x
    ∙ ap (λ (m : List ℕ). sets m (suc at) xs) (rw e (set_comm l at (at + suc (length xs)) y x (λ p. omega arith)))

-- one octet more
pub sets_next : (out : List ℕ) (at : ℕ) (text : List ℕ) (i : ℕ) → i < length text
    → sets out (at + i) (drop i text) ≡ sets (set out (at + i) (get_or text i 0)) (at + (i + 1)) (drop (i + 1) text)
sets_next out at text i h = rw (add-one i, add-suc at i, drop-cons text i 0 h)

-- past the end of a list nothing is stored
pub none_past : (l : List ℕ) (i : ℕ) (xs : List ℕ) → length l ≤ i → sets l i xs ≡ l
none_past l i [] h = refl
none_past l i (x ∷ xs) h = ap (λ (m : List ℕ). sets m (suc i) xs) (set_out l i x h) ∙ none_past l (suc i) xs (omega (arith, h))

-- a list of no length is empty
pub empty : (text : List ℕ) → length text ≡ 0 → text ≡ []
empty [] h = refl
empty (x ∷ text) h = absurd (omega arith)

-- ---- what is stored at once

-- a part that is written at once is a run of stores
pub stored : (a e : ℕ) (l xs ys : List ℕ) → ys ≡ xs → e ≡ a + length xs → e ≤ length l → put_mid a (e - a) l ys ≡ sets l a xs
stored a e l xs ys p q h =
    let z : a + (e - a) ≡ a + length xs = omega arith in
    rw (p, drop-drop (e - a) a l, sets-eq xs l a (omega arith), z, append_assoc)

-- where all is stored that there is, or all that there is room for, no more is
pub stored_all : (l : List ℕ) (at i : ℕ) (xs : List ℕ) → at ≤ length l → i ≡ min (length xs) (length l - at) → sets l (at + i) (drop i xs) ≡ l
stored_all l at i xs h e =
    whether (leb (length xs) i) (λ t. rw (drop_of_length-le xs (leb-true (length xs) i t)))
    (λ f. none_past l (at + i) (drop i xs) (omega (arith, h, e, leb-false (length xs) i f)))

-- ---- numbers that fit

-- the first width and the first number, then the others
pub next_fit : (ws vs : List ℕ) (i : ℕ) → i < length ws → i < length vs
    → fit (drop i ws) (drop i vs) ≡ (ltb (get_or vs i 0) (256 ^ get_or ws i 0) && fit (drop (i + 1) ws) (drop (i + 1) vs))
next_fit ws vs i h k = rw (add-one i, drop-cons ws i 0 h, drop-cons vs i 0 k)
