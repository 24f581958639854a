-- Lists of octets: parts one after another, and taken apart again.
use Prim.Native.Nat.{ℕ, zero, suc, ◌+◌, ◌≤◌}
use mathlib.Core.Path.{◌≡◌, refl, sym, ap, ◌∙◌}
use mathlib.Core.List.{List, [], ◌∷◌, ◌++◌, append_assoc, append-nil}
use native.Mathlib.Omega.{arith}
use native.Mathlib.Nat.{add-zero, add_assoc}
use lib.ListN.{length, get_or, take, drop, length-drop, take-append-drop, drop_of_length-le}
use lib.Seq.{take_at, drop-drop, length-take-le}
use Rattle.octets.specs.Octets.{Octets, total}
use Rattle.octets.proofs.Numbers.{past, octets_from}
use Rattle.oam_packing.specs.Parts.{together, parts_at, part_of}
use Rattle.oam_packing.proofs.Joining.{lengths}

-- parts that stand one after another are those taken
pub parts_read : (xs : List (List ℕ)) (s : List ℕ) (at : ℕ) (y : List ℕ) → drop at s ≡ together xs ++ y → parts_at (lengths xs) s at ≡ xs
parts_read [] s at y e = refl
parts_read (x ∷ xs) s at y e =
    let e' : drop at s ≡ x ++ (together xs ++ y) = e ∙ append_assoc x (together xs) y in
    rw (e', take_at x (together xs ++ y) (length x) refl, parts_read xs s (at + length x) y (past s at (length x) x (together xs ++ y) refl e'))

-- so each is taken by its place
pub part_at : (ns : List ℕ) (xs : List (List ℕ)) (k : ℕ) → lengths xs ≡ ns → part_of ns k (together xs) ≡ get_or xs k []
part_at ns xs k l =
    let s = together xs in
    rw (← l) (ap (λ (ys : List (List ℕ)). get_or ys k []) (parts_read xs s 0 [] (sym (append-nil s))))

-- one part more
pub together_last : (xs : List (List ℕ)) (y : List ℕ) → together (xs ++ (y ∷ [])) ≡ together xs ++ y
together_last [] y = append-nil y
together_last (x ∷ xs) y = ap (λ (l : List ℕ). x ++ l) (together_last xs y) ∙ sym (append_assoc x (together xs) y)

-- the parts that are taken stand one after another
parts_stand : (ns : List ℕ) (s : List ℕ) (at : ℕ) → drop at s ≡ together (parts_at ns s at) ++ drop (at + total ns) s
parts_stand [] s at = rw add-zero
parts_stand (n ∷ ns) s at =
    let p = take n (drop at s) in
    let q = together (parts_at ns s (at + n)) in
    sym (take-append-drop n (drop at s))
    ∙ ap (λ (l : List ℕ). p ++ l) (drop-drop n at s ∙ parts_stand ns s (at + n))
    ∙ sym (append_assoc p q (drop (at + n + total ns) s))
    ∙ rw (add_assoc at n (total ns))

pub parts_again : (ns : List ℕ) (s : List ℕ) → length s ≡ total ns → together (parts_at ns s 0) ≡ s
parts_again ns s h =
    let none : length s ≤ 0 + total ns = omega (arith, h) in
    sym (parts_stand ns s 0 ∙ rw (drop_of_length-le s none) (append-nil (together (parts_at ns s 0))))

-- the first of some octets are octets
octets_first : (n : ℕ) (s : List ℕ) → Octets s → Octets (take n s)
octets_first zero s o i = omega arith
octets_first (suc n) [] o i = omega arith
octets_first (suc n) (x ∷ s) o zero = o 0
octets_first (suc n) (x ∷ s) o (suc i) = octets_first n s (λ j. o (suc j)) i

-- each part has octets, as many as its length says
abbrev pub Long : List ℕ → ℕ → Type 0
Long x n = (Octets x) × (length x ≡ n)

pub parts_octets : (ns : List ℕ) (s : List ℕ) (at : ℕ) → Octets s → at + total ns ≤ length s → (k : ℕ) → Long (get_or (parts_at ns s at) k []) (get_or ns k 0)
parts_octets [] s at o h k = (λ i. omega arith, refl)
parts_octets (n ∷ ns) s at o h zero =
    (octets_first n (drop at s) (octets_from s o at), length-take-le n (drop at s) (omega (arith, length-drop at s)))
parts_octets (n ∷ ns) s at o h (suc k) = parts_octets ns s (at + n) o (omega arith) k
