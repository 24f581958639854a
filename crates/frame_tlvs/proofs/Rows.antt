-- Laws of the table of widths, and of the fields that stand by a row of it.
use Prim.Native.Nat.{ℕ, zero, suc, ◌+◌, ◌-◌, ◌<◌, ◌≤◌}
use mathlib.Core.Path.{◌≡◌, refl}
use mathlib.Core.List.{List, [], ◌∷◌, map}
use mathlib.Core.Bool.{Bool, true, ◌&&◌}
use native.Mathlib.Omega.{arith}
use native.Mathlib.Numerals.{add-one}
use borrow.Author.Tests.{leb-true, eqb-true, ne_eqb}
use lib.Dec.{leb}
use lib.ListN.{length, get_or, drop}
use lib.Seq.{drop-cons}
use Rattle.octets.specs.Octets.{num, total}
use Rattle.octets.proofs.Bools.{and_l, and_r}
use Rattle.frame_tlvs.specs.Events.{is_word, event_of, event_at}
use Rattle.frame_tlvs.specs.Tlvs.{rows, row, event_length}

-- "Length" in the table of event TLVs, and 0 for what is not in it
pub lengths : map event_length (0 ∷ 1 ∷ 2 ∷ 3 ∷ 4 ∷ 5 ∷ []) ≡ 0 ∷ 40 ∷ 26 ∷ 28 ∷ 18 ∷ 0 ∷ []
unfolding event_length row
lengths = refl

-- what holds of the four rows holds of each
pub four : (P : List ℕ → Type 0) → P (row 1) → P (row 2) → P (row 3) → P (row 4) → (t : ℕ) → 0 < t → t ≤ 4 → P (row t)
four P a b c d zero l h = absurd (omega arith)
four P a b c d (suc zero) l h = a
four P a b c d (suc (suc zero)) l h = b
four P a b c d (suc (suc (suc zero))) l h = c
four P a b c d (suc (suc (suc (suc zero)))) l h = d
four P a b c d (suc (suc (suc (suc (suc t))))) l h = absurd (omega arith)

-- a test that is computed of each row, and of any table: no width is above 8
abbrev pub narrow : List ℕ → Bool
narrow [] = true
narrow (w ∷ ws) = leb w 8 && narrow ws

pub narrow_at : (ws : List ℕ) → narrow ws ≡ true → (k : ℕ) → get_or ws k 0 ≤ 8
narrow_at [] e k = omega arith
narrow_at (w ∷ ws) e zero = leb-true w 8 (and_l (leb w 8) (narrow ws) e)
narrow_at (w ∷ ws) e (suc k) = narrow_at ws (and_r (leb w 8) (narrow ws) e) k

-- a row: six widths of at most 8 octets, and their sum
pub record Row (ws : List ℕ) : Type 0 where
  pub six : length ws ≡ 6
  pub narrow : (k : ℕ) → get_or ws k 0 ≤ 8
  pub sum : total ws ≡ get_or ws 0 0 + get_or ws 1 0 + get_or ws 2 0 + get_or ws 3 0 + get_or ws 4 0 + get_or ws 5 0

pub row_of : (t : ℕ) → 0 < t → t ≤ 4 → Row (row t)
unfolding row
row_of t l h =
    record {
      six = four (λ (ws : List ℕ). length ws ≡ 6) refl refl refl refl t l h;
      narrow = narrow_at (row t) (four (λ (ws : List ℕ). narrow ws ≡ true) refl refl refl refl t l h);
      sum =
          four
          (λ (ws : List ℕ). total ws ≡ get_or ws 0 0 + get_or ws 1 0 + get_or ws 2 0 + get_or ws 3 0 + get_or ws 4 0 + get_or ws 5 0)
          refl refl refl refl t l h;
    }

-- the row from its k-th width on
pub total_at : (ws : List ℕ) (k : ℕ) → k < length ws → total (drop k ws) ≡ get_or ws k 0 + total (drop (k + 1) ws)
total_at ws k h = rw (add-one k, drop-cons ws k 0 h)

-- six widths, each for itself
pub six_cells : (ws : List ℕ) → length ws ≡ 6
    → ws ≡ get_or ws 0 0 ∷ get_or ws 1 0 ∷ get_or ws 2 0 ∷ get_or ws 3 0 ∷ get_or ws 4 0 ∷ get_or ws 5 0 ∷ []
six_cells [] h = absurd (omega arith)
six_cells (a ∷ []) h = absurd (omega arith)
six_cells (a ∷ b ∷ []) h = absurd (omega arith)
six_cells (a ∷ b ∷ c ∷ []) h = absurd (omega arith)
six_cells (a ∷ b ∷ c ∷ d ∷ []) h = absurd (omega arith)
six_cells (a ∷ b ∷ c ∷ d ∷ e ∷ []) h = absurd (omega arith)
six_cells (a ∷ b ∷ c ∷ d ∷ e ∷ f ∷ []) h = refl
six_cells (a ∷ b ∷ c ∷ d ∷ e ∷ f ∷ g ∷ ws) h = absurd (omega arith)

-- the width of a word that is neither two nor four is eight
pub word_eight : (width : ℕ) → is_word width ≡ true → (width ≡ 2 → ⊥) → (width ≡ 4 → ⊥) → width ≡ 8
word_eight width h a b = eqb-true width 8 (rw (ne_eqb width 2 a, ne_eqb width 4 b) at h)

-- the fifth field of a row is a word, and lies where the row does
pub fifth_lies : (at len t : ℕ) → 0 < t → t ≤ 4 → at + 2 + total (row t) ≤ len
    → let w : ℕ → ℕ = λ k. get_or (get_or rows (t - 1) []) k 0 in
    (is_word (w 4) ≡ true) × (at + 2 + w 0 + w 1 + w 2 + w 3 + w 4 ≤ len)
unfolding row
fifth_lies at len zero l h r = absurd (omega arith)
fifth_lies at len (suc zero) l h r = (refl, omega arith)
fifth_lies at len (suc (suc zero)) l h r = (refl, omega arith)
fifth_lies at len (suc (suc (suc zero))) l h r = (refl, omega arith)
fifth_lies at len (suc (suc (suc (suc zero)))) l h r = (refl, omega arith)
fifth_lies at len (suc (suc (suc (suc (suc t))))) l h r = absurd (omega arith)

-- six fields that stand one after another from an octet, each in its width of a row, are the event of the row's type
abbrev pub Read : List ℕ → List ℕ → (at a b c d e f : ℕ) → Type 0
Read ws s at a b c d e f =
    let w : ℕ → ℕ = λ k. get_or ws k 0 in
    (a ≡ num (w 0) s at)
    × (b ≡ num (w 1) s (at + w 0))
    × (c ≡ num (w 2) s (at + w 0 + w 1))
    × (d ≡ num (w 3) s (at + w 0 + w 1 + w 2))
    × (e ≡ num (w 4) s (at + w 0 + w 1 + w 2 + w 3))
    × (f ≡ num (w 5) s (at + w 0 + w 1 + w 2 + w 3 + w 4))

pub event_read : (s : List ℕ) (at t a b c d e f : ℕ) → 0 < t → t ≤ 4 → Read (get_or rows (t - 1) []) s (at + 2) a b c d e f
    → event_of t (a ∷ b ∷ c ∷ d ∷ e ∷ f ∷ []) ≡ event_at s at t
unfolding event_at row
event_read s at zero a b c d e f l h r = absurd (omega arith)
event_read s at (suc zero) a b c d e f l h r = rw (r.0, r.1, r.2, r.3, r.4, r.5)
event_read s at (suc (suc zero)) a b c d e f l h r = rw (r.0, r.1, r.2, r.3, r.4, r.5)
event_read s at (suc (suc (suc zero))) a b c d e f l h r = rw (r.0, r.1, r.2, r.3, r.4, r.5)
event_read s at (suc (suc (suc (suc zero)))) a b c d e f l h r = rw (r.0, r.1, r.2, r.3, r.4, r.5)
event_read s at (suc (suc (suc (suc (suc t))))) a b c d e f l h r = absurd (omega arith)
