-- A text parted at its tabs: its first field and what follows.
use Prim.Native.Nat.{ℕ, suc, ◌+◌, ◌-◌, ◌≤◌, ◌<◌}
use mathlib.Core.Path.{◌≡◌, refl, ap, ◌∙◌}
use mathlib.Core.List.{List, [], ◌∷◌}
use mathlib.Core.Bool.{true}
use native.Mathlib.Numerals.{add-one}
use native.Mathlib.Omega.{arith}
use borrow.Author.Tests.{eqb-true, eqb-false, eq-eqb, ne_eqb}
use lib.Dec.{eqb}
use lib.ListN.{length, get_or, take, drop, length-drop}
use lib.Seq.{drop-cons, drop-drop, take_all}
use Rattle.frame_writer.specs.Plain.{every}
use Rattle.octets.proofs.Bools.{whether}
use Rattle.text.specs.Marks.{tab}
use Rattle.text_eventlog.specs.Digits.{digit}
use Rattle.text_eventlog.specs.Line.{ahead, parted}
use Rattle.text_eventlog.proofs.Numbers.{first_digit}

-- an octet is a tab, or it is not
pub by_tab : (x : ℕ) {P : Type 0} → (x ≡ tab → P) → ((x ≡ tab → ⊥) → P) → P
by_tab x tabbed other = whether (eqb x tab) (λ t. tabbed (eqb-true x tab t)) (λ f. other (eqb-false x tab f))

-- the first field
abbrev pub first : List ℕ → List ℕ
first s = get_or (parted s) 0 []

first_ahead : (x : ℕ) (fs : List (List ℕ)) → get_or (ahead x fs) 0 [] ≡ x ∷ get_or fs 0 []
first_ahead x [] = refl
first_ahead x (f ∷ fs) = refl

pub at_tab : (x : ℕ) (s : List ℕ) → x ≡ tab → parted (x ∷ s) ≡ [] ∷ parted s
at_tab x s e = rw (eq-eqb x tab e)

pub past_tab : (x : ℕ) (s : List ℕ) → (x ≡ tab → ⊥) → parted (x ∷ s) ≡ ahead x (parted s)
past_tab x s e = rw (ne_eqb x tab e)

-- how far the first field reaches
length_at_tab : (x : ℕ) (s : List ℕ) → x ≡ tab → length (first (x ∷ s)) ≡ 0
length_at_tab x s e = rw (at_tab x s e)

length_past_tab : (x : ℕ) (s : List ℕ) → (x ≡ tab → ⊥) → length (first (x ∷ s)) ≡ suc (length (first s))
length_past_tab x s e = rw (past_tab x s e, first_ahead x (parted s))

-- the same of the text from an octet on
module _ (s : List ℕ) (at : ℕ) (within : at < length s) where
  pub none_at_tab : get_or s at 0 ≡ tab → length (first (drop at s)) ≡ 0
  none_at_tab e = rw (drop-cons s at 0 within) (length_at_tab (get_or s at 0) (drop (suc at) s) e)

  pub one_past_tab : (get_or s at 0 ≡ tab → ⊥) → length (first (drop at s)) ≡ suc (length (first (drop (at + 1) s)))
  one_past_tab e = rw (add-one at, drop-cons s at 0 within) (length_past_tab (get_or s at 0) (drop (suc at) s) e)

-- a text is one field, or a field, a tab and what follows
pub one_field : (s : List ℕ) → length s ≤ length (first s) → parted s ≡ s ∷ []
one_field [] h = refl
one_field (x ∷ s) h =
    by_tab x
    (λ e. absurd (omega (arith, length_at_tab x s e)))
    (λ e. past_tab x s e ∙ rw (one_field s (omega (arith, length_past_tab x s e))))

pub next_field : (s : List ℕ) → length (first s) < length s → parted s ≡ take (length (first s)) s ∷ parted (drop (suc (length (first s))) s)
next_field [] h = absurd (omega arith)
next_field (x ∷ s) h =
    by_tab x
    (λ e. rw (length_at_tab x s e) (at_tab x s e))
    (λ e. rw (length_past_tab x s e) (past_tab x s e ∙ ap (ahead x) (next_field s (omega (arith, length_past_tab x s e)))))

-- the same of the text from an octet on, by the octet after its first field
module _ (s : List ℕ) (at end : ℕ) (reaches : end ≡ at + length (first (drop at s))) where
  pub last_from : at ≤ length s → length s ≤ end → parted (drop at s) ≡ drop at s ∷ []
  last_from h k = one_field (drop at s) (omega (arith, length-drop at s))

  pub next_from : end < length s → parted (drop at s) ≡ take (end - at) (drop at s) ∷ parted (drop (end + 1) s)
  next_from h =
      let t = drop at s in
      let k : length (first t) ≡ end - at = omega arith in
      let e : at + suc (end - at) ≡ end + 1 = omega arith in
      next_field t (omega (arith, length-drop at s)) ∙ rw (k, drop-drop (suc (end - at)) at s, e)

-- a part of a text up to its end is all that is left
pub rest_whole : (s : List ℕ) (at : ℕ) → take (length s - at) (drop at s) ≡ drop at s
rest_whole s at = take_all (length s - at) (drop at s) (omega (arith, length-drop at s))

-- a field of digits has no tab
pub digits_one : (s : List ℕ) → every digit s ≡ true → parted s ≡ s ∷ []
digits_one [] h = refl
digits_one (x ∷ s) h =
    let p = first_digit x s h in
    past_tab x s (λ e. omega (arith, p.0)) ∙ rw (digits_one s p.2)

pub some_field : (s : List ℕ) → 0 < length (parted s)
some_field [] = omega arith
some_field (x ∷ s) = by_tab x (λ e. rw (at_tab x s e) (omega arith)) (λ e. rw (past_tab x s e) (more (parted s)))
  where
    more : (fs : List (List ℕ)) → 0 < length (ahead x fs)
    more [] = omega arith
    more (f ∷ fs) = omega arith
