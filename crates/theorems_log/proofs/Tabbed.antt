-- Fields parted by tabs, and a text's fields joined again.
use Prim.Native.Nat.{ℕ, ◌<◌}
use mathlib.Core.Path.{◌≡◌, refl, ap, ◌∙◌}
use mathlib.Core.List.{List, [], ◌∷◌, ◌++◌}
use mathlib.Core.Bool.{true, and-eq-true_iff}
use native.Mathlib.Omega.{arith}
use lib.ListN.{length}
use Rattle.frame_writer.specs.Plain.{every}
use Rattle.text.specs.Marks.{tab}
use Rattle.text_eventlog.specs.Digits.{digit, is_decimal}
use Rattle.text_eventlog.specs.Line.{ahead, parted}
use Rattle.text_eventlog.proofs.Numbers.{all_digits, first_digit}
use Rattle.text_eventlog.proofs.Parted.{by_tab, at_tab, past_tab, digits_one, some_field}

abbrev pub tabbed : List (List ℕ) → List ℕ
tabbed [] = []
tabbed (f ∷ []) = f
tabbed (f ∷ g ∷ fs) = f ++ (tab ∷ tabbed (g ∷ fs))

-- a text is its fields, parted by tabs
tabbed-ahead : (x : ℕ) (fs : List (List ℕ)) → tabbed (ahead x fs) ≡ x ∷ tabbed fs
tabbed-ahead x [] = refl
tabbed-ahead x (f ∷ []) = refl
tabbed-ahead x (f ∷ g ∷ fs) = refl

tabbed_none : (fs : List (List ℕ)) → 0 < length fs → tabbed ([] ∷ fs) ≡ tab ∷ tabbed fs
tabbed_none [] h = absurd (omega arith)
tabbed_none (f ∷ fs) h = refl

pub tabbed-parted : (s : List ℕ) → tabbed (parted s) ≡ s
tabbed-parted [] = refl
tabbed-parted (x ∷ s) =
    by_tab x
    (λ e. rw (at_tab x s e) (tabbed_none (parted s) (some_field s) ∙ rw (tabbed-parted s, e)))
    (λ e. rw (past_tab x s e) (tabbed-ahead x (parted s) ∙ rw (tabbed-parted s)))

-- fields of digits, parted by tabs, are parted again
parted_at : (ds s : List ℕ) → every digit ds ≡ true → parted (ds ++ (tab ∷ s)) ≡ ds ∷ parted s
parted_at [] s h = refl
parted_at (d ∷ ds) s h =
    let p = first_digit d ds h in
    past_tab d (ds ++ (tab ∷ s)) (λ e. omega (arith, p.0)) ∙ rw (parted_at ds s p.2)

pub parted-tabbed : (f : List ℕ) (fs : List (List ℕ)) → every is_decimal (f ∷ fs) ≡ true → parted (tabbed (f ∷ fs)) ≡ f ∷ fs
parted-tabbed f [] h = digits_one f (all_digits f ((and-eq-true_iff (is_decimal f) true).0 h).0)
parted-tabbed f (g ∷ fs) h =
    let p = (and-eq-true_iff (is_decimal f) (every is_decimal (g ∷ fs))).0 h in
    parted_at f (tabbed (g ∷ fs)) (all_digits f p.0) ∙ ap (λ (gs : List (List ℕ)). f ∷ gs) (parted-tabbed g fs p.1)
