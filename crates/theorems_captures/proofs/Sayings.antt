-- What is said of the octets that are awaited: of all of them, of too few, and where nothing is awaited.
use Prim.Native.Nat.{ℕ, suc, ◌+◌, ◌≤◌, ◌<◌}
use mathlib.Core.Path.{◌≡◌, refl, sym, ap, ◌∙◌}
use mathlib.Core.Bool.{false}
use mathlib.Core.List.{List, [], ◌∷◌, ◌++◌}
use native.Mathlib.Nat.{add-zero}
use native.Mathlib.Numerals.{add-one}
use native.Mathlib.Omega.{arith}
use borrow.Author.Tests.{eq-eqb, ne_eqb}
use lib.ListN.{length, set, take, drop, take-append-drop}
use lib.Seq.{sets, length-take-le}
use Rattle.octets.proofs.Bools.{not_both}
use Rattle.text.specs.Pieces.{to_say}
use Rattle.text_captures.specs.declared.progress.Awaited.{Awaited}
use Rattle.text_captures.specs.declared.progress.Awaited.TheVariants.{FileHeader, RecordHeader, Frame, Nothing}
use Rattle.text_captures.specs.declared.progress.Progress.{Progress}
use Rattle.text_captures.specs.Feeding.{wanted, is_stopped, ahead, with_filled, after_file_header, after_record_header, after_frame, acted_by, acted, row_said, left_to_say, State, captures}

abbrev at : Progress → List ℕ → State
at p f = record { progress = p; frame = f }

-- what comes of the octets does not hang on how they were counted
counted_otherwise : (awaited : Awaited) (p : Progress) (n : ℕ) (f : List ℕ) → is_stopped awaited ≡ false → acted_by awaited (with_filled p n) f ≡ acted_by awaited p f
unfolding after_file_header after_record_header after_frame
counted_otherwise FileHeader p n f going = refl
counted_otherwise RecordHeader p n f going = refl
counted_otherwise Frame p n f going = refl
counted_otherwise Nothing p n f going = not_both refl going

-- an octet before the last one that is awaited, and that one
one_more : (p : Progress) (f : List ℕ) (c : ℕ) (rest : List ℕ) → is_stopped p.awaited ≡ false → 0 < ahead p
    → to_say captures (at p f) (c ∷ rest) ≡ to_say captures (at (with_filled p (p.filled + 1)) (set f p.filled c)) rest
unfolding to_say
one_more p f c rest going more = simp (going, ne_eqb (ahead p) 0 (λ e. absurd (omega (arith, e))))

the_last : (p : Progress) (f : List ℕ) (c : ℕ) (rest : List ℕ) → is_stopped p.awaited ≡ false → ahead p ≡ 0
    → to_say captures (at p f) (c ∷ rest)
    ≡ row_said p.number (acted p (set f p.filled c)).said ++ to_say captures (at (acted p (set f p.filled c)).progress (set f p.filled c)) rest
unfolding to_say
the_last p f c rest going none = simp (going, eq-eqb (ahead p) 0 none)

-- all of them
all_come : (c : ℕ) (octets rest : List ℕ) (p : Progress) (f : List ℕ) → is_stopped p.awaited ≡ false → p.filled + suc (length octets) ≡ wanted p.awaited p.stored
    → to_say captures (at p f) (c ∷ octets ++ rest)
    ≡ row_said p.number (acted p (sets f p.filled (c ∷ octets))).said
    ++ to_say captures (at (acted p (sets f p.filled (c ∷ octets))).progress (sets f p.filled (c ∷ octets))) rest
all_come c [] rest p f going all = the_last p f c rest going (omega arith)
all_come c (d ∷ octets) rest p f going all =
    one_more p f c (d ∷ octets ++ rest) going (omega arith)
    ∙ all_come d octets rest (with_filled p (p.filled + 1)) (set f p.filled c) going (omega arith)
    ∙ rw (add-one p.filled, counted_otherwise p.awaited p (suc p.filled) (sets f p.filled (c ∷ d ∷ octets)) going)

-- the same of a list that begins with them
pub awaited_come : (s : List ℕ) (p : Progress) (f : List ℕ) (n : ℕ) → is_stopped p.awaited ≡ false → p.filled + n ≡ wanted p.awaited p.stored → 0 < n → n ≤ length s
    → let f' = sets f p.filled (take n s) in to_say captures (at p f) s ≡ row_said p.number (acted p f').said ++ to_say captures (at (acted p f').progress f') (drop n s)
awaited_come s p f n going is some enough = ap (to_say captures (at p f)) (sym (take-append-drop n s)) ∙ beginning (take n s) (length-take-le n s enough)
  where
    beginning : (octets : List ℕ) → length octets ≡ n
        → let f' = sets f p.filled octets in to_say captures (at p f) (octets ++ drop n s) ≡ row_said p.number (acted p f').said ++ to_say captures (at (acted p f').progress f') (drop n s)
    beginning [] many = absurd (omega arith)
    beginning (c ∷ octets) many = all_come c octets (drop n s) p f going (omega arith)

-- too few
pub few_come : (octets : List ℕ) (p : Progress) (f : List ℕ) → is_stopped p.awaited ≡ false → p.filled + length octets < wanted p.awaited p.stored
    → to_say captures (at p f) octets ≡ row_said p.number (left_to_say (with_filled p (p.filled + length octets)))
unfolding to_say
few_come [] p f going few = rw (add-zero p.filled)
few_come (c ∷ octets) p f going few =
    let count : p.filled + 1 + length octets ≡ p.filled + suc (length octets) = omega arith in
    one_more p f c octets going (omega arith) ∙ few_come octets (with_filled p (p.filled + 1)) (set f p.filled c) going (omega arith) ∙ rw count

-- where nothing is awaited
pub nothing_said : (octets : List ℕ) (p : Progress) (f : List ℕ) → p.awaited ≡ Nothing → to_say captures (at p f) octets ≡ []
unfolding to_say
nothing_said [] p f stopped = rw stopped
nothing_said (c ∷ octets) p f stopped = simp stopped (nothing_said octets p f stopped)
