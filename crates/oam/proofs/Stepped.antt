-- What an entry that takes a call gives back: a number alone, or what the call comes to.
use Prim.Native.Nat.{ℕ, ◌+◌}
use mathlib.Core.Path.{◌≡◌, refl, sym, ap, ◌∙◌}
use mathlib.Core.List.{List, ◌++◌}
use native.Mathlib.Nat.{zero-add}
use native.Mathlib.Omega.{arith}
use mathlib.Core.Bool.{Bool, true, false, cond}
use Rattle.std.specs.Prelude.{None, Some}
use lib.Dec.{leb, eqb}
use lib.ListN.{length}
use lib.Seq.{sets}
use Rattle.octets.proofs.Stores.{sets-append}
use Rattle.link_end.specs.declared.End.{End}
use Rattle.link_end.specs.Parts.{Is, Refused, MaybeEnd}
use Rattle.link_end.specs.declared.News.TheVariants.{Nothing}
use Rattle.link.specs.Outcomes.{Outcome, outcome}
use Rattle.link_windows.specs.Ranges.{MaybeWatch}
use Rattle.oam_outcomes.specs.Stepped.{stepped_number, stepped_state}
use Rattle.oam_showing.specs.Showing.{Showing}
use Rattle.link_end.specs.declared.Report.{Report}
use Rattle.oam.specs.Machine.{Stepping, Freshly, report_from, known_report, news_shown, Receiving}

-- a number of an outcome, and the state after it, by another that is the same
pub same_number : {o o' : Outcome} {answer : ℕ} → o ≡ o' → answer ≡ stepped_number o → answer ≡ stepped_number o'
same_number h a = a ∙ ap stepped_number h

pub same_stored : {o o' : Outcome} {answer : ℕ} {state' : List ℕ} (state : List ℕ) → o ≡ o'
    → (answer ≡ stepped_number o) × (state' ≡ stepped_state o state)
    → (answer ≡ stepped_number o') × (state' ≡ stepped_state o' state)
same_stored state h q = (same_number h q.0, q.1 ∙ ap (λ (x : Outcome). stepped_state x state) h)

module _ {call : End → Outcome} {output : End → List ℕ → List ℕ} (found : MaybeEnd) (state out : List ℕ) where
  pub refused : {n : ℕ} → found ≡ Refused n → Stepping call output found state out n state out
  refused h = rw h (record { answers = refl; keeps = refl; writes = refl })

  pub stepped : {e : End} {o : Outcome} {answer : ℕ} {state' out' : List ℕ} → found ≡ Is e
      → (o ≡ call e) × (out' ≡ output e out)
      → (answer ≡ stepped_number o) × (state' ≡ stepped_state o state)
      → Stepping call output found state out answer state' out'
  stepped h p q =
      rw h (record {
        answers = q.0 ∙ ap stepped_number p.0;
        keeps = q.1 ∙ ap (λ (x : Outcome). stepped_state x state) p.0;
        writes = p.1;
      })

  -- the entry itself refuses: nothing is stored
  pub stayed : {e : End} {n answer : ℕ} → found ≡ Is e → call e ≡ outcome e n 0 Nothing → eqb n 0 ≡ false → output e out ≡ out
      → answer ≡ stepped_number (outcome e n 0 Nothing)
      → Stepping call output found state out answer state out
  unfolding stepped_state
  stayed h o z w a =
      rw h (record { answers = a ∙ ap stepped_number (sym o); keeps = rw (o, z); writes = sym w })

  pub heard : {e : End} {o : Outcome} {answer : ℕ} {header header' state' out' : List ℕ} {shown : ℕ} → found ≡ Is e
      → (o ≡ call e) × (out' ≡ output e out)
      → Showing (news_shown o.shown) header shown header'
      → (answer ≡ stepped_number o) × (state' ≡ stepped_state o state)
      → Receiving call output found header state out answer header' state' out'
  heard {header = header} h p s q =
      record {
        steps = stepped h p q;
        hears = rw h (s.stored ∙ ap (λ (x : Outcome). sets header 0 (news_shown x.shown).numbers) p.0);
      }

  pub stayed_unheard : {e : End} {n answer : ℕ} {header : List ℕ} → found ≡ Is e → call e ≡ outcome e n 0 Nothing → eqb n 0 ≡ false
      → output e out ≡ out → answer ≡ stepped_number (outcome e n 0 Nothing)
      → Receiving call output found header state out answer header state out
  stayed_unheard h o z w a = record { steps = stayed h o z w a; hears = rw (h, o) }

  pub unheard : {n : ℕ} {header : List ℕ} → found ≡ Refused n → Receiving call output found header state out n header state out
  unheard h = record { steps = refused h; hears = rw h }

-- a fresh end is made, or none
pub unmade : (made : MaybeEnd) (watch : MaybeWatch) (state : List ℕ) {n : ℕ} → made ≡ Refused n → Freshly made watch state n state
unmade made watch state h = rw h (record { answers = refl; keeps = refl })

-- numbers stored after others, and more after those
more_stored : (l xs ys : List ℕ) (n : ℕ) → length xs ≡ n → sets (sets l 0 xs) n ys ≡ sets l 0 (xs ++ ys)
more_stored l xs ys n h = sym (sets-append l 0 xs ys ∙ ap (λ (k : ℕ). sets (sets l 0 xs) k ys) (zero-add (length xs) ∙ h))

pub thrice_stored : (l xs ys zs : List ℕ) (m n : ℕ) → length xs ≡ m → m + length ys ≡ n
    → sets (sets (sets l 0 xs) m ys) n zs ≡ sets l 0 (xs ++ (ys ++ zs))
thrice_stored l xs ys zs m n h k =
    ap (λ (p : ℕ). sets (sets (sets l 0 xs) m ys) p zs) (sym k)
    ∙ sym (sets-append (sets l 0 xs) m ys zs)
    ∙ more_stored l xs (ys ++ zs) m h

-- a number that is no report, and one that is
pub unknown_report : (n : ℕ) → None ≡ known_report n → leb n 5 ≡ false
unknown_report n = by (leb n 5)
  where
    by : (b : Bool) → None ≡ cond b (Some (report_from n)) None → b ≡ false
    by true e = let z : ◌≡◌ {A = ℕ} 0 1 = cc in absurd (omega arith)
    by false e = refl

pub report_is : (n : ℕ) (r : Report) → Some r ≡ known_report n → (leb n 5 ≡ true) × (r ≡ report_from n)
report_is n r = by (leb n 5)
  where
    by : (b : Bool) → Some r ≡ cond b (Some (report_from n)) None → (b ≡ true) × (r ≡ report_from n)
    by true e = (refl, cc)
    by false e = let z : ◌≡◌ {A = ℕ} 0 1 = cc in absurd (omega arith)
