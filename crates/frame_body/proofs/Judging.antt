-- Laws of the walk over an Information body: how the judge's loop goes on by what stands at an octet, and that what is held where
-- the Local stands is the Local of the body's parts.
use Rattle.std.specs.Prelude.{Option, None, Some, Result, Ok, Err}
use Rattle.octets.specs.Refusals.{number}
use Rattle.octets.specs.declared.refusal.Refusal.{Refusal}
use Prim.Native.Nat.{ℕ, zero, suc, ◌+◌, ◌<◌, ◌≤◌}
use mathlib.Core.Path.{◌≡◌, refl, sym, ap, ◌∙◌, subst}
use mathlib.Core.Bool.{Bool, true, false, cond}
use mathlib.Core.List.{List, [], ◌∷◌}
use native.Mathlib.Nat.{add-zero, zero-add}
use native.Mathlib.Omega.{arith}
use borrow.Author.Tests.{ltb-false, lt-ltb, le-ltb}
use lib.ListN.{length, get_or}
use lib.Dec.{ltb, eqb}
use Rattle.frame_tlvs.specs.Tlvs.{mark_at}
use Rattle.frame_tlvs.specs.Walk.{Walk, ends, over, part, on_next, walk, given, met, skipped_in, Parsed, refused, parts, also}
use Rattle.frame_tlvs.specs.Marks.{mark_next, marks_of}
use Rattle.frame_body.specs.Information.{information_at, step_of, information_step, next_of, information_walk, information_parts, local_in}
use Rattle.frame_body.specs.declared.InformationPart.{InformationPart}
use Rattle.frame_body.specs.declared.InformationPart.TheVariants.{Local as local, Remote as remote}
use Rattle.frame_body.specs.Judging.{local_next, local_place, judged, judged_information, local_at}
use Rattle.frame_tlvs.specs.Tlvs.{Mark}
use Rattle.frame_tlvs.specs.Tlvs.{End as MarkEnd, Broken as MarkBroken, Unknown, Known}
use Rattle.frame_tlvs.specs.declared.Kind.TheVariants.{Information as InformationKind}
use Rattle.frame_body.specs.declared.Information.{Information}
use Rattle.frame_body.specs.Information.{InformationStep}
use Rattle.frame_body.specs.Information.{End, Broken, Skip, Local, Remote}
use Rattle.frame_body.specs.Judging.{Judged}
use Rattle.frame_body.specs.Judging.{Refused, Whole}
use Rattle.octets.proofs.Bools.{whether, by_cond}
use Rattle.frame_tlvs.proofs.Walks.{Ahead, Leads}
use Rattle.frame_tlvs.proofs.Marks.{Marked, mark_within, mark_end, information_16}

-- ---- what stands in a body leads on

ahead : (s : List ℕ) (at : ℕ) (mark : Mark) → Marked InformationKind at (length s) mark → Ahead at (length s) (next_of (step_of s at mark))
ahead s at MarkEnd h = tt
ahead s at MarkBroken h = tt
ahead s at (Unknown n) h = h
ahead s at (Known t n) h =
    by_cond (λ (x : InformationStep). Ahead at (length s) (next_of x)) (eqb t 1) (λ _. (h.0, h.1)) (λ _. (h.0, h.1))

pub information_leads : (s : List ℕ) → Leads (λ at. next_of (information_step s at)) (length s)
unfolding information_step
information_leads s =
    record {
      end = λ at h. ap (λ (m : Mark). next_of (step_of s at m)) (mark_end InformationKind s at h);
      ahead = λ at. ahead s at (mark_at InformationKind s at) (mark_within InformationKind s at);
    }

-- a known Information TLV lies within the body
pub information_lies : (s : List ℕ) (at t n : ℕ) → Known t n ≡ mark_at InformationKind s at → at + 16 ≤ length s
information_lies s at t n e =
    let m : Marked InformationKind at (length s) (Known t n) = subst (Marked InformationKind at (length s)) (sym e) (mark_within InformationKind s at) in
    omega (arith, m.1, m.2, information_16 t m.4)

-- ---- what is held where a Local stands

-- past the body's end nothing is held
pub none_held : (s : List ℕ) → local_at s (length s) ≡ None
unfolding local_at
none_held s = rw (lt-ltb (length s) (length s + 16) (omega arith))

-- a Local that stands in a body is held there
local_held : (s : List ℕ) (at : ℕ) (i : Information) (n : ℕ) → information_step s at ≡ Local i n → local_at s at ≡ Some i
unfolding information_step local_at
local_held s at i n = by_mark (mark_at InformationKind s at) (mark_within InformationKind s at)
  where
    by_mark : (mark : Mark) → Marked InformationKind at (length s) mark → step_of s at mark ≡ Local i n
        → cond (ltb (length s) (at + 16)) None (Some (information_at s at)) ≡ Some i
    by_mark MarkEnd m e = let z : ◌≡◌ {A = ℕ} 0 1 = cc in absurd (omega arith)
    by_mark MarkBroken m e = let z : ◌≡◌ {A = ℕ} 0 1 = cc in absurd (omega arith)
    by_mark (Unknown k) m e = let z : ◌≡◌ {A = ℕ} 0 1 = cc in absurd (omega arith)
    by_mark (Known t k) m e =
        let within : ltb (length s) (at + 16) ≡ false = le-ltb (length s) (at + 16) (omega (arith, m.1, m.2, information_16 t m.4)) in
        rw within
        (by_cond (λ (x : InformationStep). x ≡ Local i n → Some (information_at s at) ≡ Some i) (eqb t 1)
        (λ _ h. cc) (λ _ h. let z : ◌≡◌ {A = ℕ} 0 1 = cc in absurd (omega arith)) e)

-- a part more is judged as the rest
judged_also : (place skipped : ℕ) (p : InformationPart) (w : Parsed InformationPart) → judged place skipped (also p w) ≡ judged place skipped w
judged_also place skipped p (refused n) = refl
judged_also place skipped p (parts ps) = refl

module _ (s : List ℕ) where
  -- the walk over the parts and the walk over the places of Locals, from an octet
  abbrev left : ℕ → ℕ → Walk InformationPart
  left steps at = walk (λ n. next_of (information_step s n)) steps at

  abbrev places_left : ℕ → ℕ → Walk ℕ
  places_left steps at = walk (λ n. local_next n (information_step s n)) steps at

  -- ---- the judge's loop

  -- what the body comes to by what is left of it, where a Local was met at octet `place`, or none where that is the body's
  -- length, `r` says whether a Remote was, and so many TLVs were skipped
  abbrev judged_left : ℕ → Bool → ℕ → Walk ℕ → Walk InformationPart → Judged
  judged_left place r skipped places w =
      let l = ltb place (length s) in judged (cond l place (get_or (met places) 0 (length s))) (skipped + skipped_in w) (information_parts l r w)

  -- the same by the marks that are left
  abbrev pub judged_marks : ℕ → Bool → ℕ → List (Result (ℕ × Option ℕ) Refusal) → Judged
  judged_marks place r skipped [] = Whole place skipped
  judged_marks place r skipped (Err e ∷ ms) = Refused (number e)
  judged_marks place r skipped (Ok (at, None) ∷ ms) = judged_marks place r (skipped + 1) ms
  judged_marks place r skipped (Ok (at, Some t) ∷ ms) =
      cond (eqb t 1)
      (cond (ltb place (length s)) (Refused 7) (judged_marks at r skipped ms))
      (cond r (Refused 7) (judged_marks place true skipped ms))

  abbrev marks_left : ℕ → ℕ → Walk (ℕ × Option ℕ)
  marks_left steps at = walk (λ n. mark_next n (mark_at InformationKind s n)) steps at

  abbrev Same : ℕ → Bool → ℕ → Walk (ℕ × Option ℕ) → Walk ℕ → Walk InformationPart → Type 0
  Same place r skipped ms places w = judged_marks place r skipped (given ms) ≡ judged_left place r skipped places w

  none_more : (place : ℕ) (r : Bool) (skipped : ℕ) → place ≤ length s → Same place r skipped ends ends ends
  none_more place r skipped upto =
      let all : skipped ≡ skipped + 0 = sym (add-zero skipped) in
      whether (ltb place (length s)) (λ t. rw t (ap (Whole place) all))
      (λ f. let none : place ≡ length s = omega (arith, ltb-false place (length s) f) in rw f (λ i. Whole (none i) (all i)))

  module _ (steps : ℕ) (rest : (n place : ℕ) (r : Bool) (skipped : ℕ) → place ≤ length s
      → Same place r skipped (marks_left steps n) (places_left steps n) (left steps n)) where
    met_mark : (at place : ℕ) (r : Bool) (skipped : ℕ) → place ≤ length s → (mark : Mark) → Marked InformationKind at (length s) mark
        → Same place r skipped (on_next (mark_next at mark) (marks_left steps)) (on_next (local_next at (step_of s at mark)) (places_left steps))
        (on_next (next_of (step_of s at mark)) (left steps))
    met_mark at place r skipped upto MarkEnd m = none_more place r skipped upto
    met_mark at place r skipped upto MarkBroken m = refl
    met_mark at place r skipped upto (Unknown n) m =
        let l = ltb place (length s) in
        let one : skipped + 1 + skipped_in (left steps n) ≡ skipped + suc (skipped_in (left steps n)) = omega arith in
        rest n place r (skipped + 1) upto
        ∙ ap (λ (k : ℕ). judged (cond l place (get_or (met (places_left steps n)) 0 (length s))) k (information_parts l r (left steps n))) one
    met_mark at place r skipped upto (Known t n) m =
        whether (eqb t 1)
        (λ a. rw a
        (whether (ltb place (length s)) (λ b. rw b refl)
        (λ b. rw b
        (let there : ltb at (length s) ≡ true = lt-ltb at (length s) (omega (arith, m.0, m.1)) in
        let i = information_at s at in
        (rw there at (rest n at r skipped (omega (arith, m.0, m.1))))
        ∙ sym (judged_also at _ (local i) (information_parts true r (left steps n)))))))
        (λ a. rw a
        (whether r (λ b. rw b refl)
        (λ b. rw b
        (rest n place true skipped upto ∙ sym (judged_also _ _ (remote (information_at s at)) (information_parts (ltb place (length s)) true (left steps n)))))))

  by_marks : (steps at place : ℕ) (r : Bool) (skipped : ℕ) → place ≤ length s
      → Same place r skipped (marks_left steps at) (places_left steps at) (left steps at)
  unfolding information_step walk
  by_marks zero at place r skipped upto = none_more place r skipped upto
  by_marks (suc steps) at place r skipped upto =
      met_mark steps (by_marks steps) at place r skipped upto (mark_at InformationKind s at) (mark_within InformationKind s at)

  pub judged_by_marks : judged_marks (length s) false 0 (marks_of InformationKind s) ≡ judged_information s
  unfolding judged_information information_walk local_place
  judged_by_marks =
      by_marks (length s) 0 (length s) false 0 (omega arith) ∙ rw (le-ltb (length s) (length s) (omega arith), zero-add (skipped_in (left (length s) 0)))

  -- what holds where so much of the body is left
  pub record Going (at place : ℕ) (r : Bool) (skipped : ℕ) : Type 0 where
    pub upto : place ≤ length s
    pub few : skipped ≤ at
    pub steps : ℕ
    pub enough : length s ≤ at + steps
    pub rest : judged_left place r skipped (places_left steps at) (left steps at) ≡ judged_information s

  -- it holds again behind a Remote, which is judged as the rest, and behind a TLV that is skipped, which is counted
  module _ (at place : ℕ) (r : Bool) (skipped : ℕ) (upto : place ≤ length s) (few : skipped ≤ at) (steps : ℕ) (enough : length s ≤ at + suc steps) where
    one_remote : (i : Information) (n : ℕ) → at < n
        → judged_left place false skipped (places_left steps n) (part (remote i) (left steps n)) ≡ judged_information s → Going n place true skipped
    one_remote i n a e =
        record {
          upto = upto;
          few = omega arith;
          steps = steps;
          enough = omega arith;
          rest = sym (judged_also _ _ (remote i) (information_parts (ltb place (length s)) true (left steps n))) ∙ e;
        }

    one_skipped : (n : ℕ) → at < n → judged_left place r skipped (over (places_left steps n)) (over (left steps n)) ≡ judged_information s → Going n place r (skipped + 1)
    one_skipped n a e =
        let l = ltb place (length s) in
        let one : skipped + 1 + skipped_in (left steps n) ≡ skipped + suc (skipped_in (left steps n)) = omega arith in
        record {
          upto = upto;
          few = omega arith;
          steps = steps;
          enough = omega arith;
          rest = ap (λ (k : ℕ). judged (cond l place (get_or (met (places_left steps n)) 0 (length s))) k (information_parts l r (left steps n))) one ∙ e;
        }

  -- ---- the Local that is found

  abbrev place_left : ℕ → ℕ → ℕ
  place_left steps at = get_or (met (places_left steps at)) 0 (length s)

  found_step : (steps at : ℕ) → ((n : ℕ) → local_at s (place_left steps n) ≡ local_in (met (left steps n))) → (x : InformationStep) → information_step s at ≡ x
      → local_at s (get_or (met (on_next (local_next at x) (places_left steps))) 0 (length s)) ≡ local_in (met (on_next (next_of x) (left steps)))
  found_step steps at go End e = none_held s
  found_step steps at go Broken e = none_held s
  found_step steps at go (Skip n) e = go n
  found_step steps at go (Local i n) e = local_held s at i n e
  found_step steps at go (Remote i n) e = go n

  found : (steps at : ℕ) → local_at s (place_left steps at) ≡ local_in (met (left steps at))
  unfolding walk
  found zero at = none_held s
  found (suc steps) at = found_step steps at (found steps) (information_step s at) refl

  -- what is held where the Local stands is the Local among the parts that the walk meets
  pub held_is_local : local_at s (local_place s) ≡ local_in (met (information_walk s))
  unfolding information_walk local_place
  held_is_local = found (length s) 0
