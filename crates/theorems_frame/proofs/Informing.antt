-- The TLVs of an Information body, written and read.
use Prim.Native.Nat.{ℕ, ◌+◌, ◌<◌, ◌≤◌}
use mathlib.Core.Path.{◌≡◌, refl, sym, ap, ◌∙◌}
use mathlib.Core.List.{List, [], ◌∷◌, ◌++◌}
use mathlib.Core.Bool.{Bool, true, false, cond, ◌||◌}
use native.Mathlib.Omega.{arith}
use borrow.Author.Tests.{eqb-true, eqb-false}
use lib.ListN.{length, drop}
use lib.Dec.{eqb}
use Rattle.frame_tlvs.specs.Tlvs.{information_length, mark_at, Mark, End, Broken, Unknown, Known}
use Rattle.octets.specs.Octets.{fields_at, Octets, octs, fit}
use Rattle.frame_tlvs.specs.Walk.{Next, has, parts}
use Rattle.frame_body.specs.Information.{information_of, information_at, step_of, information_step, next_of, information_parts, information_widths, information_values, InformationStep, Local, Remote}
use Rattle.frame_body.specs.declared.InformationPart.{InformationPart}
use Rattle.frame_body.specs.declared.InformationPart.TheVariants.{Local as local, Remote as remote}
use Rattle.frame_tlvs.specs.declared.Kind.TheVariants.{Information as InformationKind}
use Rattle.frame_body.specs.declared.Information.{Information}
use Rattle.octets.proofs.Bools.{by_cond, never, and_l, and_r, one_of}
use Rattle.frame_tlvs.proofs.Marks.{Marked, mark_within, information_16}
use Rattle.frame_writer.specs.Encode.{information_octets, part_octets}
use Rattle.octets.specs.Tests.{every}
use Rattle.frame_writer.specs.Plain.{plain_information, plain_parts}
use Rattle.frame_writer.proofs.Lengths.{length_information, length_part}
use Rattle.octets.proofs.Numbers.{fields_fit}
use Rattle.frame_writer.proofs.Walking.{these, Each, Shown, Codes}
use Rattle.theorems_frame.proofs.Marking.{tlv_octets, mark_stop, tlv_read, OnKnown, Stands, mark_again}

-- each field of a part within its width
abbrev pub fit_part : InformationPart → Bool
fit_part (local i) = fit information_widths (information_values i)
fit_part (remote i) = fit information_widths (information_values i)

-- the fields stand in the order of their widths
fields : (s : List ℕ) (at : ℕ) → fields_at information_widths s (at + 2) ≡ information_values (information_at s at)
unfolding information_at
fields s at = refl

module _ (s : List ℕ) where
  abbrev next : ℕ → Next InformationPart
  next at = next_of (information_step s at)

  -- the step where the TLV of a known type was written
  step_read : (at t : ℕ) (i : Information) (y : List ℕ) → 0 < t → t < 256 → information_length t ≡ 16 → fit information_widths (information_values i) ≡ true
      → drop at s ≡ information_octets t i ++ y → information_step s at ≡ cond (eqb t 1) (Local i (at + 16)) (Remote i (at + 16))
  unfolding information_step information_octets
  step_read at t i y l u long f e =
      let e' : drop at s ≡ tlv_octets InformationKind t information_widths (information_values i) ++ y = rw long e in
      let r = tlv_read InformationKind t information_widths (information_values i) s at y l u (omega arith) long refl f e' in
      let found : information_at s at ≡ i = ap information_of (sym (fields s at) ∙ r.1) in
      rw (r.0, found, long)

  -- a Local or a Remote that was written is met
  meets : (at : ℕ) (p : InformationPart) (y : List ℕ) → fit_part p ≡ true → drop at s ≡ part_octets p ++ y → next at ≡ has p (at + length (part_octets p))
  meets at (local i) y f e = rw length_information (ap next_of (step_read at 1 i y (omega arith) (omega arith) refl f e))
  meets at (remote i) y f e = rw length_information (ap next_of (step_read at 2 i y (omega arith) (omega arith) refl f e))

  -- what is read where a TLV is marked
  shows : Octets s → (at : ℕ) (mark : Mark) → Marked InformationKind at (length s) mark → OnKnown (Stands InformationKind s at) mark
      → Each (Shown part_octets fit_part s at) Unit (next_of (step_of s at mark))
  unfolding information_octets
  shows o at End m h = tt
  shows o at Broken m h = tt
  shows o at (Unknown n) m h = tt
  shows o at (Known t n) m h =
      let upto : t ≤ 2 =
      by_cond (λ (k : ℕ). 0 < k → t ≤ 2) (eqb t 1 || eqb t 2)
      (λ e _. one_of (eqb t 1) (eqb t 2) (λ u. omega (arith, eqb-true t 1 u)) (λ u. omega (arith, eqb-true t 2 u)) e)
      (λ _ z. absurd (omega arith))
      m.4 in
      let long : information_length t ≡ 16 = information_16 t m.4 in
      let stands : (u : ℕ) → t ≡ u → drop at s ≡ information_octets u (information_at s at) ++ drop n s =
      λ u e. h information_widths long ∙ (λ j. octs (1 ∷ 1 ∷ information_widths) (e j ∷ long j ∷ fields s at j) ++ drop n s) in
      let fits : fit information_widths (information_values (information_at s at)) ≡ true =
      ap (fit information_widths) (sym (fields s at)) ∙ fields_fit s o information_widths (at + 2) in
      by_cond (λ (x : InformationStep). Each (Shown part_octets fit_part s at) Unit (next_of x)) (eqb t 1)
      (λ e. (stands 1 (eqb-true t 1 e), fits)) (λ e. let e' = eqb-false t 1 e in (stands 2 (omega arith), fits))

  -- Information TLVs are met where they were written, and stand where they are met
  pub information_codes : Codes part_octets fit_part Unit s next
  unfolding information_step
  information_codes =
      record {
        some = λ p _. omega (arith, length_part p);
        meets = meets;
        stops = λ at h. ap (λ (x : Mark). next_of (step_of s at x)) (mark_stop InformationKind s at h);
        shows = λ o at. shows o at (mark_at InformationKind s at) (mark_within InformationKind s at) (mark_again InformationKind s at o);
      }

-- ---- the parts of a body in plain form

-- their fields fit
fit_information : (i : Information) → plain_information i ≡ true → fit information_widths (information_values i) ≡ true
unfolding plain_information
fit_information i h = search and_r

-- they fit, are at most two, and no second Local or Remote is among them
pub record Parts (ps : List InformationPart) : Type 0 where
  pub fits : every fit_part ps ≡ true
  pub few : length ps ≤ 2
  pub whole : information_parts false false (these ps) ≡ parts ps

-- what the plain form says of them
pub plain_parts_lem : (ps : List InformationPart) → plain_parts ps ≡ true → Parts ps
plain_parts_lem [] h = record { fits = refl; few = omega arith; whole = refl }
plain_parts_lem (remote i ∷ ps) h = never h
plain_parts_lem (local i ∷ []) h = record { fits = rw (fit_information i h); few = omega arith; whole = refl }
plain_parts_lem (local i ∷ local j ∷ ps) h = never h
plain_parts_lem (local i ∷ remote j ∷ []) h =
    let a : plain_information i ≡ true = search and_l in
    let b : plain_information j ≡ true = search and_r in
    record { fits = rw (fit_information i a, fit_information j b); few = omega arith; whole = refl }
plain_parts_lem (local i ∷ remote j ∷ p ∷ ps) h = never h
