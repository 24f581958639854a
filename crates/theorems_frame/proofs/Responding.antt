-- What answers descriptors: the one attribute that is held, or A1; and the first of them, as many as the size takes.
use Prim.Native.Nat.{ℕ, suc, ◌+◌, ◌-◌, ◌≤◌, min}
use mathlib.Core.Path.{◌≡◌, refl, ap, subst, ◌∙◌}
use mathlib.Core.List.{List, [], ◌∷◌}
use mathlib.Core.Bool.{true, false}
use mathlib.Core.Logic.{inl, inr, ⊎_elim}
use native.Mathlib.Omega.{arith}
use borrow.Author.Tests.{leb-true, leb-false, eqb-true, not-true, eq-eqb}
use lib.ListN.{drop}
use lib.Dec.{leb, eqb}
use Rattle.octets.specs.Layout.{body_start}
use Rattle.octets.proofs.Bools.{whether, by_cond, not_both, and_l, and_r, neither}
use Rattle.frame_body.specs.Variables.{Container, value, indication, container_step, container_walk, descriptor_step}
use Rattle.frame_tlvs.specs.Walk.{walk}
use Rattle.frame.specs.Frame.{header_answer, body_answer, decode}
use Rattle.frame_variables.specs.Attributes.{Attribute, attributes_from, held_in, distinct}
use Rattle.frame_variables.specs.Answers.{not_supported, lookup, container_length, answers, room_within, answers_within}
use Rattle.frame_writer.specs.Encode.{header_octets, encode}
use Rattle.theorems_frame.specs.Responding.{Among, holds, apart, First, rows}
use Rattle.theorems_frame.specs.Tables.{all_found, all_expected}

-- ---- the attribute that is held

-- a table has the descriptors of its attributes
among_holds : (table : List Attribute) (a : Attribute) → Among a table → holds table a.descriptor ≡ true
among_holds [] a m = absurd m
among_holds (b ∷ table) a (inl e) = rw (e, eq-eqb b.descriptor b.descriptor refl)
among_holds (b ∷ table) a (inr m) = whether (eqb b.descriptor a.descriptor) (λ t. rw t) (λ f. rw f (among_holds table a m))

-- where no two have one descriptor, an attribute is what answers its descriptor
pub lookup_held : (table : List Attribute) (a : Attribute) → apart table ≡ true → Among a table → lookup table a.descriptor ≡ value a.descriptor a.value
lookup_held [] a h m = absurd m
lookup_held (b ∷ table) a h (inl e) = rw (e, eq-eqb b.descriptor b.descriptor refl)
lookup_held (b ∷ table) a h (inr m) =
    let once : holds table b.descriptor ≡ false = not-true (holds table b.descriptor) (search and_l) in
    whether (eqb b.descriptor a.descriptor)
    (λ t. not_both (among_holds table a m) (subst (λ (d : ℕ). holds table d ≡ false) (eqb-true b.descriptor a.descriptor t) once))
    (λ f. rw f (lookup_held table a (search and_r) m))

-- where none has it, A1 answers
pub lookup_missing : (table : List Attribute) (d : ℕ) → holds table d ≡ false → lookup table d ≡ indication d not_supported
lookup_missing [] d h = refl
lookup_missing (a ∷ table) d h = let n = neither (eqb a.descriptor d) (holds table d) h in rw n.0 (lookup_missing table d n.1)

-- ---- the same of attributes that are lent as numbers

numbers_hold : (ns vs : List ℕ) (d : ℕ) → holds (attributes_from ns vs) d ≡ held_in d ns
numbers_hold [] vs d = refl
numbers_hold (x ∷ []) vs d = refl
numbers_hold (x ∷ w ∷ ns) vs d = rw (numbers_hold ns (drop w vs) d)

numbers_apart : (ns vs : List ℕ) → apart (attributes_from ns vs) ≡ distinct ns
numbers_apart [] vs = refl
numbers_apart (x ∷ []) vs = refl
numbers_apart (x ∷ w ∷ ns) vs = rw (numbers_hold ns (drop w vs) x, numbers_apart ns (drop w vs))

module _ (ns vs : List ℕ) where
  pub numbers_held : (a : Attribute) → distinct ns ≡ true → Among a (attributes_from ns vs) → lookup (attributes_from ns vs) a.descriptor ≡ value a.descriptor a.value
  numbers_held a h m = lookup_held (attributes_from ns vs) a (numbers_apart ns vs ∙ h) m

  pub numbers_missing : (d : ℕ) → held_in d ns ≡ false → lookup (attributes_from ns vs) d ≡ indication d not_supported
  numbers_missing d h = lookup_missing (attributes_from ns vs) d (numbers_hold ns vs d ∙ h)

-- ---- the first descriptors

answers_first : (room most : ℕ) → room ≡ most - (body_start + 4) → (table : List Attribute) (ds : List ℕ) → First most table ds (answers room table ds)
answers_first room most e table [] = record { count = 0; upto = omega arith; those = refl; within = omega arith; full = inl refl }
answers_first room most e table (d ∷ ds) =
    let c = container_length (lookup table d) in
    by_cond (First most table (d ∷ ds)) (leb c room)
    (λ t.
    let l = leb-true c room t in
    let r = answers_first (room - c) (most - c) (omega arith) table ds in
    record {
      count = suc r.count;
      upto = omega (arith, r.upto);
      those = ap (λ (cs : List Container). lookup table d ∷ cs) r.those;
      within = omega (arith, r.within);
      full = ⊎_elim (λ w. inl (ap suc w)) (λ w. inr (omega arith)) r.full;
    })
    (λ f. record { count = 0; upto = omega arith; those = refl; within = omega arith; full = inr (omega (arith, leb-false c room f)) })

-- a response answers the first descriptors, as many as the smaller maximum size takes, and 1,518 octets
pub answers_prefix : (size : ℕ) (ns vs ds : List ℕ) → First (min size 1518) (attributes_from ns vs) ds (answers_within size ns vs ds)
answers_prefix size ns vs ds = answers_first (room_within size) (min size 1518) refl (attributes_from ns vs) ds

-- a size of a sound end is at most that
pub answers_prefix_sized : (size : ℕ) (ns vs ds : List ℕ) → size ≤ 1518 → First size (attributes_from ns vs) ds (answers_within size ns vs ds)
answers_prefix_sized size ns vs ds h = answers_first (room_within size) size (omega arith) (attributes_from ns vs) ds

-- ---- examples

pub responses_hold : all_found rows ≡ all_expected rows
unfolding decode header_answer body_answer encode header_octets container_step container_walk descriptor_step walk
responses_hold = refl
