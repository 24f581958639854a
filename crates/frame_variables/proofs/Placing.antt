-- What formed attributes are, and where the value of a descriptor is found among them.
use Prim.Native.Nat.{ℕ, ◌+◌, ◌≤◌, min}
use mathlib.Core.Path.{◌≡◌, refl, sym, ap, ◌∙◌}
use mathlib.Core.List.{List, [], ◌∷◌}
use mathlib.Core.Bool.{Bool, true, false, not, cond}
use Rattle.std.proofs.Common.{Ok, Err}
use Rattle.std.specs.Bool.{then_some}
use Rattle.std.specs.Option.{ok_or}
use native.Mathlib.Omega.{arith}
use borrow.Author.Tests.{leb-true, leb-false, eqb-true, ne_eqb}
use lib.Dec.{leb, eqb}
use lib.ListN.{length, take, drop, length-take, length-drop}
use lib.Seq.{take_all, drop-drop}
use Rattle.octets.proofs.Bools.{whether, never, and_l, and_r}
use Rattle.frame_body.specs.Variables.{Container, value, indication}
use Rattle.frame_variables.specs.declared.Place.{Place}
use Rattle.octets.specs.Tests.{every}
use Rattle.frame_variables.specs.Descriptors.{plain_descriptor, plain_descriptors}
use Rattle.frame_variables.specs.Attributes.{attributes_from, formed_pairs, distinct, widths, formed_attributes}
use Rattle.frame_variables.specs.Answers.{not_supported, lookup, container_length, most_asked, formed_answers, place_from, place_of, found, place_in}

-- what it says that attributes are in range
pub record InRange (ns vs : List ℕ) : Type 0 where
  pub few : length ns ≤ 128
  pub plain : formed_pairs ns ≡ true
  pub apart : distinct ns ≡ true
  pub just : widths ns ≡ length vs

pub held_parts : (ns vs : List ℕ) → formed_attributes ns vs ≡ true → InRange ns vs
unfolding formed_attributes
held_parts ns vs h =
    let few : leb (length ns) 128 ≡ true = search and_l in
    let just : eqb (widths ns) (length vs) ≡ true = search (and_l, and_r) in
    record { few = leb-true (length ns) 128 few; plain = search (and_l, and_r); apart = search (and_l, and_r); just = eqb-true (widths ns) (length vs) just }

-- what it says that what is asked and what is held are in range
pub record Formed (ns vs ds : List ℕ) : Type 0 where
  pub asked : plain_descriptors most_asked ds ≡ true
  pub held : formed_attributes ns vs ≡ true
  pub plain : every plain_descriptor ds ≡ true

pub formed_parts : (ns vs ds : List ℕ) → formed_answers ns vs ds ≡ true → Formed ns vs ds
unfolding formed_answers
formed_parts ns vs ds h = record { asked = and_l _ _ h; held = and_r (plain_descriptors most_asked ds) _ h; plain = search (and_l, and_r) }

-- a place among the values, and the container that is made of what stands there
pub record Placed (vs : List ℕ) (d : ℕ) (place : Place) (container : Container) : Type 0 where
  pub within : place.at + place.width ≤ length vs
  pub short : place.width ≤ 128
  pub answered : container ≡ cond (eqb place.width 0) (indication d not_supported) (value d (take place.width (drop place.at vs)))

-- the container has 4 octets and those of the value
pub placed_length : {vs : List ℕ} {d : ℕ} {place : Place} {container : Container} → Placed vs d place container → container_length container ≡ 4 + place.width
placed_length {place = place} p =
    ap container_length p.answered
    ∙ whether (eqb place.width 0)
    (λ t. rw t (omega (arith, eqb-true place.width 0 t)))
    (λ f. rw (f, length-take, length-drop) (omega (arith, p.within)))

-- from an octet of the values on
placed_from_lem : (vs : List ℕ) (d : ℕ) (ns : List ℕ) (at : ℕ) → formed_pairs ns ≡ true → at + widths ns ≡ length vs
    → Placed vs d (place_from at ns d) (lookup (attributes_from ns (drop at vs)) d)
placed_from_lem vs d [] at p e = record { within = omega arith; short = omega arith; answered = refl }
placed_from_lem vs d (x ∷ []) at p e = never p
placed_from_lem vs d (x ∷ w ∷ ns) at p e =
    let rest : formed_pairs ns ≡ true = search and_r in
    let least : leb 1 w ≡ true = search (and_l, and_r) in
    let most : leb w 128 ≡ true = search (and_l, and_r) in
    by (leb-true 1 w least) (leb-true w 128 most) (rw drop-drop (placed_from_lem vs d ns (at + w) rest (omega arith))) (eqb x d)
  where
    by : 1 ≤ w → w ≤ 128 → Placed vs d (place_from (at + w) ns d) (lookup (attributes_from ns (drop w (drop at vs))) d) → (b : Bool)
        → Placed vs d (cond b (record { at = at; width = w }) (place_from (at + w) ns d))
        (cond b (value d (take w (drop at vs))) (lookup (attributes_from ns (drop w (drop at vs))) d))
    by l m r true = record { within = omega arith; short = m; answered = rw (ne_eqb w 0 (λ z. omega arith)) }
    by l m r false = r

-- as many attributes are taken as there are, or 64
pub taken : (most : ℕ) (ns : List ℕ) → most ≡ min (length ns) 128 → take most ns ≡ take 128 ns
taken most ns e = whether (leb (length ns) 128)
    (λ t. let h : length ns ≤ 128 = leb-true (length ns) 128 t in rw (take_all 128 ns h, take_all most ns (omega arith)))
    (λ f. let h : most ≡ 128 = omega (arith, leb-false (length ns) 128 f) in rw h)

-- what the code looks up is what answers the descriptor
pub place_answers : (ns vs : List ℕ) → formed_attributes ns vs ≡ true → (d : ℕ) → Placed vs d (place_of ns d) (lookup (attributes_from ns vs) d)
unfolding place_of
place_answers ns vs h d =
    let f = held_parts ns vs h in
    rw (take_all 128 ns f.few) (placed_from_lem vs d ns 0 f.plain (omega (arith, f.just)))

-- nothing of a place is lost in what the code gives
pub place_again : (place : Place) → place_in (found place) ≡ place
place_again place = by (eqb place.width 0) refl
  where
    by : (b : Bool) → eqb place.width 0 ≡ b → place_in (cond b (Err place.at) (Ok place)) ≡ place
    by true t = ap (λ (w : ℕ). record { at = place.at; width = w }) (sym (eqb-true place.width 0 t))
    by false f = refl

-- how the code comes to it
pub then_found : (place : Place) → ok_or (then_some (not (eqb place.width 0)) place) place.at ≡ found place
then_found place = by (eqb place.width 0)
  where
    by : (b : Bool) → ok_or (then_some (not b) place) place.at ≡ cond b (Err place.at) (Ok place)
    by true = refl
    by false = refl
