use Prim.Native.Nat.{ℕ, ◌+◌, ◌-◌, ◌≤◌}
use mathlib.Core.Path.{◌≡◌, sym, ap, ◌∙◌}
use mathlib.Core.List.{List, [], ◌∷◌, ◌++◌, append-nil}
use mathlib.Core.Bool.{true}
use native.Mathlib.Omega.{arith}
use borrow.Author.Tests.{eqb-true}
use lib.ListN.{length, take, drop, length-take, length-drop}
use lib.Seq.{sets, length-take-le}
use lib.Dec.{eqb}
use Rattle.octets.specs.Octets.{oct}
use Rattle.octets.proofs.Bools.{whether}
use Rattle.frame_body.specs.Variables.{Container}
use Rattle.frame_variables.specs.declared.Place.{Place}
use Rattle.frame_variables.specs.Attributes.{attributes_from, formed_attributes}
use Rattle.frame_variables.specs.Answers.{lookup, answers, width_octet, place_of, fitted, answer_octets, some_octets}
use Rattle.frame_variables.proofs.Placing.{Placed, place_answers}
use Rattle.frame_variables.proofs.Answering.{no_octets, none_octets, octets_are, answers_turn}
use Rattle.std.specs.Prelude.{Some, None}
use Rattle.frame_writer.specs.Encode.{container_octets, joined}
use Rattle.frame_writer.proofs.responses.put_answer.Goals as goal

-- the octets of the container that is made of what stands at a place
placed_octets : {vs : List ℕ} {d : ℕ} {place : Place} {container : Container} → Placed vs d place container
    → container_octets container ≡ oct 3 d ++ (oct 1 (width_octet place.width) ++ take place.width (drop place.at vs))
placed_octets {vs} {d} {place} p =
    let w = place.width in
    let x = drop place.at vs in
    let long : length (take w x) ≡ w = length-take-le w x (omega (arith, p.within, length-drop place.at vs)) in
    ap container_octets p.answered ∙ whether (eqb w 0) (λ t. rw (t, eqb-true w 0 t)) (λ f. rw (f, long))

-- where the value stands, and what is stored of it, by what the calls give
module _ (left : ℕ) (ns vs : List ℕ) (d : ℕ) (h : formed_attributes ns vs ≡ true) {place : Place} (p : place ≡ place_of ns d) where
  placed : Placed vs d place (lookup (attributes_from ns vs) d)
  placed = rw p (place_answers ns vs h d)

  within : place.at + place.width ≤ length vs
  within = placed.within

  counted : fitted left place.width ≡ answer_octets left ns d
  unfolding answer_octets
  counted = rw p

  off : None ≡ some_octets (fitted left place.width) → answers left (attributes_from ns vs) (d ∷ []) ≡ []
  off e = (answers_turn ns vs h left d).off (sym counted ∙ none_octets (fitted left place.width) e)

  fits : {k : ℕ} → Some k ≡ some_octets (fitted left place.width)
      → (k ≡ 4 + place.width)
      × (oct 3 d ++ (oct 1 (width_octet place.width) ++ take (place.at + place.width - place.at) (drop place.at vs))
      ≡ joined container_octets (answers left (attributes_from ns vs) (d ∷ [])))
  fits {k} e =
      let a = octets_are (fitted left place.width) k e in
      let t = (answers_turn ns vs h left d).fits (λ z. a.1 (counted ∙ z)) in
      let z : place.at + place.width - place.at ≡ place.width = omega arith in
      (a.0 ∙ counted ∙ t.1 ∙ rw p, rw (z, t.0, append-nil) (sym (placed_octets placed)))

pub returns-then-left-lt4-clause-octets : goal.returns-then-left-lt4-clause-octets
returns-then-left-lt4-clause-octets c = rw (no_octets c.args.left c.args.attributes.now c.args.descriptor c.if-left-lt4.true)

pub returns-in_err-octets : goal.returns-in_err-octets
returns-in_err-octets c =
    let e = sym c.in_err-octets.was ∙ c.fitted.ensures in
    record {
      octets = c.from_residual.ensures ∙ e ∙ ap some_octets (counted _ _ _ _ c.requires.0 c.place_of-place.ensures);
      output = rw (off _ _ _ _ c.requires.0 c.place_of-place.ensures e);
    }

pub overflow_add-value : goal.overflow_add-value
overflow_add-value c = omega (arith, within c.args.left _ _ _ c.requires.0 c.place_of-place.ensures)

pub slice_bounds-value-end : goal.slice_bounds-value-end
slice_bounds-value-end c = omega (arith, within c.args.left _ _ _ c.requires.0 c.place_of-place.ensures)

pub put_container-requires : goal.put_container-requires
put_container-requires c =
    let p = c.place_of-place.result in
    let e = sym c.in_ok-octets.was ∙ c.fitted.ensures in
    let f = fits _ _ _ _ c.requires.0 c.place_of-place.ensures e in
    let same = (octets_are (fitted c.args.left p.width) c.in_ok-octets.octets e).0 ∙ counted _ _ _ _ c.requires.0 c.place_of-place.ensures in
    omega (arith, f.0, same, c.requires.1, length-take (p.at + p.width - p.at) (drop p.at c.args.values.now))

pub returns : goal.returns
returns c =
    let e = sym c.in_ok-octets.was ∙ c.fitted.ensures in
    record {
      octets = e ∙ ap some_octets (counted _ _ _ _ c.requires.0 c.place_of-place.ensures);
      output = c.put_container.ensures
          ∙ rw c.width_octet-octet.ensures (ap (sets c.args.out.now c.args.at) (fits _ _ _ _ c.requires.0 c.place_of-place.ensures e).1);
    }
