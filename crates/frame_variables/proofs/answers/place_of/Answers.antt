use Rattle.std.proofs.Common.{arith, refl, sym, ap, ◌∙◌, ◌≡◌, List, ℕ, Option, Err, take}
use Rattle.std.specs.Option.{ok_or}
use borrow.Author.Tests.{eq-eqb, ne_eqb}
use Rattle.frame_variables.specs.Answers.{place_from, place_of, found}
use Rattle.frame_variables.specs.declared.Place.{Place}
use Rattle.frame_variables.proofs.Pairs.{pair_at, after_last}
use Rattle.frame_variables.proofs.Placing.{taken, then_found}
use Rattle.frame_variables.proofs.answers.place_of.Goals as goal

pub returns-then-held-descriptor : goal.returns-then-held-descriptor
unfolding place_of
returns-then-held-descriptor c =
    let l = c.loop-held in
    let e = c.as_chunks.ensures in
    let turn = rw (pair_at _ _ e.front l.held-index (omega (arith, e.front_len, c.loop-held-test.true)), eq-eqb _ _ c.if-held-descriptor.true) at l.invariant.1 in
    c.ok_or.ensures.value ∙ ap (λ (o : Option Place). ok_or o l.at) c.then_some.ensures ∙ then_found _ ∙ ap found (turn ∙ ap (λ (x : List ℕ). place_from 0 x c.args.descriptor) (taken _ c.args.attributes.now c.min-most.ensures))

pub loop-held-preserved : goal.loop-held-preserved
loop-held-preserved c =
    let l = c.loop-held in
    let e = c.as_chunks.ensures in
    let i = l.held-index in
    let turn = rw (pair_at _ _ e.front i (omega (arith, e.front_len, c.loop-held-test.true)), ne_eqb _ _ c.if-held-descriptor.false) at l.invariant.1 in
    (omega (arith, l.invariant.0), turn)

pub returns : goal.returns
unfolding place_of
returns c = let l = c.loop-held in
    let e = c.as_chunks.ensures in
    sym (after_last (λ (x : List ℕ). found (place_from l.at x c.args.descriptor) ≡ Err l.at) refl (λ x. refl) (take c.min-most.result c.args.attributes.now) l.held-index (omega (arith, e.front_len, c.loop-held-test.false)))
    ∙ ap found (l.invariant.1 ∙ ap (λ (x : List ℕ). place_from 0 x c.args.descriptor) (taken _ c.args.attributes.now c.min-most.ensures))
