use Rattle.std.proofs.Common.{arith, refl, ◌≡◌, List, ℕ}
use Rattle.frame_variables.specs.Attributes.{widths}
use Rattle.frame_variables.proofs.Pairs.{pair_at, after_last}
use Rattle.frame_variables.proofs.attributes.widths.Goals as goal

pub loop-width-preserved : goal.loop-width-preserved
loop-width-preserved c =
    let l = c.loop-width in
    let e = c.as_chunks.ensures in
    let turn = rw (pair_at c.args.attributes.now _ e.front l.width-index (omega (arith, e.front_len))) at l.invariant.0 in
    (omega (arith, turn), omega (arith, l.invariant.1))

pub returns : goal.returns
returns c = let l = c.loop-width in
    omega (arith, l.invariant.0, after_last (λ (x : List ℕ). widths x ≡ 0) refl (λ x. refl) c.args.attributes.now l.width-index (omega (arith, c.as_chunks.ensures.front_len)))
