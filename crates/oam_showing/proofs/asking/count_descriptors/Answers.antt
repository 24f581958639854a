use Rattle.std.proofs.Common.{◌+◌, ◌*◌, ◌≡◌, ◌∙◌, sym, ap, arith, length, refl}
use borrow.Author.Tests.{ne_eqb}
use Rattle.oam_showing.proofs.Asked.{all_asked, none_asked, past_asked, next_asked}
use Rattle.oam_showing.proofs.Triples.{branch}
use Rattle.oam_showing.proofs.asking.count_descriptors.Goals as goal

pub loop-branch-init : goal.loop-branch-init
loop-branch-init c = (refl, omega (arith, ap length (all_asked c.args.body.now)))

pub returns-then-branch-eq0 : goal.returns-then-branch-eq0
returns-then-branch-eq0 c =
    let l = c.loop-branch in
    let s = c.args.body.now in
    let b = branch s _ c.as_chunks.ensures.front l.count l.branch-index l.invariant.0 (omega (arith, c.as_chunks.ensures.front_len)) in
    omega (arith, l.invariant.1, ap length (none_asked s (3 * l.count) (sym b ∙ c.if-branch-eq0.true)))

pub loop-branch-preserved : goal.loop-branch-preserved
loop-branch-preserved c =
    let l = c.loop-branch in
    let s = c.args.body.now in
    let b = branch s _ c.as_chunks.ensures.front l.count l.branch-index l.invariant.0 (omega (arith, c.as_chunks.ensures.front_len)) in
    let more = next_asked s (3 * l.count) (omega (arith, l.invariant.0, c.as_chunks.ensures.front_len)) (rw b at (ne_eqb _ _ c.if-branch-eq0.false)) in
    let e : 3 * l.count + 3 ≡ 3 * (l.count + 1) = omega arith in
    (omega (arith, l.invariant.0), omega (arith, l.invariant.1, ap length (rw e at more)))

pub returns : goal.returns
returns c =
    let l = c.loop-branch in
    omega (arith, l.invariant.1, ap length (past_asked c.args.body.now (3 * l.count) (omega (arith, l.invariant.0, c.as_chunks.ensures.front_len))))
