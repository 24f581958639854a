use Rattle.std.proofs.Common.{◌≡◌, ◌+◌, ◌*◌, ap, sym, ◌∙◌, subst, arith, ℕ, List, length, get_or, eqb, ◌/◌, ◌≤◌}
use borrow.Author.Tests.{ne_eqb, le-leb, eqb-true, eqb-false}
use Rattle.std.proofs.lemmas.List.{get_or-drop}
use Rattle.frame_body.specs.Lists.{Descriptors}
use Rattle.frame_body.proofs.Strides.{Strode, begun, arrived, branch_at, descriptors_end, descriptor_stride, descriptors_rest}
use Rattle.frame_body.proofs.lists.descriptors_are_whole.Goals as goal

pub loop-branch-init : goal.loop-branch-init
loop-branch-init c = begun Descriptors _

pub returns-then-branch-eq0 : goal.returns-then-branch-eq0
returns-then-branch-eq0 c =
    let l = c.loop-branch in
    let e = c.as_chunks.ensures in
    let at = branch_at c.args.body.now _ e.front l.branch-index (omega (arith, e.front_len, c.loop-branch-test.true)) in
    descriptors_end c.args.body.now (3 * l.branch-index) l.invariant (omega (arith, e.front_len, c.loop-branch-test.true)) (sym at ∙ c.if-branch-eq0.true)

pub loop-branch-preserved : goal.loop-branch-preserved
loop-branch-preserved c =
    let l = c.loop-branch in
    let e = c.as_chunks.ensures in
    let s = c.args.body.now in
    let at = branch_at s _ e.front l.branch-index (omega (arith, e.front_len, c.loop-branch-test.true)) in
    let n : 3 * l.branch-index + 3 ≡ 3 * (l.branch-index + 1) = omega arith in
    subst (Strode Descriptors s) n
    (descriptor_stride s (3 * l.branch-index) l.invariant (omega (arith, e.front_len, c.loop-branch-test.true)) (ne_eqb _ _ (λ z. c.if-branch-eq0.false (at ∙ z))))

pub returns-then-is_empty : goal.returns-then-is_empty
returns-then-is_empty c =
    let l = c.loop-branch in
    let e = c.as_chunks.ensures in
    let s = c.args.body.now in
    let none = eqb-true (length c.as_chunks.result.1.now) 0 (sym c.is_empty.ensures ∙ c.if-is_empty.true) in
    let all : length s ≤ 3 * l.branch-index = omega (arith, none, e.front_len, e.back_len, c.loop-branch-test.false) in
    let at : 3 * l.branch-index ≤ length s = omega (arith, e.front_len, l.auto.branch-index-end) in
    c.if-is_empty.true ∙ sym (le-leb _ _ at) ∙ arrived Descriptors s (3 * l.branch-index) l.invariant all

pub returns-else-is_empty : goal.returns-else-is_empty
returns-else-is_empty c =
    let l = c.loop-branch in
    let e = c.as_chunks.ensures in
    let s = c.args.body.now in
    let some = eqb-false (length c.as_chunks.result.1.now) 0 (sym c.is_empty.ensures ∙ c.if-is_empty.false) in
    let n : length s / 3 * 3 + 0 ≡ 3 * l.branch-index = omega (arith, e.front_len, c.loop-branch-test.false, l.auto.branch-index-end) in
    let first = ap (λ (r : List ℕ). get_or r 0 0) e.back ∙ get_or-drop (length s / 3 * 3) s 0 0 ∙ ap (λ (k : ℕ). get_or s k 0) n in
    ap (λ (k : ℕ). eqb k 0) first
    ∙ descriptors_rest s (3 * l.branch-index) l.invariant (omega (arith, some, n, e.back_len)) (omega (arith, n))
