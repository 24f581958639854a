use mathlib.Core.Path.{sym, ap}
use native.Mathlib.Omega.{arith}
use borrow.Author.Tests.{eq-eqb, ne_eqb}
use lib.ListN.{length, length-drop}
use Rattle.oam_showing.proofs.Untouched.{untouched}
use Rattle.oam_showing.proofs.Asked.{asking_refused, asking_accepted, judged_length}
use Rattle.oam_showing.proofs.asking.read_descriptors.Goals as goal

pub bounds-frame-17 : goal.bounds-frame-17
bounds-frame-17 c = omega (arith, (judged_length c.args.frame.now _ _ (sym (rw c.in-Ok.is at c.judgement_of.ensures))).0)

pub returns-then-frame-ne2 : goal.returns-then-frame-ne2
returns-then-frame-ne2 c =
    rw (asking_accepted _ _ _ _ (sym (rw c.in-Ok.is at c.judgement_of.ensures)), ne_eqb _ _ c.if-frame-ne2.true) untouched

pub show_descriptors-requires : goal.show_descriptors-requires
show_descriptors-requires c = let f = c.args.frame.now in
    omega (arith, (judged_length f _ _ (sym (rw c.in-Ok.is at c.judgement_of.ensures))).1, ap length c.body.ensures, length-drop 18 f)

pub returns-in-Err : goal.returns-in-Err
returns-in-Err c = rw (asking_refused _ _ _ (sym (rw c.in-Err.is at c.judgement_of.ensures)), c.from.ensures, c.number.ensures) untouched

pub returns-else-frame-ne2 : goal.returns-else-frame-ne2
returns-else-frame-ne2 c =
    rw (asking_accepted _ _ _ _ (sym (rw c.in-Ok.is at c.judgement_of.ensures)), eq-eqb _ _ c.if-frame-ne2.false, ← c.body.ensures)
    c.show_descriptors.ensures
