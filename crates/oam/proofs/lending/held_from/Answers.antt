use borrow.Author.Tests.{eq-eqb, ne_eqb}
use Rattle.oam.specs.Lending.{held_from}
use Rattle.oam.proofs.LentNumbers.{seven}
use Rattle.oam.proofs.lending.held_from.Goals as goal

pub returns-then-numbers-eq0 : goal.returns-then-numbers-eq0
unfolding held_from
returns-then-numbers-eq0 c = simp (eq-eqb _ _ c.if-numbers-eq0.true)

pub information_of-requires : goal.information_of-requires
information_of-requires c = seven c.args.numbers.now c.requires c.if-numbers-eq0.false

pub returns : goal.returns
unfolding held_from
returns c = simp (ne_eqb _ _ c.if-numbers-eq0.false, c.information_of.ensures)
