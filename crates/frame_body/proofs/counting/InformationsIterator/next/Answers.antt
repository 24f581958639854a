use Rattle.std.proofs.Common.{refl, arith}
use Rattle.std.proofs.lemmas.Grind.{common_steps}
use Rattle.frame_body.proofs.Items.{counted, ended, broke, gives, skips, keeps, stands, stands_skipping, stands_behind}
use Rattle.frame_body.proofs.counting.InformationsIterator.next.Goals as goal

pub returns-in-None-clause-steps : goal.returns-in-None-clause-steps
returns-in-None-clause-steps c =
    let e = c.args.self.now in
    let x = rw c.in-None.is at c.information_step.ensures.found in
    let none = ended e x in
    ((none, none), refl, counted e.body.now e.cursor _ x, stands e _ x)

pub returns-in-Some-Err-clause-steps : goal.returns-in-Some-Err-clause-steps
returns-in-Some-Err-clause-steps c =
    let e = c.args.self.now in
    let x = rw (c.in-Some-Err.is, c.in-Some-Err.field-0-is) at c.information_step.ensures.found in
    let broken = rw (c.in-Some-Err.is, c.in-Some-Err.field-0-is) at c.information_step.ensures.refusal in
    (broke e _ x broken, refl, counted e.body.now e.cursor _ x, stands e _ x)

pub returns-then-is_none-clause-steps : goal.returns-then-is_none-clause-steps
returns-then-is_none-clause-steps c =
    let e = c.args.self.now in
    let x = rw (c.in-Some-Ok.is, c.in-Some-Ok.field-0-is) at c.information_step.ensures.found in
    let none = rw c.if-is_none.true at c.is_none.ensures in
    (gives e _ _ x, refl, skips e _ _ _ x none c.more-cursor.ensures, stands_skipping e _ _ _ x none c.more-cursor.ensures)

pub returns-else-is_none-clause-steps : goal.returns-else-is_none-clause-steps
returns-else-is_none-clause-steps c =
    let e = c.args.self.now in
    let x = rw (c.in-Some-Ok.is, c.in-Some-Ok.field-0-is) at c.information_step.ensures.found in
    let some = rw c.if-is_none.false at c.is_none.ensures in
    (gives e _ _ x, refl, keeps e _ _ x some, stands_behind e _ _ x some)

pub returns-in-Some-Err-clause-goes : goal.returns-in-Some-Err-clause-goes
returns-in-Some-Err-clause-goes c = let e = (returns-in-Some-Err-clause-steps c).0 in grind (arith, common_steps)

pub returns-then-is_none-clause-goes : goal.returns-then-is_none-clause-goes
returns-then-is_none-clause-goes c = let e = (returns-then-is_none-clause-steps c).0 in grind (arith, common_steps)

pub returns-else-is_none-clause-goes : goal.returns-else-is_none-clause-goes
returns-else-is_none-clause-goes c = let e = (returns-else-is_none-clause-steps c).0 in grind (arith, common_steps)
