use Rattle.std.proofs.Common.{arith}
use Rattle.std.proofs.lemmas.Grind.{common_steps}
use Rattle.frame_tlvs.proofs.MarkItems.{ended, broke, gives}
use Rattle.frame_tlvs.proofs.marking.TlvMarksIterator.next.Goals as goal

pub returns-in-None-clause-steps : goal.returns-in-None-clause-steps
returns-in-None-clause-steps c = let none = ended c.args.self.now (rw c.in-None.is at c.mark_at.ensures.found) in (none, none)

pub returns-in-Some-Err-clause-steps : goal.returns-in-Some-Err-clause-steps
returns-in-Some-Err-clause-steps c =
    broke c.args.self.now _ (rw (c.in-Some-Err.is, c.in-Some-Err.field-0-is) at c.mark_at.ensures.found)
    (rw (c.in-Some-Err.is, c.in-Some-Err.field-0-is) at c.mark_at.ensures.refusal)

pub returns-in-Some-Ok-clause-steps : goal.returns-in-Some-Ok-clause-steps
returns-in-Some-Ok-clause-steps c = gives c.args.self.now _ _ (rw (c.in-Some-Ok.is, c.in-Some-Ok.field-0-is) at c.mark_at.ensures.found)

pub returns-in-Some-Err-clause-goes : goal.returns-in-Some-Err-clause-goes
returns-in-Some-Err-clause-goes c = let e = returns-in-Some-Err-clause-steps c in grind (arith, common_steps)

pub returns-in-Some-Ok-clause-goes : goal.returns-in-Some-Ok-clause-goes
returns-in-Some-Ok-clause-goes c = let e = returns-in-Some-Ok-clause-steps c in grind (arith, common_steps)
