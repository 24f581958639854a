use Rattle.std.proofs.Common.{arith, ◌∙◌, sym}
use Rattle.octets.proofs.Stores.{stored_all, none_past}
use Rattle.octets.proofs.storing.put_octets.Goals as goal

pub returns-after-loop-i : goal.returns-after-loop-i
returns-after-loop-i c = let l = c.loop-i in sym (l.invariant.1 ∙ stored_all l.out _ l.i _ (omega arith) (omega arith))

pub returns-else-at-out : goal.returns-else-at-out
returns-else-at-out c = sym (none_past c.args.out.now c.args.at c.args.octets.now c.if-at-out.false)
