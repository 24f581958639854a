use Rattle.std.proofs.Common.{sym}
use Rattle.frame_tlvs.proofs.Marks.{mark_end}
use Rattle.frame_tlvs.proofs.tlvs.mark_at.Goals as goal

pub returns-then-body-at-clause-found : goal.returns-then-body-at-clause-found
returns-then-body-at-clause-found c = let a = c.args in sym (mark_end a.kind a.body.now a.at c.if-body-at.true)
