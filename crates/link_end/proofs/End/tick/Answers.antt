use Rattle.std.proofs.Common.{sym, ◌∙◌}
use Rattle.link_end.proofs.DuesLaws.{kept_lem}
use Rattle.link_end.proofs.End.tick.Goals as goal

pub returns-else-is_losing : goal.returns-else-is_losing
returns-else-is_losing c = let n = c.count-standing-else-is_losing.ensures in
    rw (c.owe_octet.ensures, n.1, n.0, c.closes-due.ensures) (kept_lem c.args.self.now (sym c.is_losing.ensures ∙ c.if-is_losing.false))
