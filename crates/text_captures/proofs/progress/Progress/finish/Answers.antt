use Rattle.std.proofs.Common.{sym, ◌∙◌}
use Rattle.text_captures.proofs.Rows.{finishes}
use Rattle.text_captures.proofs.progress.Progress.finish.Goals as goal

pub returns : goal.returns
returns c = finishes _ _ _ (sym c.left_to_say.ensures ∙ c.in-Some.is) c.if-out-lt-ROW.false (rw c.number.ensures at c.put_row.ensures)
