use Rattle.std.proofs.Common.{sym, ◌∙◌}
use Rattle.text_listing.proofs.Finishing.{finishes, finishes_none}
use Rattle.text_listing.proofs.feeding.Progress.finish.Goals as goal

pub returns-then-not-has_begun : goal.returns-then-not-has_begun
returns-then-not-has_begun c = finishes_none _ _ _ (sym c.has_begun.ensures ∙ c.if-not-has_begun.true)

pub returns : goal.returns
returns c = finishes _ _ _ (sym c.has_begun.ensures ∙ c.if-not-has_begun.false) c.if-out-lt-ROW.false c.store_present_row.ensures
