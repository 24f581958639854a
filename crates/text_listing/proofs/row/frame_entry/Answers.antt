use Rattle.std.proofs.Common.{sym, ◌∙◌, ap}
use Rattle.frame.specs.Judgement.{as_judgement}
use Rattle.text_listing.proofs.Entries.{entry_refused, entry_accepted}
use Rattle.text_listing.proofs.row.frame_entry.Goals as goal

pub returns-in-Ok : goal.returns-in-Ok
returns-in-Ok c = rw c.header_of-header.ensures (entry_accepted c.args.frame.now _ _ (sym c.judgement_of.ensures ∙ ap as_judgement c.in-Ok.is))

pub returns-in-Err : goal.returns-in-Err
returns-in-Err c = c.from.ensures ∙ entry_refused c.args.frame.now _ (sym c.judgement_of.ensures ∙ ap as_judgement c.in-Err.is)
