use Rattle.std.proofs.Common.{rules, sym}
use Rattle.link_end.proofs.Hears.{says_refusal, says_heard}
use Rattle.link_end.proofs.hearing.hear.Goals as goal

pub returns-in_err-accepted : goal.returns-in_err-accepted
returns-in_err-accepted c =
    let h = says_refusal c.args.frame.now _ (sym c.in_err-accepted.ensures) in
    search rules

pub returns : goal.returns
returns c = rw c.heard_at.ensures (says_heard c.args.frame.now _ _ (sym c.in_ok-accepted.ensures))
