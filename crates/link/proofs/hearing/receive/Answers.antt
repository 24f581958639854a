use Rattle.std.proofs.Common.{◌≡◌, sym, ap, ◌∙◌}
use Rattle.frame.specs.Frame.{decode}
use Rattle.link.specs.Hearing.{concluded_heard, concluded_heard_output, receive_of, receive_output}
use Rattle.link_end.specs.Hearing.{Is, said_by}
use Rattle.link_end.specs.Taking.{Taken, taken, taken_due, taken_whole}
use Rattle.link.proofs.hearing.receive.Goals as goal

pub returns : goal.returns
unfolding receive_of receive_output concluded_heard concluded_heard_output taken_due taken_whole
returns c =
    let said : Is c.in_ok-heard.heard ≡ said_by (decode c.args.frame.now) = c.in_ok-heard.ensures in
    let t = c.take-shown.ensures in
    let next : c.take-shown.new.self ≡ taken_due c.in_ok-heard.heard c.args.end.now = ap (λ (t : Taken). t.end) t in
    let shown : c.take-shown.result.shown ≡ (taken c.in_ok-heard.heard c.args.end.now).shown = ap (λ (t : Taken). t.shown) t in
    let long = sym c.too_short.ensures ∙ c.if-too_short.false in
    (rw (long, ← said, c.conclude.ensures.0, next, shown), rw (long, ← said, c.conclude.ensures.1, next))
