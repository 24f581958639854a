use Rattle.std.proofs.Common.{rules}
use Rattle.frame_writer.specs.Plain.{sized}
use Rattle.link_end.specs.Granting.{granted_start}
use Rattle.link.specs.Requests.{starting}
use Rattle.link.proofs.Asking.{refuses, grants}
use Rattle.link.proofs.requesting.start.Goals as goal

pub returns-in_err-start : goal.returns-in_err-start
unfolding sized granted_start
returns-in_err-start c =
    let e = c.args.end.now in
    let h = refuses (starting e) e c.start.new.self c.args.out.now c.start.result c.start.ensures _ c.in_err-start.was in
    search rules

pub returns : goal.returns
unfolding sized granted_start
returns c =
    let e = c.args.end.now in
    grants (starting e) e c.start.new.self c.args.out.now c.start.result c.start.ensures c.in_ok-start.was
    c.sender.result _ c.sent.result _ c.sender.ensures c.write_loopback.ensures (c.sent.ensures _)
