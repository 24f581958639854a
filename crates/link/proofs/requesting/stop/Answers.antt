use Rattle.std.proofs.Common.{rules}
use Rattle.frame_writer.specs.Plain.{sized}
use Rattle.link_end.specs.Granting.{granted_stop}
use Rattle.link.specs.Requests.{stopping}
use Rattle.link.proofs.Asking.{refuses, grants}
use Rattle.link.proofs.requesting.stop.Goals as goal

pub returns-in_err-stop : goal.returns-in_err-stop
unfolding sized granted_stop
returns-in_err-stop c =
    let e = c.args.end.now in
    let h = refuses (stopping e) e c.stop.new.self c.args.out.now c.stop.result c.stop.ensures _ c.in_err-stop.was in
    search rules

pub returns : goal.returns
unfolding sized granted_stop
returns c =
    let e = c.args.end.now in
    grants (stopping e) e c.stop.new.self c.args.out.now c.stop.result c.stop.ensures c.in_ok-stop.was
    c.sender.result _ c.sent.result _ c.sender.ensures c.write_loopback.ensures (c.sent.ensures _)
