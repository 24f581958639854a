use Rattle.oam_packing.proofs.Joining.{watch_stored}
use Rattle.oam_packing.proofs.watches.WatchPartLENGTH.put.Goals as goal

pub returns : goal.returns
returns c =
    let a = c.args in
    rw (c.put_octets-3.ensures, c.put_octets-2.ensures, c.put_octets.ensures)
    (watch_stored a.self a.out.now a.at (rw c.frames.ensures at c.frames_octets.ensures) (rw c.seconds.ensures at c.seconds_octets.ensures) (rw (c.stamp.ensures, c.bad.ensures) at c.stamp_octets.ensures))
