use Rattle.std.proofs.Math.Nat.{div-div-eq-div-mul}
use Rattle.oam_packing.specs.Watches.{frames_octets}
use Rattle.oam_packing.proofs.watches.frames_octets.Goals as goal

pub returns : goal.returns
unfolding frames_octets
returns c =
    rw (c.to_be_bytes.ensures, c.to_be_bytes-2.ensures, c.to_be_bytes-3.ensures, c.to_be_bytes-4.ensures, c.to_be_bytes-5.ensures, c.to_be_bytes-6.ensures)
    (simp div-div-eq-div-mul)
