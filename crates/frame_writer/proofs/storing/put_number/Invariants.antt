use mathlib.Core.Path.{◌≡◌}
use lib.Seq.{sets}
use Rattle.octets.specs.Octets.{oct}
use Rattle.frame_writer.proofs.storing.put_number.Given as goal

abbrev pub invariant-loop-i : goal.invariant-loop-i
invariant-loop-i l = sets l.out l.at (oct l.i l.left) ≡ sets l.fn.out l.at (oct l.width l.value)
