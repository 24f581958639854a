use Prim.Native.Nat.{◌+◌, ◌≤◌}
use mathlib.Core.Path.{◌≡◌}
use lib.ListN.{length, drop}
use lib.Seq.{sets}
use Rattle.octets.specs.Octets.{total, octs}
use Rattle.frame_writer.proofs.storing.put_fields.Given as goal

abbrev pub invariant-loop-i : goal.invariant-loop-i
invariant-loop-i l = (length l.out ≡ length l.initial.out)
    × (l.position + total (drop l.i l.widths) ≤ length l.out)
    × (sets l.initial.out l.at (octs l.widths l.values) ≡ sets l.out l.position (octs (drop l.i l.widths) (drop l.i l.values)))
