use Prim.Native.Nat.{◌+◌, ◌*◌}
use mathlib.Core.Path.{◌≡◌}
use lib.ListN.{length, drop}
use lib.Seq.{sets}
use Rattle.octets.specs.Octets.{oct}
use Rattle.octets.specs.Layout.{body_start}
use Rattle.frame_writer.specs.Encode.{joined}
use Rattle.frame_writer.proofs.requests.put_descriptors.Given as goal

abbrev pub invariant-loop-descriptor : goal.invariant-loop-descriptor
invariant-loop-descriptor l = (length l.out ≡ length l.initial.out)
    × (l.at ≡ body_start + 3 * l.descriptor-index)
    × (sets l.initial.out body_start (joined (oct 3) l.descriptors) ≡ sets l.out l.at (joined (oct 3) (drop l.descriptor-index l.descriptors)))
