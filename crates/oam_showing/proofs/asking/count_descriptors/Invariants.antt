use Rattle.std.proofs.Common.{◌≡◌, ◌+◌, ◌*◌, length}
use Rattle.oam_showing.specs.Asking.{descriptors_in}
use Rattle.oam_showing.proofs.Asked.{asked}
use Rattle.oam_showing.proofs.asking.count_descriptors.Given as goal

abbrev pub invariant-loop-branch : goal.invariant-loop-branch
invariant-loop-branch l = (l.count ≡ l.branch-index) × (length (descriptors_in l.body) ≡ l.count + length (asked l.body (3 * l.count)))
