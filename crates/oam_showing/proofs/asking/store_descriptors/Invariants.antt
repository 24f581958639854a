use Rattle.std.proofs.Common.{◌≡◌, ◌+◌, ◌*◌, length}
use Rattle.std.proofs.lemmas.List.Edits.{sets}
use Rattle.oam_showing.specs.Asking.{descriptors_in}
use Rattle.oam_showing.proofs.Asked.{asked}
use Rattle.oam_showing.proofs.asking.store_descriptors.Given as goal

abbrev pub invariant-loop-i : goal.invariant-loop-i
invariant-loop-i l = (length l.descriptors ≡ length l.initial.descriptors) × (l.count ≡ l.i + length (asked l.body (3 * l.i))) × (sets l.initial.descriptors 0 (descriptors_in l.body) ≡ sets l.descriptors l.i (asked l.body (3 * l.i)))
