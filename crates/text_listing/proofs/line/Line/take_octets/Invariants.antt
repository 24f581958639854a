use Rattle.std.proofs.Common.{◌≡◌, ◌+◌, ◌*◌, ◌-◌, ◌≤◌, length}
use Rattle.text_listing.specs.declared.line.Line.TheVariants.{Whole}
use Rattle.text_listing.specs.Feeding.{Leads}
use Rattle.text_listing.proofs.line.Line.take_octets.Given as goal

abbrev pub invariant-loop-i : goal.invariant-loop-i
invariant-loop-i l = (length l.frame ≡ length l.fn.frame) × (l.i ≤ l.count) × Leads l.piece (Whole l.octets) l.fn.frame l.at (Whole (l.octets + l.i)) l.frame (l.at + 2 * l.i)

abbrev pub decreases-loop-i : goal.decreases-loop-i
decreases-loop-i l = l.count - l.i
