use Rattle.std.proofs.Common.{◌≡◌, ◌+◌, ◌*◌, ◌≤◌, drop}
use Rattle.frame_variables.specs.Attributes.{widths}
use Rattle.frame_variables.proofs.attributes.widths.Given as goal

abbrev pub invariant-loop-width : goal.invariant-loop-width
invariant-loop-width l =
    (l.sum + widths (drop (2 * l.width-index) l.attributes) ≡ widths l.attributes)
    × (l.sum ≤ l.width-index * 4294967295)
