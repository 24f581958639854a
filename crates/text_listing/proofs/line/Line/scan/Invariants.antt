use Rattle.std.proofs.Common.{◌≡◌, length}
use Rattle.text_listing.specs.Feeding.{Scans}
use Rattle.text_listing.proofs.line.Line.scan.Given as goal

abbrev pub invariant-loop-i : goal.invariant-loop-i
invariant-loop-i l = (length l.frame ≡ length l.fn.frame) × Scans l.piece l.fn.self l.fn.frame l.at l.self l.frame l.i
