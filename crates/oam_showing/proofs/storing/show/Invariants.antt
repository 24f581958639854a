use Rattle.std.proofs.Common.{◌≡◌, length, drop}
use Rattle.std.proofs.lemmas.List.Edits.{sets}
use Rattle.oam_showing.proofs.storing.show.Given as goal

abbrev pub invariant-loop-i : goal.invariant-loop-i
invariant-loop-i l = (length l.lent ≡ length l.fn.lent) × (sets l.fn.lent 0 l.numbers ≡ sets l.lent l.i (drop l.i l.numbers))
