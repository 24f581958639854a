use Prim.Native.Nat.{◌+◌}
use mathlib.Core.Path.{◌≡◌}
use lib.ListN.{length, drop}
use Rattle.text_eventlog.proofs.Parted.{first}
use Rattle.text_eventlog.proofs.reader.field_end.Given as goal

abbrev pub invariant-loop-end : goal.invariant-loop-end
invariant-loop-end l = l.at + length (first (drop l.at l.text)) ≡ l.end + length (first (drop l.end l.text))
