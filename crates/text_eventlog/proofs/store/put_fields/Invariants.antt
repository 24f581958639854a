use Prim.Native.Nat.{◌+◌, ◌≤◌}
use mathlib.Core.Path.{◌≡◌}
use lib.ListN.{length, drop}
use lib.Seq.{sets}
use Rattle.text_eventlog.specs.Line.{fields}
use Rattle.text_eventlog.proofs.store.put_fields.Given as goal

abbrev pub invariant-loop-i : goal.invariant-loop-i
invariant-loop-i l = (length l.out ≡ length l.fn.out)
    × (l.at + length (fields (drop l.i l.values)) ≤ length l.out)
    × (sets l.fn.out 0 (fields l.values) ≡ sets l.out l.at (fields (drop l.i l.values)))
