use Prim.Native.Nat.{◌+◌, ◌*◌, ◌≤◌}
use mathlib.Core.Path.{◌≡◌}
use lib.ListN.{length, drop}
use Rattle.text_eventlog.specs.Line.{fields}
use Rattle.text_eventlog.proofs.store.fields_octets.Given as goal

abbrev pub invariant-loop-value : goal.invariant-loop-value
invariant-loop-value l = (l.octets ≤ 21 * l.value-index) × (length (fields l.values) ≡ l.octets + length (fields (drop l.value-index l.values)))
