use Prim.Native.Nat.{◌≤◌}
use mathlib.Core.Path.{◌≡◌}
use lib.ListN.{length, drop}
use Rattle.text_eventlog.specs.Line.{last_position, parted, read_fields}
use Rattle.text_eventlog.proofs.Fields.{left}
use Rattle.text_eventlog.proofs.reader.read_fields.Given as goal

abbrev pub invariant-loop-i : goal.invariant-loop-i
invariant-loop-i l = (length l.values ≡ 9) × (l.at ≤ length l.text) × (read_fields last_position (parted l.text) ≡ left l.i l.values (parted (drop l.at l.text)))
