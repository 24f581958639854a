use Prim.Native.Nat.{◌^◌, ◌<◌}
use mathlib.Core.Path.{◌≡◌}
use lib.ListN.{drop}
use Rattle.text_eventlog.specs.Digits.{number_of}
use Rattle.text_eventlog.proofs.Numbers.{left_of}
use Rattle.text_eventlog.proofs.digits.number_of.Given as goal

abbrev pub invariant-loop-octet : goal.invariant-loop-octet
invariant-loop-octet l = (l.n < 2 ^ 64) × (number_of l.field ≡ left_of l.n (drop l.octet-index l.field))
