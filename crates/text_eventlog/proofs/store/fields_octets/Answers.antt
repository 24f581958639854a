use Prim.Native.Nat.{◌+◌}
use native.Mathlib.Omega.{arith}
use lib.ListN.{get_or, drop}
use Rattle.text.proofs.Decimals.{within_places, length-field}
use Rattle.text_eventlog.specs.Line.{parting}
use Rattle.text_eventlog.proofs.Turns.{next_length}
use Rattle.text_eventlog.proofs.store.fields_octets.Goals as goal

pub overflow_add-octets : goal.overflow_add-octets
overflow_add-octets c = omega (arith, within_places 20 (get_or c.args.values.now c.loop-value.value-index 0))

pub overflow_add-octets-in-loop-value : goal.overflow_add-octets-in-loop-value
overflow_add-octets-in-loop-value c = omega (arith, within_places 20 (get_or c.args.values.now c.loop-value.value-index 0))

pub loop-value-preserved : goal.loop-value-preserved
loop-value-preserved c = let s = c.args.values.now in
    let l = c.loop-value in
    let n = next_length s l.value-index c.loop-value-test.true in
    let w = within_places 20 (get_or s l.value-index 0) in
    let k = length-field (get_or s l.value-index 0) (parting (drop (l.value-index + 1) s)) in
    (omega arith, omega arith)
