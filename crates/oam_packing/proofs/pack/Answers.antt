use borrow.Author.Tests.{eq-eqb, ne_eqb}
use lib.ListN.{length}
use Rattle.oam_packing.specs.Octets.{state_length, packed_in}
use Rattle.oam_packing.proofs.Joining.{parts_stored}
use Rattle.oam_packing.proofs.pack.Goals as goal

pub returns-then-state-eq-STATE_LENGTH : goal.returns-then-state-eq-STATE_LENGTH
unfolding packed_in
returns-then-state-eq-STATE_LENGTH c =
    let a = c.args in
    let s = c.args.state.now in
    rw (eq-eqb (length s) state_length c.if-state-eq-STATE_LENGTH.true, c.put_parts.ensures) (parts_stored a.end.now s)

pub returns-else-state-eq-STATE_LENGTH : goal.returns-else-state-eq-STATE_LENGTH
unfolding packed_in
returns-else-state-eq-STATE_LENGTH c = rw (ne_eqb _ _ c.if-state-eq-STATE_LENGTH.false)
