use Rattle.oam_showing.proofs.Stored.{container_found}
use Rattle.oam_showing.proofs.Cursors.{information_stored, event_stored}
use Rattle.oam_showing.proofs.rows.Rows.take_at.Goals as goal

pub returns-in-0-clause-taken : goal.returns-in-0-clause-taken
returns-in-0-clause-taken c =
    let a = c.args in
    let from = c.from_cursor-parts.ensures in
    let gave = rw (from.0, from.1, ← c.cursor.ensures) at c.next-given.ensures.steps.2 in
    rw c.in-0.is (information_stored a.self.now.count a.self.now.first a.self.now.lent.now a.cursor a.frame.now _ _ gave c.take_tlv.ensures.taken)

pub returns-in-1-clause-taken : goal.returns-in-1-clause-taken
returns-in-1-clause-taken c =
    let a = c.args in
    let from = c.from_cursor-events.ensures in
    let gave = rw (from.0, from.1, ← c.cursor-in-1.ensures) at c.next-given-in-1.ensures.steps.2 in
    rw c.in-1.is (event_stored a.self.now.count a.self.now.first a.self.now.lent.now a.cursor a.frame.now _ _ gave c.take_tlv-in-1.ensures.taken)

pub returns-in-3-clause-taken : goal.returns-in-3-clause-taken
returns-in-3-clause-taken c = let a = c.args in
    rw (c.in-3.is, ← container_found a.frame.now a.cursor.at _ c.container_step.ensures.found) c.take-in-3.ensures.taken
