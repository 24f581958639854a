use Rattle.std.proofs.Common.{◌≡◌, ◌-◌, ◌≤◌, length}
use Rattle.oam_showing.proofs.Stored.{Going}
use Rattle.oam_showing.proofs.rows.store_rows.Given as goal

abbrev pub invariant-loop-after : goal.invariant-loop-after
invariant-loop-after l =
    (l.rows.lent.ghost_name ≡ l.initial.rows.lent.ghost_name)
    × (l.rows.first ≡ l.first)
    × (length l.rows.lent.now ≡ length l.initial.rows.lent.now)
    × (l.rows.count ≤ l.cursor.at)
    × (l.rows.count ≤ length l.frame)
    × Going l.code l.frame l.from l.first l.initial.rows.lent.now l.rows.lent.now l.cursor l.rows.count

abbrev pub decreases-loop-after : goal.decreases-loop-after
decreases-loop-after l = length l.frame - l.cursor.at
