use Rattle.std.proofs.Common.{rules, ℕ, List, arith, refl, ap, Option}
use Rattle.frame_tlvs.specs.declared.Cursor.{Cursor}
use Rattle.oam_showing.specs.Storing.{rows_from, StoringRows}
use Rattle.oam_showing.proofs.Stored.{Gone, start, one_turn}
use Rattle.oam_showing.proofs.rows.store_rows.Goals as goal
use Rattle.oam_showing.proofs.rows.store_rows.Goals.{After-take_at}

-- what a turn comes to
abbrev Come : After-take_at → Option Cursor → Type 0
Come c stood =
    let a = c.args in
    let l = c.loop-after in
    Gone a.code a.frame.now a.from a.first a.rows.now l.cursor l.rows.count c.take_at.new.self.count c.take_at.new.self.lent.now stood

come : (c : After-take_at) → Come c c.take_at.result
come c =
    let a = c.args in
    let l = c.loop-after in
    one_turn a.code a.frame.now a.from a.first a.rows.now (omega arith) l.rows.lent.now l.cursor l.rows.count l.invariant.2 l.invariant.5 (rw l.invariant.1 at c.take_at.ensures.taken)

pub loop-after-init : goal.loop-after-init
loop-after-init c = let a = c.args in (refl, refl, refl, omega arith, omega arith, start a.code a.frame.now a.from a.first a.rows.now)

pub loop-after-smaller : goal.loop-after-smaller
loop-after-smaller c = let g = rw c.in-Some.is at (come (goal.at.loop-after-smaller c).After-take_at) in omega (arith, g.1, g.2)

pub loop-after-preserved : goal.loop-after-preserved
loop-after-preserved c =
    let l = c.loop-after in
    let g = rw c.in-Some.is at (come (goal.at.loop-after-preserved c).After-take_at) in
    (search rules, search rules, g.4, omega (arith, g.1, g.3, l.invariant.3), omega (arith, g.1, g.2, g.3, l.invariant.3), g.0)

pub returns : goal.returns
returns c =
    let a = c.args in
    let g = rw c.in_default.is at (come (goal.at.returns c).After-take_at) in
    let s : StoringRows (rows_from a.code a.frame.now a.from) a.first a.rows.now c.take_at.new.self.count c.take_at.new.self.lent.now =
    record { counted = ap (λ (p : ℕ × List ℕ). p.0) g; stored = ap (λ (p : ℕ × List ℕ). p.1) g } in
    search rules
