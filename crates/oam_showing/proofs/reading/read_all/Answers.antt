use Prim.Native.Nat.{◌≤◌}
use mathlib.Core.Path.{sym, ◌∙◌}
use native.Mathlib.Omega.{arith}
use lib.ListN.{length, get_or}
use Rattle.oam_showing.specs.Showing.{Showing}
use Rattle.oam_showing.specs.Reading.{frame_shown}
use Rattle.oam_showing.proofs.ReadAll.{shows_short, shows_refusal, shows_accepted, refused_some, refusing, accepting, accepted_length, few_rows}
use Rattle.oam_showing.proofs.reading.read_all.Goals as goal
use Rattle.oam_showing.proofs.reading.read_all.Goals.{After-show_header}

-- what the header shows of an accepted frame
headed : (c : After-show_header) →
    let a = c.args in
    Showing (frame_shown a.frame.now (length a.header.now)) a.header.now c.show_header.result c.show_header.new.lent
headed c =
    let a = c.args in
    shows_accepted a.frame.now a.header.now c.if-header-lt-HEADER_NUMBERS.false _ _ (sym (rw c.in-Ok.is at c.judgement_of.ensures)) c.header_of.ensures (c.from-in-Ok.ensures ∙ c.fixed_number.ensures) c.show_header.ensures

-- its length
long : (c : After-show_header) → let f = c.args.frame.now in (60 ≤ length f) × (length f ≤ 1514)
long c =
    let a = c.args in
    accepted_length a.frame.now (length a.header.now) (sym (headed c).answers ∙ c.show_header.ensures.answers)

pub returns-then-header-lt-HEADER_NUMBERS : goal.returns-then-header-lt-HEADER_NUMBERS
returns-then-header-lt-HEADER_NUMBERS c = let a = c.args in
    refusing a.frame.now a.first a.header.now a.rows.now (shows_short a.frame.now a.header.now c.if-header-lt-HEADER_NUMBERS.true) (λ z. absurd (omega (arith, z)))

pub bounds-frame-17 : goal.bounds-frame-17
bounds-frame-17 c = omega (arith, (long (goal.at.bounds-frame-17 c).After-show_header).0)

pub overflow_mul-result : goal.overflow_mul-result
overflow_mul-result c = let f = c.args.frame.now in
    omega (arith, (long (goal.at.overflow_mul-result c).After-show_header).1, c.store_rows-count.ensures.counted, few_rows f (get_or f 17 0) c.start_of.result)

pub returns-in-Err : goal.returns-in-Err
returns-in-Err c = let a = c.args in
    let f = c.args.frame.now in
    let j = sym (rw c.in-Err.is at c.judgement_of.ensures) in
    rw (c.from.ensures, c.number.ensures)
    (refusing f a.first a.header.now a.rows.now (shows_refusal f a.header.now c.if-header-lt-HEADER_NUMBERS.false _ j) (refused_some f a.header.now _ j))

pub returns-in-Ok : goal.returns-in-Ok
returns-in-Ok c = let a = c.args in
    accepting a.frame.now a.first a.header.now a.rows.now (headed (goal.at.returns-in-Ok c).After-show_header) c.show_header.ensures.answers c.start_of.ensures c.store_rows-count.ensures
