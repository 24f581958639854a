use mathlib.Core.Path.{sym, ◌∙◌}
use Rattle.oam_showing.proofs.ReadAll.{shows_short, shows_refusal, shows_accepted}
use Rattle.oam_showing.proofs.reading.read.Goals as goal

pub returns-then-header-lt-HEADER_NUMBERS : goal.returns-then-header-lt-HEADER_NUMBERS
returns-then-header-lt-HEADER_NUMBERS c = let a = c.args in shows_short a.frame.now a.header.now c.if-header-lt-HEADER_NUMBERS.true

pub returns-in-Err : goal.returns-in-Err
returns-in-Err c = let a = c.args in
    rw (c.from.ensures, c.number.ensures)
    (shows_refusal a.frame.now a.header.now c.if-header-lt-HEADER_NUMBERS.false _ (sym (rw c.in-Err.is at c.judgement_of.ensures)))

pub returns-in-Ok : goal.returns-in-Ok
returns-in-Ok c = let a = c.args in
    shows_accepted a.frame.now a.header.now c.if-header-lt-HEADER_NUMBERS.false _ _ (sym (rw c.in-Ok.is at c.judgement_of.ensures)) c.header_of.ensures (c.from-in-Ok.ensures ∙ c.fixed_number.ensures) c.show_header.ensures
