use mathlib.Core.Path.{refl, sym}
use borrow.Author.Tests.{lt-ltb, le-ltb}
use lib.ListN.{length}
use Rattle.oam_packing.specs.Octets.{unpacked}
use Rattle.oam_showing.specs.Reading.{header_numbers}
use Rattle.oam_showing.proofs.Untouched.{untouched}
use Rattle.oam.specs.Machine.{received_by, received_output}
use Rattle.oam.proofs.Stepped.{same_number, same_stored, heard, stayed_unheard}
use Rattle.oam.proofs.machine.oam_receive.Goals as goal

pub returns-then-header-lt-HEADER_NUMBERS : goal.returns-then-header-lt-HEADER_NUMBERS
unfolding received_by received_output
returns-then-header-lt-HEADER_NUMBERS c =
    let a = c.args in
    let short = lt-ltb (length a.header.now) header_numbers c.if-header-lt-HEADER_NUMBERS.true in
    stayed_unheard (unpacked a.state.now) a.state.now a.out.now (sym (rw c.in-Ok.is at c.unpack.ensures)) (rw short) refl (rw short)
    (same_number c.told.ensures c.stepped_number.ensures)

pub returns-in-Err-receive : goal.returns-in-Err-receive
unfolding received_by received_output
returns-in-Err-receive c =
    let a = c.args in
    let long = le-ltb (length a.header.now) header_numbers c.if-header-lt-HEADER_NUMBERS.false in
    let steps = rw c.in-Err-receive.is at c.receive.ensures in
    heard (unpacked a.state.now) a.state.now a.out.now (sym (rw c.in-Ok.is at c.unpack.ensures)) (rw long steps.0, rw long steps.1)
    untouched (same_stored a.state.now c.told-in-Err-receive.ensures c.store_outcome.ensures)

pub returns-in-Ok-receive : goal.returns-in-Ok-receive
unfolding received_by received_output
returns-in-Ok-receive c =
    let a = c.args in
    let long = le-ltb (length a.header.now) header_numbers c.if-header-lt-HEADER_NUMBERS.false in
    let steps = rw c.in-Ok-receive.is at c.receive.ensures in
    heard (unpacked a.state.now) a.state.now a.out.now (sym (rw c.in-Ok.is at c.unpack.ensures)) (rw long steps.0, rw long steps.1)
    c.show_news.ensures (same_stored a.state.now c.told-in-Ok-receive.ensures c.store_outcome-in-Ok-receive.ensures)
