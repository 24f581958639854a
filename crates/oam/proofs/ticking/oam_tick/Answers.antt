use mathlib.Core.Path.{sym}
use borrow.Author.Tests.{lt-ltb, le-ltb}
use lib.ListN.{length}
use Rattle.oam_packing.specs.Octets.{unpacked, watch_in}
use Rattle.oam.specs.Ticking.{arisen_room, ticked_by, ticked_output}
use Rattle.oam.proofs.Arisen.{short_ticked, refused_ticked, ticked}
use Rattle.oam.proofs.Stepped.{same_number}
use Rattle.oam.proofs.ticking.oam_tick.Goals as goal

pub returns-then-events-lt-ARISEN_NUMBERS : goal.returns-then-events-lt-ARISEN_NUMBERS
unfolding ticked_by ticked_output
returns-then-events-lt-ARISEN_NUMBERS c =
    let a = c.args in
    let found = sym (rw c.in-Ok.is at c.unpack.ensures) in
    let short = lt-ltb (length a.events.now) arisen_room c.if-events-lt-ARISEN_NUMBERS.true in
    short_ticked (unpacked a.state.now) a.events.now a.state.now a.out.now (watch_in a.state.now) found (rw short) (rw short)
    (same_number c.told.ensures c.stepped_number.ensures)

pub returns-in-Err-counted_tick : goal.returns-in-Err-counted_tick
unfolding ticked_by ticked_output
returns-in-Err-counted_tick c =
    let a = c.args in
    let long = le-ltb (length a.events.now) arisen_room c.if-events-lt-ARISEN_NUMBERS.false in
    let t = rw c.in-Err-counted_tick.is at c.counted_tick.ensures in
    refused_ticked (unpacked a.state.now) a.events.now a.state.now a.out.now c.counted_tick.new.end c.counted_tick.new.watch c.in-Err-counted_tick.refusal (sym (rw c.in-Ok.is at c.unpack.ensures))
    (rw (long, ← c.watch_in-watch.ensures) t.0, rw long t.1) (same_number c.told-in-Err-counted_tick.ensures c.stepped_number-in-Err-counted_tick.ensures)

pub returns-in-Ok-counted_tick : goal.returns-in-Ok-counted_tick
unfolding ticked_by ticked_output
returns-in-Ok-counted_tick c =
    let a = c.args in
    let long = le-ltb (length a.events.now) arisen_room c.if-events-lt-ARISEN_NUMBERS.false in
    let t = rw c.in-Ok-counted_tick.is at c.counted_tick.ensures in
    ticked (unpacked a.state.now) a.events.now a.state.now a.out.now (sym (rw c.in-Ok.is at c.unpack.ensures))
    (rw (long, ← c.watch_in-watch.ensures) t.0, rw long t.1) c.store_tick.ensures
