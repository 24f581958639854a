use Rattle.std.proofs.Common.{length, refl, arith, ◌<◌}
use Rattle.listing_program.proofs.Turning.{starts, reads, lists, ends, on_ok}
use Rattle.listing_program.proofs.list.Goals as goal

pub loop-init : goal.loop-init
loop-init g c = starts _ _ _ _ _ _ refl c.put_header-waiting.ensures

pub returns-then-size-eq0 : goal.returns-then-size-eq0
returns-then-size-eq0 g c =
    let none = c.if-size-eq0.true in
    let some : 0 < length c.read.new.piece = omega arith in
    on_ok c.end.result c.end.ensures (ends _ _ _ _ _ _ c.loop.invariant (g.W.Write.contents c.write.new.output) (g.R.Read.remaining c.read.new.input) (g.W.Write.contents c.end.new.output) c.read.new.piece c.in_ok-size.size c.in_ok-write.ensures c.if-taken-size.true none c.in_ok-size.ensures.consumes (c.in_ok-size.ensures.end none some))

pub loop-preserved-then-taken-size : goal.loop-preserved-then-taken-size
loop-preserved-then-taken-size g c =
    let some : 0 < c.in_ok-size.size = omega (arith, c.if-size-eq0.false) in
    reads _ _ _ _ _ _ c.loop.invariant c.in_ok-write.ensures c.if-taken-size.true c.in_ok-size.ensures.consumes some c.in_ok-size.ensures.bound

pub loop-preserved : goal.loop-preserved
loop-preserved g c = lists _ _ _ _ _ _ c.loop.invariant c.in_ok-write.ensures c.if-taken-size.false c.feed-place.auto.out c.feed-place.ensures
