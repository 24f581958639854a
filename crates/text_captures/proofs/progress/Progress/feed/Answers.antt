use Rattle.std.proofs.Common.{◌<◌, length, arith}
use Rattle.text_captures.proofs.Rows.{said_within}
use Rattle.text_captures.proofs.Steps.{goes, says, feeds_all, feeds_some}
use Rattle.text_captures.proofs.progress.Progress.feed.Goals as goal
use Rattle.text_captures.proofs.progress.Progress.feed.Goals.{then-taken-piece-via-then-taken-piece, then-taken-piece-via-else-taken-piece+then-room_from-lt-ROW}

pub loop-taken-preserved : goal.loop-taken-preserved
loop-taken-preserved c = let collect = c.collect-taken in
    let last = c.with_last-said in
    let s = goes _ _ _ _ _ c.loop-taken.invariant collect.ensures collect.auto.frame in
    let within : collect.result < length c.args.piece.now = omega (arith, c.if-taken-piece.false, collect.ensures.within) in
    says _ _ _ _ _ s (collect.ensures.stops within) within (omega (arith, c.if-room_from-lt-ROW.false, c.room_from.ensures)) last.ensures.frame_after last.ensures.value (said_within collect.new.self.number last.result last.type_inv) (rw c.number-number.ensures at c.put_said-waiting.ensures)

pub returns-after-loop-taken : goal.returns-after-loop-taken
returns-after-loop-taken c = feeds_all _ _ _ _ _ c.loop-taken.invariant c.loop-taken-test.false

pub returns-then-taken-piece : goal.returns-then-taken-piece
returns-then-taken-piece c = let collect = c.collect-taken in
    let s = goes _ _ _ _ _ c.loop-taken.invariant collect.ensures collect.auto.frame in
    elim c.then-taken-piece.branch [
      | then-taken-piece-via-then-taken-piece w ↦ feeds_all _ _ _ _ _ s (omega (arith, w.if-taken-piece.true))
      | then-taken-piece-via-else-taken-piece+then-room_from-lt-ROW w ↦
          let within : collect.result < length c.args.piece.now = omega (arith, w.if-taken-piece.false, collect.ensures.within) in
          feeds_some _ _ _ _ _ s (collect.ensures.stops within) within (omega (arith, w.if-room_from-lt-ROW.true, w.room_from.ensures))
    ]
