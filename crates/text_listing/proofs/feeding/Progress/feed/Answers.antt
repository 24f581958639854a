use Rattle.std.proofs.Common.{◌<◌, ◌≤◌, length, refl, arith}
use Rattle.text_listing.proofs.Standing.{ended, stopped, scans, ends_line, feeds}
use Rattle.text_listing.proofs.feeding.Progress.feed.Goals as goal
use Rattle.text_listing.proofs.feeding.Progress.feed.Goals.{then-taken-piece-via-then-taken-piece, then-taken-piece-via-else-taken-piece+then-room_from-lt-ROW}

pub store_present_row-waiting-requires : goal.store_present_row-waiting-requires
store_present_row-waiting-requires c = omega (arith, c.if-room_from-lt-ROW.false, c.room_from.ensures)

pub loop-taken-preserved : goal.loop-taken-preserved
loop-taken-preserved c = let scan = c.scan-taken in
    let s = scans _ _ _ _ _ _ c.loop-taken.invariant scan.ensures.scans scan.auto.frame in
    let before : scan.result < length c.args.piece.now = omega arith in
    rw c.fresh-self.ensures
    (ends_line _ _ _ _ _ _ s before (scan.ensures.stops before) (omega (arith, c.if-room_from-lt-ROW.false, c.room_from.ensures)) refl c.store_present_row-waiting.ensures (omega arith))

pub returns-after-loop-taken : goal.returns-after-loop-taken
returns-after-loop-taken c = let s = c.loop-taken.invariant in
    feeds _ _ _ _ _ _ s (ended _ _ _ _ c.loop-taken-test.false)

pub returns-then-taken-piece : goal.returns-then-taken-piece
returns-then-taken-piece c = let scan = c.scan-taken in
    let s = scans _ _ _ _ _ _ c.loop-taken.invariant scan.ensures.scans scan.auto.frame in
    let within : scan.result ≤ length c.args.piece.now = scan.ensures.scans.within in
    elim c.then-taken-piece.branch [
      | then-taken-piece-via-then-taken-piece w ↦
          let whole : length c.args.piece.now ≤ scan.result = omega (arith, w.if-taken-piece.true) in
          feeds _ _ _ _ _ _ s (ended _ _ _ _ whole)
      | then-taken-piece-via-else-taken-piece+then-room_from-lt-ROW w ↦
          let before : scan.result < length c.args.piece.now = omega (arith, w.if-taken-piece.false) in
          feeds _ _ _ _ _ _ s (stopped _ _ _ _ before (scan.ensures.stops before) (omega (arith, w.if-room_from-lt-ROW.true, w.room_from.ensures, s.count, s.outputs)))
    ]
