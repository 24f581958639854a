use Rattle.std.proofs.Common.{length, sym, arith, le-leb}
use Rattle.text_listing.specs.Rows.{row_of}
use Rattle.text_listing.proofs.Lengths.{row_within}
use Rattle.text_listing.proofs.row.has_room.Goals as goal

pub returns-then-room-ge-ROW : goal.returns-then-room-ge-ROW
returns-then-room-ge-ROW c = let a = c.args in
    sym (le-leb (length (row_of a.number a.entry)) a.room (omega (arith, row_within a.number a.entry c.well_formed.1.1.0, c.if-room-ge-ROW.true)))
