use Rattle.std.proofs.Common.{length, sym, ◌∙◌, arith, leb-true}
use Rattle.text_listing.specs.Rows.{row_of}
use Rattle.text_listing.proofs.Lengths.{length_row}
use Rattle.text_listing.proofs.row.put_row.Goals as goal

pub store_row-requires : goal.store_row-requires
store_row-requires c = let a = c.args in
    let some = length_row a.number a.entry in
    let fits = leb-true (length (row_of a.number a.entry)) c.room_from.result (sym c.has_room.ensures ∙ c.if-has_room.true) in
    omega (arith, fits, c.room_from.ensures)
