use Rattle.std.proofs.Common.{arith}
use Rattle.text_listing.proofs.Lengths.{row_within}
use Rattle.text_listing.proofs.feeding.Progress.store_present_row.Goals as goal

pub store_row-requires : goal.store_row-requires
store_row-requires c = omega (arith, row_within c.args.self.number c.entry.result c.entry.type_inv)

pub returns : goal.returns
returns c = let e = c.entry.ensures in rw e at c.store_row.ensures
