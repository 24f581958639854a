-- The listing's beginning: its header leaves the output's room as it is.
use Rattle.std.proofs.Common.{ℕ, ◌≤◌, List, length, arith}
use Rattle.text.specs.Put.{Put}
use Rattle.text.proofs.Puts.{next_within}
use Rattle.text_listing.specs.Rows.{header}

pub header_within : {out exit : List ℕ} {r : ℕ} → Put header out 0 r exit → r ≤ length out
header_within p = next_within _ _ 0 p (omega arith)
