-- An Information TLV that is lent as numbers.
use Rattle.frame_body.specs.declared.Information.{Information}
use Rattle.std.specs.Prelude.{ℕ, List, Bool, true, false, cond, eqb, length, Option, None, Some}
use Rattle.octets.specs.Octets.{fit}
use Rattle.frame_body.specs.Information.{information_widths, information_of}

-- an Information TLV is lent as seven numbers, each within its field's width; no number lends none
unfoldable pub lends : List ℕ → Bool
lends vs = cond (eqb (length vs) 0) true (cond (eqb (length vs) 7) (fit information_widths vs) false)

-- the TLV that some numbers lend, if they lend one
unfoldable pub held_from : List ℕ → Option Information
held_from vs = cond (eqb (length vs) 0) None (Some (information_of vs))
