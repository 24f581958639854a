use native.Mathlib.Omega.{arith}
use Rattle.frame.specs.Flags.{flags_number}
use Rattle.octets.proofs.Masks.{mask_3, bit_lt}
use Rattle.frame.proofs.FlagLaws.{bit_byte, flags_sum}
use Rattle.frame.proofs.Flags.number.Goals as goal

pub returns : goal.returns
unfolding flags_number
returns c = let f = c.args.self in
    simp (mask_3, c.from.ensures, c.from-2.ensures, c.from-3.ensures, bit_byte)
    (flags_sum _ _ _ _ _ (omega arith) (omega arith) (bit_lt f.critical) (bit_lt f.gasp) (bit_lt f.fault))
