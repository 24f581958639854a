-- The kinds of what is shown are small, and so is the number of an outcome: the bits above those of its kind are 0.
use Prim.Native.Nat.{◌^◌, ◌<◌}
use native.Mathlib.Omega.{arith}
use Rattle.link_end.specs.declared.News.{News}
use Rattle.link_end.specs.declared.News.TheVariants.{Nothing, Frame, Events}
use Rattle.link.specs.Outcomes.{Outcome}
use Rattle.oam_outcomes.specs.Stepped.{kind_of, stepped_number}

pub kind_small : (shown : News) → kind_of shown < 4
kind_small Nothing = omega arith
kind_small (Frame h) = omega arith
kind_small (Events h n) = omega arith

pub number_small : (o : Outcome) → o.answer < 2 ^ 8 → o.octet < 2 ^ 8 → stepped_number o < 2 ^ 50
unfolding stepped_number
number_small o a s = omega (arith, a, s, kind_small o.shown)
