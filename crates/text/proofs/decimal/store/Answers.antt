use Prim.Native.Nat.{ℕ, ◌+◌, ◌/◌, ◌%◌, ◌-◌, ◌<◌}
use mathlib.Core.Path.{◌≡◌, ap, ◌∙◌}
use native.Mathlib.Omega.{arith}
use mathlib.Core.List.{List, [], ◌∷◌}
use lib.ListN.{length, set, length-append}
use lib.Seq.{sets}
use Rattle.text.specs.Decimal.{decimal_in}
use Rattle.text.proofs.Decimals.{last_digit}
use Rattle.octets.proofs.Stores.{sets_last}
use Rattle.text.proofs.decimal.store.Invariants.{Left}
use Rattle.text.proofs.decimal.store.Goals as goal

one_stored : (whole out : List ℕ) (at left rest : ℕ) → 0 < left → Left whole out at left rest
    → Left whole (set out (at + (left - 1)) (48 + rest % 10)) at (left - 1) (rest / 10)
one_stored whole out at left rest h (places, count, e) =
    let some : 0 < length (decimal_in places rest) = omega arith in
    let last = last_digit places rest some in
    let before = decimal_in last.0 (rest / 10) in
    let less : left - 1 ≡ length before = omega (arith, ap length last.1 ∙ length-append before ((48 + rest % 10) ∷ [])) in
    (last.0, less, e ∙ ap (sets out at) last.1 ∙ sets_last out at before (48 + rest % 10) ∙ rw less)

pub loop-i-preserved : goal.loop-i-preserved
loop-i-preserved c = let a = c.args in let l = c.loop-i in one_stored _ l.out a.at l.i l.rest c.loop-i-test.true l.invariant
