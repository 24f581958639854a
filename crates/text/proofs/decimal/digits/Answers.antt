use Prim.Native.Nat.{ℕ, zero, suc, ◌+◌, ◌/◌, ◌^◌, ◌≤◌, ◌<◌}
use mathlib.Core.Path.{◌≡◌, refl, ap}
use native.Mathlib.Omega.{arith}
use lib.ListN.{length}
use Rattle.text.specs.Decimal.{decimal_in}
use Rattle.text.proofs.Decimals.{one_digit, one_more, tenth}
use Rattle.text.proofs.decimal.digits.Invariants.{Counted}
use Rattle.text.proofs.decimal.digits.Goals as goal

one_counted : (all count rest : ℕ) → 10 ≤ rest → Counted all count rest → Counted all (count + 1) (rest / 10)
one_counted all count rest more (places, sum, within, e) = go places sum within e
  where
    go : (places : ℕ) → count + places ≡ 20 → rest < 10 ^ suc places → all + 1 ≡ count + length (decimal_in (suc places) rest) → Counted all (count + 1) (rest / 10)
    go zero sum within e = absurd (omega arith)
    go (suc places) sum within e = (places, omega arith, tenth (suc places) rest within, omega (arith, one_more (suc places) rest more))

pub loop-rest-init : goal.loop-rest-init
loop-rest-init c = (19, refl, omega arith, omega arith)

pub loop-rest-preserved : goal.loop-rest-preserved
loop-rest-preserved c = let l = c.loop-rest in one_counted _ l.count l.rest c.loop-rest-test.true l.invariant

pub returns : goal.returns
returns c = let l = c.loop-rest in omega (arith, ap length (one_digit l.invariant.0 l.rest c.loop-rest-test.false))
