-- A number is below a bound, or it is not.
use Prim.Native.Nat.{ℕ, ◌≤◌, ◌<◌}
use borrow.Author.Tests.{ltb-true, ltb-false}
use lib.Dec.{ltb}
use Rattle.octets.proofs.Bools.{whether}

pub by_bound : (n m : ℕ) {P : Type 0} → (n < m → P) → (m ≤ n → P) → P
by_bound n m below above = whether (ltb n m) (λ t. below (ltb-true n m t)) (λ f. above (ltb-false n m f))
