-- Laws of an Information TLV that is lent as numbers.
use Prim.Native.Nat.{ℕ, ◌^◌, ◌<◌, ◌≤◌}
use mathlib.Core.Path.{◌≡◌}
use mathlib.Core.List.{List}
use mathlib.Core.Bool.{true}
use native.Mathlib.Omega.{arith}
use borrow.Author.Tests.{eqb-true, ne_eqb}
use lib.Dec.{eqb}
use lib.ListN.{length, get_or}
use Rattle.octets.specs.Octets.{fit}
use Rattle.frame_body.specs.Information.{information_widths}
use Rattle.octets.proofs.Bools.{whether, never}
use Rattle.octets.proofs.Numbers.{fit_at}
use Rattle.oam.specs.Lending.{lends}

-- each of the seven numbers that lend a TLV is within its width
pub within : (vs : List ℕ) (i : ℕ) → i < 7 → (7 ≤ length vs) × (fit information_widths vs ≡ true) → get_or vs i 0 < 256 ^ get_or information_widths i 0
within vs i h p = fit_at information_widths vs i h (omega (arith, p.0)) p.1

-- numbers that lend a TLV are seven, each within its width
pub seven : (vs : List ℕ) → lends vs ≡ true → (length vs ≡ 0 → ⊥) → (7 ≤ length vs) × (fit information_widths vs ≡ true)
unfolding lends
seven vs h z =
    whether (eqb (length vs) 7)
    (λ t. (omega (arith, eqb-true (length vs) 7 t), rw (ne_eqb (length vs) 0 z, t) at h))
    (λ f. never (rw (ne_eqb (length vs) 0 z, f) at h))
