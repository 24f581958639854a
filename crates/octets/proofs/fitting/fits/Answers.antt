use Rattle.std.proofs.Common.{◌≡◌, ℕ, zero, suc, ◌+◌, ◌*◌, ◌-◌, ◌/◌, ◌^◌, ◌≤◌, ltb, refl, sym, ◌∙◌, arith}
use Rattle.std.proofs.Math.Nat.{pow-le-pow_right}
use lib.Dec.{leb}
use borrow.Author.Tests.{lt-ltb, le-ltb, leb-true, leb-false}
use Rattle.octets.proofs.Bools.{whether}
use Rattle.octets.proofs.fitting.fits.Goals as goal

-- to be at most a number is to be below the next one
up_to : (value most beyond : ℕ) → most + 1 ≡ beyond → leb value most ≡ ltb value beyond
up_to value most beyond e =
    whether (leb value most)
    (λ t. t ∙ sym (lt-ltb value beyond (omega (arith, leb-true value most t))))
    (λ f. f ∙ sym (le-ltb value beyond (omega (arith, leb-false value most f))))

-- the bound of the middle arm, by its seven widths
up_to_width : (value width : ℕ) → 1 ≤ width → width ≤ 7 → leb value (18446744073709551615 / 2 ^ (64 - 8 * width)) ≡ ltb value (256 ^ width)
up_to_width value (suc zero) some few = up_to value _ _ refl
up_to_width value (suc (suc zero)) some few = up_to value _ _ refl
up_to_width value (suc (suc (suc zero))) some few = up_to value _ _ refl
up_to_width value (suc (suc (suc (suc zero)))) some few = up_to value _ _ refl
up_to_width value (suc (suc (suc (suc (suc zero))))) some few = up_to value _ _ refl
up_to_width value (suc (suc (suc (suc (suc (suc zero)))))) some few = up_to value _ _ refl
up_to_width value (suc (suc (suc (suc (suc (suc (suc zero))))))) some few = up_to value _ _ refl
up_to_width value zero some few = absurd (omega arith)
up_to_width value (suc (suc (suc (suc (suc (suc (suc (suc more)))))))) some few = absurd (omega arith)

pub returns-in-1-to-7 : goal.returns-in-1-to-7
returns-in-1-to-7 c = up_to_width c.args.value c.args.width (omega (arith, c.in-1-to-7)) (omega (arith, c.in-1-to-7))

pub returns-in_default : goal.returns-in_default
returns-in_default c =
    let beyond : 8 ≤ c.args.width = omega (arith, c.in_default) in
    let p : 256 ^ 8 ≤ 256 ^ c.args.width = pow-le-pow_right {n = 256} (omega arith) beyond in
    sym (lt-ltb c.args.value (256 ^ c.args.width) (omega arith))
