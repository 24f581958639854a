-- Cases on a test, and what tests say that are joined by and, or.
use Prim.Native.Nat.{ℕ}
use mathlib.Core.Path.{◌≡◌, refl, sym, subst}
use mathlib.Core.Bool.{Bool, true, false, cond, ◌&&◌, ◌||◌, and-eq-true_iff, true≢false}
use native.Mathlib.Omega.{arith}

-- a case for each answer of a test
pub whether {κ} : {P : Type κ} (b : Bool) → (b ≡ true → P) → (b ≡ false → P) → P
whether true f g = f refl
whether false f g = g refl

-- a property of a cond, from each of its two answers under its test
pub by_cond {ℓ} : {X : Type ℓ} (P : X → Type 0) (b : Bool) {x y : X} → (b ≡ true → P x) → (b ≡ false → P y) → P (cond b x y)
by_cond P true f g = f refl
by_cond P false f g = g refl

-- no test both holds and fails
pub not_both {κ} : {P : Type κ} {b : Bool} → b ≡ true → b ≡ false → P
not_both t f = absurd (true≢false (subst (λ (b : Bool). b ≡ false) t f))

-- no test both fails and holds
pub never : {A : Type 0} → false ≡ true → A
never h = let z : ◌≡◌ {A = ℕ} 0 1 = cc in absurd (omega arith)

-- each of two tests that hold together; `search (and_l, and_r)` finds one of several
pub and_l : (a b : Bool) → a && b ≡ true → a ≡ true
and_l a b h = ((and-eq-true_iff a b).0 h).0

pub and_r : (a b : Bool) → a && b ≡ true → b ≡ true
and_r a b h = ((and-eq-true_iff a b).0 h).1

-- what follows from each of two tests follows where one of them holds
pub one_of : {A : Type 0} (a b : Bool) → (a ≡ true → A) → (b ≡ true → A) → a || b ≡ true → A
one_of true b f g h = f refl
one_of false b f g h = g h

-- where not one of two tests holds, each fails
pub neither : (a b : Bool) → a || b ≡ false → (a ≡ false) × (b ≡ false)
neither true b h = never (sym h)
neither false b h = (refl, h)
