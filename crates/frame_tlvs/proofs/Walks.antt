-- Laws of a walk over the parts of a body: one turn of a loop that walks, why a body's length is steps enough, and that no more is
-- skipped than there are steps.
use Prim.Native.Nat.{ℕ, zero, suc, ◌+◌, ◌<◌, ◌≤◌}
use mathlib.Core.Path.{◌≡◌, refl, sym, ap, subst, ◌∙◌}
use mathlib.Core.List.{List, [], ◌∷◌}
use native.Mathlib.Omega.{arith}
use lib.ListN.{length}
use Rattle.frame_tlvs.specs.Walk.{Next, stop, broken, skip, has, Walk, ends, breaks, over, part, on_next, walk, given, skipped_in}

-- the octet after a part lies ahead, within the body
abbrev pub Ahead : {P : Type 0} → ℕ → ℕ → Next P → Type 0
Ahead at len stop = Unit
Ahead at len broken = Unit
Ahead at len (skip n) = (at < n) × (n ≤ len)
Ahead at len (has p n) = (at < n) × (n ≤ len)

-- What a loop's invariant says at octet `at`, where the answer is made of the walk that is left by `fold`: that is the whole
-- answer. The number of steps left is enough for what is left of the body.
abbrev pub Rest : {P A : Type 0} → (ℕ → Next P) → ℕ → A → (Walk P → A) → ℕ → Type 0
Rest next len answer fold at = (f : ℕ) × (len ≤ at + f) × (fold (walk next f at) ≡ answer)

-- what is then known of the answer by what stands at the octet
abbrev pub Then : {P A : Type 0} → (ℕ → Next P) → ℕ → A → (Walk P → A) → Next P → Type 0
Then next len answer fold stop = fold ends ≡ answer
Then next len answer fold broken = fold breaks ≡ answer
Then next len answer fold (skip n) = Rest next len answer (λ w. fold (over w)) n
Then next len answer fold (has p n) = Rest next len answer (λ w. fold (part p w)) n

-- past the body's end nothing stands, and what stands before it leads on within the body
pub record Leads {P : Type 0} (next : ℕ → Next P) (len : ℕ) : Type 0 where
  pub end : (at : ℕ) → len ≤ at → next at ≡ stop
  pub ahead : (at : ℕ) → Ahead at len (next at)

module _ {P A : Type 0} (next : ℕ → Next P) (len : ℕ) (leads : Leads next len) (answer : A) (fold : Walk P → A) where
  go : (at f : ℕ) (x : Next P) → Ahead at len x → len ≤ at + suc f → fold (on_next x (λ n. walk next f n)) ≡ answer → Then next len answer fold x
  go at f stop a h e = e
  go at f broken a h e = e
  go at f (skip n) a h e = (f, omega arith, e)
  go at f (has p n) a h e = (f, omega arith, e)

  -- one turn
  pub turn : (at : ℕ) → Rest next len answer fold at → Then next len answer fold (next at)
  unfolding walk
  turn at (zero, h, e) = subst (Then next len answer fold) (sym (leads.end at (omega arith))) e
  turn at (suc f, h, e) = go at f (next at) (leads.ahead at) h e

-- A body's length is steps enough: however many more are allowed, the walk is the same.
module _ {P : Type 0} (next : ℕ → Next P) (len : ℕ) (leads : Leads next len) where
  onward : (f g at : ℕ) (x : Next P) → Ahead at len x → len ≤ at + suc f → len ≤ at + suc g
      → ((n : ℕ) → len ≤ n + f → len ≤ n + g → walk next f n ≡ walk next g n)
      → on_next x (λ n. walk next f n) ≡ on_next x (λ n. walk next g n)
  onward f g at stop a h k same = refl
  onward f g at broken a h k same = refl
  onward f g at (skip n) a h k same = ap over (same n (omega arith) (omega arith))
  onward f g at (has p n) a h k same = ap (part p) (same n (omega arith) (omega arith))

  pub enough : (f g at : ℕ) → len ≤ at + f → len ≤ at + g → walk next f at ≡ walk next g at
  unfolding walk
  enough zero zero at h k = refl
  enough zero (suc g) at h k = rw (leads.end at (omega arith))
  enough (suc f) zero at h k = rw (leads.end at (omega arith))
  enough (suc f) (suc g) at h k = onward f g at (next at) (leads.ahead at) h k (λ n a b. enough f g n a b)

  -- the walk with no count of steps: what stands at the octet, then the walk from the octet after it
  pub unrolls : (at : ℕ) → walk next len at ≡ on_next (next at) (λ n. walk next len n)
  unfolding walk
  unrolls at = enough len (suc len) at (omega arith) (omega arith)

-- a step skips one TLV at most
module _ {P : Type 0} (next : ℕ → Next P) where
  few_onward : (steps : ℕ) (go : ℕ → Walk P) → ((n : ℕ) → skipped_in (go n) ≤ steps) → (x : Next P) → skipped_in (on_next x go) ≤ suc steps
  few_onward steps go h stop = omega arith
  few_onward steps go h broken = omega arith
  few_onward steps go h (skip n) = omega (arith, h n)
  few_onward steps go h (has p n) = omega (arith, h n)

  pub few_skips : (steps at : ℕ) → skipped_in (walk next steps at) ≤ steps
  unfolding walk
  few_skips zero at = omega arith
  few_skips (suc steps) at = few_onward steps (λ n. walk next steps n) (λ n. few_skips steps n) (next at)

-- What an iterator over a body has left at an octet, by what stands there. After what is broken nothing is left: it goes to the body's
-- end.
module _ {P A : Type 0} (next : ℕ → Next P) (len : ℕ) (leads : Leads next len) (at : ℕ) (list : Walk P → List A) where
  pub left : (x : Next P) → next at ≡ x → list (walk next len at) ≡ list (on_next x (λ n. walk next len n))
  left x e = ap list (unrolls next len leads at ∙ ap (λ (y : Next P). on_next y (λ n. walk next len n)) e)

  pub left_broken : (r : A) → list breaks ≡ r ∷ [] → list ends ≡ [] → next at ≡ broken → list (walk next len at) ≡ r ∷ list (walk next len len)
  left_broken r b none e = left broken e ∙ b ∙ ap (λ (l : List A). r ∷ l) (sym (rw (unrolls next len leads len, leads.end len (omega arith)) none))

-- no more is given than there are steps
module _ {P : Type 0} (next : ℕ → Next P) where
  few_more : (steps : ℕ) (go : ℕ → Walk P) → ((n : ℕ) → length (given (go n)) ≤ steps) → (x : Next P) → length (given (on_next x go)) ≤ suc steps
  few_more steps go h stop = omega arith
  few_more steps go h broken = omega arith
  few_more steps go h (skip n) = omega (arith, h n)
  few_more steps go h (has p n) = omega (arith, h n)

  pub few_given : (steps at : ℕ) → length (given (walk next steps at)) ≤ steps
  unfolding walk
  few_given zero at = omega arith
  few_given (suc steps) at = few_more steps (λ n. walk next steps n) (λ n. few_given steps n) (next at)
