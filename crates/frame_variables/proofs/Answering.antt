-- Laws of the answers to descriptors, and of the room that they take.
use Prim.Native.Nat.{ℕ, ◌+◌, ◌-◌, ◌<◌, ◌≤◌}
use Rattle.std.proofs.Common.{Some, None}
use mathlib.Core.Path.{◌≡◌, refl}
use mathlib.Core.List.{List, [], ◌∷◌, ◌++◌}
use mathlib.Core.Bool.{Bool, true, false, cond}
use native.Mathlib.Omega.{arith}
use borrow.Author.Tests.{leb-true, lt-leb, eqb-true, eqb-false, ne_eqb}
use lib.Dec.{leb, eqb}
use Rattle.octets.proofs.Bools.{by_cond}
use Rattle.frame_body.specs.Variables.{Container, value, indication}
use Rattle.frame_variables.specs.Attributes.{Attribute, attributes_from, formed_attributes}
use Rattle.frame_variables.specs.Answers.{lookup, container_length, containers_length, answers, room_within, place_of, answer_octets, some_octets, left_after, measured_answers}
use Rattle.frame_variables.proofs.Placing.{place_answers, placed_length}

-- a frame has room for 1,496 octets at most
pub room_most : (size : ℕ) → room_within size ≤ 1496
room_most size = omega arith

-- an answer's octets and what they leave are together no more than the room that was left
pub answer_within : (left : ℕ) (ns : List ℕ) (d : ℕ) → answer_octets left ns d + left_after left (answer_octets left ns d) ≤ left
unfolding answer_octets
answer_within left ns d = after (answer_octets left ns d) (by_cond (λ (n : ℕ). n ≤ left) (leb _ left) (leb-true _ left) (λ f. omega arith))
  where
    after : (octets : ℕ) → octets ≤ left → octets + left_after left octets ≤ left
    after octets h = by_cond (λ (n : ℕ). octets + n ≤ left) (eqb octets 0) (λ t. omega arith) (λ f. omega arith)

-- what is measured is within the room
pub measured_within : (room : ℕ) (ns ds : List ℕ) → measured_answers room ns ds ≤ room
measured_within room ns [] = omega arith
measured_within room ns (d ∷ ds) =
    omega (arith, answer_within room ns d, measured_within (left_after room (answer_octets room ns d)) ns ds)

-- no octets of an answer fit into less than 4
pub no_octets : (left : ℕ) (ns : List ℕ) (d : ℕ) → left < 4 → answer_octets left ns d ≡ 0
unfolding answer_octets
no_octets left ns d h = rw (lt-leb (4 + (place_of ns d).width) left (omega arith))

-- what some octets say of their number
pub none_octets : (n : ℕ) → None ≡ some_octets n → n ≡ 0
none_octets n = by (eqb n 0) refl
  where
    by : (b : Bool) → eqb n 0 ≡ b → None ≡ cond b None (Some n) → n ≡ 0
    by true t e = eqb-true n 0 t
    by false f e = let z : ◌≡◌ {A = ℕ} 0 1 = cc in absurd (omega arith)

pub octets_are : (n k : ℕ) → Some k ≡ some_octets n → (k ≡ n) × (n ≡ 0 → ⊥)
octets_are n k = by (eqb n 0) refl
  where
    by : (b : Bool) → eqb n 0 ≡ b → Some k ≡ cond b None (Some n) → (k ≡ n) × (n ≡ 0 → ⊥)
    by true t e = let z : ◌≡◌ {A = ℕ} 0 1 = cc in absurd (omega arith)
    by false f e = (cc, eqb-false n 0 f)

-- where there are some, they are taken from what was left
pub left_some : (left n k : ℕ) → Some k ≡ some_octets n → left_after left k ≡ left - k
left_some left n k e = let a = octets_are n k e in rw (ne_eqb k 0 (λ z. a.1 (omega (arith, a.0))))

-- nothing fits into nothing: after an answer that does not fit there is none
pub measured_none : (ns ds : List ℕ) → measured_answers 0 ns ds ≡ 0
measured_none ns [] = refl
measured_none ns (d ∷ ds) = rw (no_octets 0 ns d (omega arith)) (omega (arith, measured_none ns ds))

-- a turn of a loop over descriptors: where the next answer does not fit, and where it does
pub measured_off : (left : ℕ) (ns ds : List ℕ) (d : ℕ) → None ≡ some_octets (answer_octets left ns d) → measured_answers left ns (d ∷ ds) ≡ 0
measured_off left ns ds d e = rw (none_octets (answer_octets left ns d) e) (omega (arith, measured_none ns ds))

pub measured_next : (left k : ℕ) (ns ds : List ℕ) (d : ℕ) → Some k ≡ some_octets (answer_octets left ns d)
    → (k ≤ left) × (measured_answers left ns (d ∷ ds) ≡ k + measured_answers (left - k) ns ds)
measured_next left k ns ds d e =
    let n = answer_octets left ns d in
    let a = octets_are n k e in
    (omega (arith, a.0, answer_within left ns d), rw (a.0, ne_eqb n 0 a.1))

-- a container has 4 octets at least
container_least : (c : Container) → 4 ≤ container_length c
container_least (value d x) = omega arith
container_least (indication d octet) = omega arith

-- no container fits into less than 4
pub none_fit : (left : ℕ) (table : List Attribute) (ds : List ℕ) → left < 4 → answers left table ds ≡ []
none_fit left table [] h = refl
none_fit left table (d ∷ ds) h =
    rw (lt-leb (container_length (lookup table d)) left (omega (arith, container_least (lookup table d))))

-- ---- with attributes in range

-- the answer to one descriptor where it has so many octets, and the answers that come after it: one turn of a loop over them
pub record Turn (ns : List ℕ) (table : List Attribute) (left d octets : ℕ) : Type 0 where
  pub fits : (octets ≡ 0 → ⊥) → (answers left table (d ∷ []) ≡ lookup table d ∷ []) × (octets ≡ 4 + (place_of ns d).width)
  pub off : octets ≡ 0 → answers left table (d ∷ []) ≡ []
  pub next : (ds : List ℕ) → answers left table (d ∷ ds) ≡ answers left table (d ∷ []) ++ answers (left_after left octets) table ds
  pub long : (ds : List ℕ) → containers_length (answers left table (d ∷ ds)) ≡ octets + containers_length (answers (left_after left octets) table ds)

module _ (ns vs : List ℕ) (h : formed_attributes ns vs ≡ true) where
  pub answers_turn : (left d : ℕ) → Turn ns (attributes_from ns vs) left d (answer_octets left ns d)
  unfolding answer_octets
  answers_turn left d = by (leb (4 + (place_of ns d).width) left) refl
    where
      size : container_length (lookup (attributes_from ns vs) d) ≡ 4 + (place_of ns d).width
      size = placed_length (place_answers ns vs h d)

      some : eqb (4 + (place_of ns d).width) 0 ≡ false
      some = ne_eqb (4 + (place_of ns d).width) 0 (λ z. omega arith)

      none : (ds : List ℕ) → answers 0 (attributes_from ns vs) ds ≡ []
      none ds = none_fit 0 (attributes_from ns vs) ds (omega arith)

      by : (b : Bool) → leb (4 + (place_of ns d).width) left ≡ b → Turn ns (attributes_from ns vs) left d (cond b (4 + (place_of ns d).width) 0)
      by true e = record { fits = λ z. (rw (size, e), refl); off = λ z. absurd (omega arith); next = λ ds. rw (size, e, some); long = λ ds. rw (size, e, some, size) }
      by false e = record { fits = λ z. absurd (z refl); off = λ z. rw (size, e); next = λ ds. rw (size, e, none ds); long = λ ds. rw (size, e, none ds) }

  -- what is measured is the length of the containers
  pub answers_measured : (room : ℕ) (ds : List ℕ) → measured_answers room ns ds ≡ containers_length (answers room (attributes_from ns vs) ds)
  answers_measured room [] = refl
  answers_measured room (d ∷ ds) =
      omega (arith, (answers_turn room d).long ds, answers_measured (left_after room (answer_octets room ns d)) ds)
