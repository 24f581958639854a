-- What holds at some or at all elements of a list: taken further, and taken together.
use mathlib.Core.List.{List}
use Rattle.theorems_pair.specs.Lists.{Some, here, there, All, none_left, also}

module _ {A : Type 0} where
  pub some_map : {P Q : A → Type 0} {l : List A} → ((x : A) → P x → Q x) → Some P l → Some Q l
  some_map f (here {x = x} p) = here (f x p)
  some_map f (there s) = there (some_map f s)

  pub all_map : {P Q : A → Type 0} {l : List A} → ((x : A) → P x → Q x) → All P l → All Q l
  all_map f none_left = none_left
  all_map f (also {x = x} p a) = also (f x p) (all_map f a)

  -- what holds at some element together with what holds at all of them
  pub meet : {P Q : A → Type 0} {l : List A} → All P l → Some Q l → Some (λ x. P x × Q x) l
  meet {P = P} {Q = Q} none_left x3 = elim x3 [ ]
  meet (also p a) (here q) = here (p, q)
  meet (also p a) (there s) = there (meet a s)

  -- what follows from it at any element
  pub some_out : {P : A → Type 0} {B : Type 0} {l : List A} → ((x : A) → P x → B) → Some P l → B
  some_out f (here {x = x} p) = f x p
  some_out f (there s) = some_out f s
