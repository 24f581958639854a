-- What holds at some or at all elements of a list.
use Rattle.std.specs.Prelude.{List, [], ◌∷◌}

module _ {A : Type 0} where
  pub data Some (P : A → Type 0) : List A → Type 0 where
    here : {x : A} {xs : List A} → P x → Some P (x ∷ xs)
    there : {x : A} {xs : List A} → Some P xs → Some P (x ∷ xs)

  pub data All (P : A → Type 0) : List A → Type 0 where
    none_left : All P []
    also : {x : A} {xs : List A} → P x → All P xs → All P (x ∷ xs)
