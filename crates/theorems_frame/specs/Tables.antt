-- A table of computed examples: what is found in each row, and what is expected there.
use Rattle.std.specs.Prelude.{List, [], ◌∷◌}

pub record Row (S : Type 0) : Type 0 where
  pub found : S
  pub expected : S

infix 70 ◌is◌
abbrev pub ◌is◌ : {S : Type 0} → S → S → Row S
found is expected = record { found = found; expected = expected }

-- the two columns
abbrev pub all_found : {S : Type 0} → List (Row S) → List S
all_found [] = []
all_found (r ∷ rs) = r.found ∷ all_found rs

abbrev pub all_expected : {S : Type 0} → List (Row S) → List S
all_expected [] = []
all_expected (r ∷ rs) = r.expected ∷ all_expected rs
