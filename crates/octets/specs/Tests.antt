-- Tests of a number, and of every element of a list.
use Rattle.std.specs.Prelude.{ℕ, List, [], ◌∷◌, Bool, true, ◌&&◌, leb}

-- from the least to the most
abbrev pub between : ℕ → ℕ → ℕ → Bool
between least most n = leb least n && leb n most

abbrev pub every : {P : Type 0} → (P → Bool) → List P → Bool
every test [] = true
every test (p ∷ ps) = test p && every test ps
