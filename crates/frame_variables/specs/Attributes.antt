-- "The box keeps up to 64 attributes (branch, leaf, width 1 to 128, value) in lent memory."
use Rattle.std.specs.Prelude.{ℕ, ◌+◌, ◌*◌, List, [], ◌∷◌, Bool, true, false, not, ◌&&◌, ◌||◌, length, take, drop, leb, eqb}
use Rattle.octets.specs.Tests.{between}
use Rattle.frame_variables.specs.Descriptors.{plain_descriptor}

-- an attribute: its branch and leaf as one number, and its value, whose octets are as many as its width
pub record Attribute : Type 0 where
  pub descriptor : ℕ
  pub value : List ℕ

-- the attributes of numbers, descriptor and width of each, and of their values, one after another
abbrev pub attributes_from : (attributes values : List ℕ) → List Attribute
attributes_from [] vs = []
attributes_from (d ∷ []) vs = []
attributes_from (d ∷ w ∷ ns) vs = record { descriptor = d; value = take w vs } ∷ attributes_from ns (drop w vs)

-- ---- "a count or width out of range, a branch 0, or one branch and leaf held twice is 10"

abbrev pub most_attributes : ℕ
most_attributes = 64

abbrev pub most_width : ℕ
most_width = 128

-- one attribute, by its descriptor and its width
abbrev pub formed_pair : ℕ → ℕ → Bool
formed_pair d w = plain_descriptor d && between 1 most_width w

-- each attribute; a number that is left over is none
abbrev pub formed_pairs : List ℕ → Bool
formed_pairs [] = true
formed_pairs (d ∷ []) = false
formed_pairs (d ∷ w ∷ ns) = formed_pair d w && formed_pairs ns

-- a descriptor is that of an attribute
abbrev pub held_in : ℕ → List ℕ → Bool
held_in d [] = false
held_in d (x ∷ []) = false
held_in d (x ∷ w ∷ ns) = eqb x d || held_in d ns

-- none is held twice
abbrev pub distinct : List ℕ → Bool
distinct [] = true
distinct (d ∷ []) = true
distinct (d ∷ w ∷ ns) = not (held_in d ns) && distinct ns

-- the octets of all values
abbrev pub widths : List ℕ → ℕ
widths [] = 0
widths (d ∷ []) = 0
widths (d ∷ w ∷ ns) = w + widths ns

-- what is lent are attributes in range, with just their values
unfoldable pub formed_attributes : (attributes values : List ℕ) → Bool
formed_attributes ns vs =
    leb (length ns) (2 * most_attributes) && (formed_pairs ns && (distinct ns && eqb (widths ns) (length vs)))
