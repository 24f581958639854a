-- Parts one after another, and tests of octets that several parts share.
use Rattle.std.specs.Prelude.{ℕ, ◌+◌, List, [], ◌∷◌, Bool, ◌||◌, leb, eqb, get_or, take, drop}
use Rattle.std.proofs.lemmas.List.Edits.{sets}
use Rattle.frame_writer.specs.Encode.{joined}
use Rattle.octets.specs.Octets.{zeros}

-- lists one after another
abbrev pub together : List (List ℕ) → List ℕ
together = joined (λ (x : List ℕ). x)

-- the parts of some lengths that stand one after another from octet `at`: each begins at the sum of the lengths before it
abbrev pub parts_at : List ℕ → List ℕ → ℕ → List (List ℕ)
parts_at [] s at = []
parts_at (n ∷ ns) s at = take n (drop at s) ∷ parts_at ns s (at + n)

-- one of them, counted from 0
abbrev pub part_of : List ℕ → ℕ → List ℕ → List ℕ
part_of lengths k s = get_or (parts_at lengths s 0) k []

-- each part stored where the one before it ends
abbrev pub stored_at : List ℕ → List (List ℕ) → List ℕ → ℕ → List ℕ
stored_at [] xs s at = s
stored_at (n ∷ ns) [] s at = s
stored_at (n ∷ ns) (x ∷ xs) s at = stored_at ns xs (sets s at x) (at + n)

-- yes is 1 and no is 0
abbrev pub is_bit : ℕ → Bool
is_bit n = leb n 1

-- the octets of what may be held: the first says whether it is, and what is not held is 0
unfoldable pub held_or_zero : List ℕ → Bool
held_or_zero x = eqb (get_or x 0 0) 1 || zeros x
