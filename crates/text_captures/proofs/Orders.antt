-- Four octets as a number, in either byte order.
use Rattle.std.proofs.Common.{◌≡◌, ℕ, ◌+◌, List, [], ◌∷◌, get_or, add-zero, arith}
use Rattle.octets.specs.Octets.{num}
use Rattle.text_captures.specs.Captures.{num_little}

-- joined the last one first
pub joined_little : (s : List ℕ) (at a b c d : ℕ) → a ≡ get_or s at 0 → b ≡ get_or s (at + 1) 0 → c ≡ get_or s (at + 2) 0 → d ≡ get_or s (at + 3) 0
    → num 4 (d ∷ c ∷ b ∷ a ∷ []) 0 ≡ num_little 4 s at
joined_little s at a b c d p q r t = rw (add-zero, p, q, r, t) (omega arith)
