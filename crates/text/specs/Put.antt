-- What every writer of text promises.
use Rattle.std.specs.Prelude.{ℕ, ◌+◌, ◌≤◌, ◌≡◌, Bool, cond, List, leb, length}
use Rattle.std.proofs.lemmas.List.Edits.{sets}

-- the text fits into the output from octet at on and is stored there, and r is the octet after it
pub record Stored (text entry : List ℕ) (at r : ℕ) (exit : List ℕ) : Type 0 where
  pub within : at + length text ≤ length entry
  pub next : r ≡ at + length text
  pub output : exit ≡ sets entry at text

-- the text fits into the output from octet at on
abbrev pub fits : List ℕ → List ℕ → ℕ → Bool
fits text out at = leb (at + length text) (length out)

-- where the text fits it is stored there, and the octet after it is the result; else nothing is stored, and `at` is the
-- result
pub record Put (text entry : List ℕ) (at r : ℕ) (exit : List ℕ) : Type 0 where
  pub next : r ≡ cond (fits text entry at) (at + length text) at
  pub output : exit ≡ cond (fits text entry at) (sets entry at text) entry
