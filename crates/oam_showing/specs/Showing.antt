-- What is shown: an answer, and the numbers that are stored in a lent slice.
use Rattle.std.specs.Prelude.{ℕ, ◌≡◌, List, [], cond, ltb}
use Rattle.std.proofs.lemmas.List.Edits.{sets}

-- an answer, and numbers
pub record Shown : Type 0 where
  pub answer : ℕ
  pub numbers : List ℕ

-- the two put together
abbrev pub shows : ℕ → List ℕ → Shown
shows answer numbers = record { answer = answer; numbers = numbers }

-- what is shown where the lent slice has `least` elements; in a shorter one nothing, and the answer is `short`
abbrev pub roomy : ℕ → ℕ → ℕ → Shown → Shown
roomy least short room shown = cond (ltb room least) (shows short []) shown

-- a function that shows something: its answer, and the numbers from the start of the lent slice, the others as they were
pub record Showing (shown : Shown) (entry : List ℕ) (answer : ℕ) (exit : List ℕ) : Type 0 where
  pub answers : answer ≡ shown.answer
  pub stored : exit ≡ sets entry 0 shown.numbers
