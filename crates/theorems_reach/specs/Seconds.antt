-- Timer seconds, as the build paper has them: what a history says of them.
use Rattle.std.specs.Prelude.{ℕ, ◌+◌, ◌%◌, List, [], ◌∷◌, Bool, cond, ◌&&◌, eqb}
use Rattle.theorems_reach.specs.Intervals.{Entry, count, ticks_in}

-- "every tenth tick from fresh (link down or up) closes a timer second"
abbrev pub closed_by : Entry → List Entry → Bool
closed_by x xs = x.tick && eqb (ticks_in (x ∷ xs) % 10) 0

-- the frames of a history since the timer second closed; a closing tick's own frame "belongs to the new second"
abbrev pub frames_in : List Entry → ℕ
frames_in [] = 0
frames_in (x ∷ xs) = cond (closed_by x xs) 0 (frames_in xs) + count x.frame
