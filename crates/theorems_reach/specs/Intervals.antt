-- Tick intervals: what a history, of one end or of one of two, says of ticks and frames. Interval 0 runs from fresh, and every
-- accepted tick opens the next.
use Rattle.std.specs.Prelude.{ℕ, ◌+◌, ◌-◌, List, [], ◌∷◌, Bool, true, false, cond, ◌&&◌, eqb}
use Rattle.octets.specs.Tests.{between}

-- what is counted of a call: whether it was an accepted tick, and whether it wrote a frame
pub record Entry : Type 0 where
  pub tick : Bool
  pub frame : Bool

abbrev pub count : Bool → ℕ
count true = 1
count false = 0

-- the ticks of a history, whose latest call comes first: the number of its present interval
abbrev pub ticks_in : List Entry → ℕ
ticks_in [] = 0
ticks_in (x ∷ xs) = ticks_in xs + count x.tick

-- the frames of the present interval and of the k before it, k + 1 intervals in all: "a frame counted in the interval of its writing,
-- a tick's own frame in the one which that tick opens"
abbrev pub frames_back : ℕ → List Entry → ℕ
frames_back k [] = 0
frames_back k (x ∷ xs) = cond (x.tick && eqb k 0) 0 (frames_back (k - count x.tick) xs) + count x.frame

-- the frames of eleven successive intervals, of which the number of the first is given
abbrev pub frames_from : ℕ → List Entry → ℕ
frames_from first [] = 0
frames_from first (x ∷ xs) = frames_from first xs + count (x.frame && between first (first + 10) (ticks_in (x ∷ xs)))
