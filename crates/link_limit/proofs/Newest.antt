-- The frames of the newest intervals, one interval after another.
use Rattle.std.proofs.Common.{◌≡◌, ℕ, zero, suc, ◌+◌, ◌-◌, ◌/◌, ◌%◌, ◌<◌, refl, arith}
use Rattle.link_limit.specs.Limit.{frames_of_newest}

pub newest_none : (intervals : ℕ) → frames_of_newest 0 intervals ≡ 0
unfolding frames_of_newest
newest_none intervals = refl

-- the present interval, and those before it
pub newest_step : (k intervals : ℕ) → 0 < k → frames_of_newest k intervals ≡ intervals % 16 + frames_of_newest (k - 1) (intervals / 16)
unfolding frames_of_newest
newest_step zero intervals h = absurd (omega arith)
newest_step (suc k) intervals h = let e : suc k - 1 ≡ k = omega arith in rw e
