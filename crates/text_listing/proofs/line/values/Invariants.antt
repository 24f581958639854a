use Rattle.std.proofs.Common.{◌≡◌, ℕ, ◌<◌, length, get_or}
use Rattle.text_listing.specs.Taking.{value_of}
use Rattle.text_listing.proofs.line.values.Given as goal

abbrev pub invariant-loop-c : goal.invariant-loop-c
invariant-loop-c l = (length l.values ≡ 256) × ((k : ℕ) → k < l.c → get_or l.values k 0 ≡ value_of k)
