-- The next revision and event number, and when an Information frame is owed.
use Rattle.std.specs.Prelude.{ℕ, ◌+◌, ◌%◌, Bool, cond, ◌&&◌, ◌||◌}

-- "grows by one, 65,535 going to 0"
abbrev pub following : ℕ → ℕ
following n = (n + 1) % 65536

-- "in each call that changes the State octet"
abbrev pub revised : Bool → ℕ → ℕ
revised changed n = cond changed (following n) n

-- "An Information frame is owed when the flags or State octet to be sent change, or a loopback command is obeyed"; one that was
-- owed stays so. "Where it isn't allowed nothing is owed."
abbrev pub owes : (allowed owed due changed : Bool) → Bool
owes allowed owed due changed = allowed && (owed || (due || changed))
