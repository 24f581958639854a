-- How long a line of the log may be.
use Rattle.std.specs.Prelude.{ℕ}

-- the octets of the longest line
abbrev pub longest_line : ℕ
longest_line = 112
