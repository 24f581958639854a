-- The octets that part what is written as text, and end it.
use Rattle.std.specs.Prelude.{ℕ}

-- "fields parted by tabs"
abbrev pub tab : ℕ
tab = 9

-- "newline last"
abbrev pub newline : ℕ
newline = 10
