-- Decimal numbers as text: "No leading zeros (zero is `0`)".
use Rattle.std.specs.Prelude.{ℕ, zero, suc, ◌+◌, ◌/◌, ◌%◌, List, [], ◌∷◌, ◌++◌, cond, ltb}

-- the last digits of n, as many as it has and no more than places
unfoldable pub decimal_in : ℕ → ℕ → List ℕ
decimal_in zero n = []
decimal_in (suc places) n = cond (ltb n 10) ((48 + n) ∷ []) (decimal_in places (n / 10) ++ ((48 + n % 10) ∷ []))

-- a 64-bit number has at most 20 digits
abbrev pub decimal : ℕ → List ℕ
decimal n = decimal_in 20 n

-- a field: a number, and the octet that parts it from what follows
abbrev pub field : ℕ → ℕ → List ℕ
field n after = decimal n ++ (after ∷ [])
