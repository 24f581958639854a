-- The tests of a request, in the paper's order.
use Rattle.std.specs.Prelude.{ℕ, ◌+◌, min, Bool, cond, List, [], ◌∷◌, nat_le}
use Rattle.octets.specs.declared.refusal.Refusal.{Refusal}

-- "request's frame, plus 4, exceeds the smaller of the two maximum OAMPDU sizes" is 12
abbrev pub fits_both : (octets own peer : ℕ) → Bool
fits_both octets own peer = nat_le (octets + 4) (min own peer)

-- "Requests: 10, 11, 15, 12, 13, 9."
abbrev pub request_numbers : List ℕ
request_numbers = 10 ∷ 11 ∷ 15 ∷ 12 ∷ 13 ∷ 9 ∷ []

-- the number of the first test that does not hold; 0 where all hold
abbrev pub first_failed : List Bool → List ℕ → ℕ
first_failed [] ns = 0
first_failed (b ∷ bs) [] = 0
first_failed (b ∷ bs) (n ∷ ns) = cond b (first_failed bs ns) n

-- "settings or request values out of range" (10), "a request while discovery is not in SEND_ANY" (11), "role, mode or peer's
-- capability forbids" (15), the two sizes (12), "ten were written in the present and ten preceding intervals" (13), "lent output
-- shorter than the frame ... to be written" (9)
unfoldable pub request_answer : (formed any permitted fits room roomy : Bool) → ℕ
request_answer formed any permitted fits room roomy =
    first_failed (formed ∷ any ∷ permitted ∷ fits ∷ room ∷ roomy ∷ []) request_numbers
