-- The five roles.
use Rattle.std.specs.Prelude.{ℕ, cond, eqb}
use Rattle.link_loopback.specs.declared.Role.{Role}
use Rattle.link_loopback.specs.declared.Role.TheVariants.{Idle, Asking, Holding, Ending, Looping}

-- "Each of the five roles has its own fixed State octet: Idle 00, Asking 06, Holding 02, Ending 06, Looping 05."
abbrev pub octet_of : Role → ℕ
octet_of Idle = 0
octet_of Asking = 6
octet_of Holding = 2
octet_of Ending = 6
octet_of Looping = 5

-- Asking and Ending have one octet, so a role is kept by a number of its own
abbrev pub role_number : Role → ℕ
role_number Idle = 0
role_number Asking = 1
role_number Holding = 2
role_number Ending = 3
role_number Looping = 4

-- the role of a number
abbrev pub role_of : ℕ → Role
role_of n = cond (eqb n 0) Idle (cond (eqb n 1) Asking (cond (eqb n 2) Holding (cond (eqb n 3) Ending Looping)))
