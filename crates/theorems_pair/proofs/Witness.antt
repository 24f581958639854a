-- The demand is met by more than silence: there is a run of two ends after which one of them loops, and a longer one after which
-- it was told to stop, and both are Idle again.
use Prim.Native.Nat.{ℕ}
use mathlib.Core.Path.{◌≡◌, refl}
use mathlib.Core.List.{List, [], ◌∷◌, ◌++◌}
use native.Mathlib.Omega.{arith}
use lib.ListN.{replicate}
use Rattle.link_peer.specs.declared.Settings.{Settings}
use Rattle.link_loopback.specs.declared.Role.{Role}
use Rattle.link_loopback.specs.declared.Role.TheVariants.{Idle, Asking, Looping}
use Rattle.link_end.specs.declared.Report.TheVariants.{LinkUp}
use Rattle.theorems_reach.specs.Machine.{start, stop}
use Rattle.theorems_reach.specs.Premises.{Accepted}
use Rattle.theorems_reach.proofs.Witness.{machine}
use Rattle.theorems_pair.specs.System.{Side, near, far, Act, reports, requests, arrives, Happening, run, begin}
use Rattle.theorems_pair.specs.Safe.{Loops, in_stretch}
use Rattle.theorems_pair.proofs.Safety.{safe}

-- an active end and a passive one, both of which may be put in loopback
abbrev settings : Side → Settings
settings near = record { configuration = 5; size = 1518; oui = 1; vendor = 2; source = 3; required = 4 }
settings far = record { configuration = 4; size = 1518; oui = 1; vendor = 2; source = 4; required = 0 }

-- 60 octets are lent
abbrev at : Side → Act → Happening
at s a = record { side = s; act = a; out = replicate 60 0 }

-- both links come up, discovery ends at both sides, and the active end asks the passive one to loop
abbrev looped : List Happening
looped =
    at near (reports LinkUp) ∷ at far (reports LinkUp) ∷ at far (arrives 1) ∷ at near (arrives 0) ∷ at far (arrives 0)
    ∷ at near (requests start) ∷ at far (arrives 0) ∷ []

-- it says so, the active end is told, and asks it to stop; both hear of it
abbrev stopped : List Happening
stopped = looped ++ (at near (arrives 0) ∷ at near (requests stop) ∷ at far (arrives 0) ∷ at near (arrives 0) ∷ [])

module _ (hs : List Happening) where
  abbrev roles : Role × Role
  roles = let ends = (run (begin settings) hs).ends in ((ends near).role, (ends far).role)

  -- the frames of the first interval
  abbrev frames : ℕ × ℕ
  frames = let past = (run (begin settings) hs).past in (in_stretch near past, in_stretch far past)

pub record Witness : Type 0 where
  pub taken : (s : Side) → Accepted (settings s)
  pub loops : roles looped ≡ (Asking, Looping)
  pub safely : Loops far (run (begin settings) looped)
  pub stops : roles stopped ≡ (Idle, Idle)
  pub wrote : frames stopped ≡ (6, 4)

pub witness : Witness
unfolding machine
witness = record { taken = are_taken; loops = refl; safely = (safe settings are_taken looped).loops far refl; stops = refl; wrote = refl }
  where
    are_taken : (s : Side) → Accepted (settings s)
    are_taken near = record { sound = refl; vendor = omega arith }
    are_taken far = record { sound = refl; vendor = omega arith }
