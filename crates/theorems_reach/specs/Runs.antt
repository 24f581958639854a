-- Runs: an end made of a fresh one by a list of calls, and that list's history of ticks and frames.
use Rattle.std.specs.Prelude.{◌≡◌, List, [], ◌∷◌, ◌++◌, Bool, true, false, not, ◌&&◌, eqb}
use Rattle.link_peer.specs.declared.Settings.{Settings}
use Rattle.link_end.specs.declared.End.{End}
use Rattle.link_end.specs.Parts.{fresh_end}
use Rattle.theorems_reach.specs.Machine.{Input, tick, report, receive, request, Call, outcome_of}
use Rattle.theorems_reach.specs.Intervals.{Entry}

-- the end that calls, the latest first, make of a fresh one
abbrev pub after : Settings → List Call → End
after s [] = fresh_end s
after s (c ∷ cs) = (outcome_of c (after s cs)).end

-- the end owes a frame after each of some calls, the latest first, which follow others
abbrev pub OwesAfterEach : Settings → List Call → List Call → Type 0
OwesAfterEach s [] cs = Unit {0}
OwesAfterEach s (d ∷ ds) cs = ((after s (d ∷ (ds ++ cs))).own.owed ≡ true) × OwesAfterEach s ds cs

-- a frame was written
abbrev pub wrote : Call → End → Bool
wrote c e = not (eqb (outcome_of c e).length 0)

-- the call is a tick, and was accepted
abbrev pub is_tick : Input → Bool
is_tick tick = true
is_tick (report r) = false
is_tick (receive f) = false
is_tick (request q) = false

abbrev pub accepted_tick : Call → End → Bool
accepted_tick c e = is_tick c.input && eqb (outcome_of c e).answer 0

-- what is counted of a call
abbrev pub entry_of : Call → End → Entry
entry_of c e = record { tick = accepted_tick c e; frame = wrote c e }

-- and of all calls since the end was fresh
abbrev pub history : Settings → List Call → List Entry
history s [] = []
history s (c ∷ cs) = entry_of c (after s cs) ∷ history s cs
