-- After an accepted call the end's meter agrees with the past that has the call too: the ticks of its timer second, and the frames
-- written in the intervals of its stretch. So no stretch of the past has more than ten.
use Prim.Native.Nat.{ℕ, ◌≤◌}
use mathlib.Core.Path.{◌≡◌}
use mathlib.Core.List.{List, ◌∷◌}
use mathlib.Core.Bool.{and-true}
use native.Mathlib.Omega.{arith}
use Rattle.link_end.specs.declared.End.{End}
use Rattle.theorems_reach.specs.Machine.{Call, outcome_of}
use Rattle.theorems_reach.specs.Runs.{is_tick, entry_of}
use Rattle.theorems_reach.proofs.Keeping.{InputFits}
use Rattle.theorems_reach.proofs.Standing.{Ranged}
use Rattle.theorems_reach.proofs.Framing.{ranged_writes}
use Rattle.theorems_reach.specs.Intervals.{Entry, frames_back, frames_from}
use Rattle.theorems_reach.proofs.Counting.{Agrees, agrees_written, keeps_agrees}
use Rattle.theorems_reach.proofs.Stretches.{keeps_stretches}
use Rattle.theorems_pair.specs.System.{Side, Moment, moment_of}
use Rattle.theorems_pair.specs.Safe.{some_octets, history_of}
use Rattle.theorems_pair.proofs.Frames.{counted}
use Rattle.theorems_pair.proofs.Invariant.{same_self}

pub agrees_after : (s : Side) (c : Call) (e : End) (past : List Moment) → InputFits c.input → Ranged e → (outcome_of c e).answer ≡ 0
    → Agrees e.meter (history_of s past) → Agrees (outcome_of c e).end.meter (history_of s (moment_of s c e ∷ past))
agrees_after s c e past o r z a =
    let entry : entry_of c e ≡ record { tick = is_tick c.input; frame = some_octets (moment_of s c e).wrote } =
    rw (z, and-true (is_tick c.input), counted c e (ranged_writes c e o r)) in
    rw (same_self s, ← entry) (keeps_agrees c e o r (history_of s past) a)

pub stretches_after : (s : Side) (c : Call) (e : End) (past : List Moment) (after : End) → Ranged after
    → Agrees after.meter (history_of s (moment_of s c e ∷ past))
    → ((first : ℕ) → frames_from first (history_of s past) ≤ 10) → (first : ℕ) → frames_from first (history_of s (moment_of s c e ∷ past)) ≤ 10
stretches_after s c e past after r a =
    let now : frames_back 10 (history_of s (moment_of s c e ∷ past)) ≤ 10 = omega (arith, agrees_written after.meter _ a, r.stands.meter.written) in
    let entry : Entry = record { tick = is_tick c.input; frame = some_octets (moment_of s c e).wrote } in
    rw (same_self s) (keeps_stretches entry (history_of s past) (rw (same_self s) at now))
