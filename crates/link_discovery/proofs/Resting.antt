-- The paper's moves, run until none applies, come to rest where `stands_at` says and nowhere else, whichever is taken first
-- where two apply at once; and they do come to rest, for no more than four can follow one another.
use Prim.Native.Nat.{ℕ, suc, ◌<◌, ◌≤◌}
use mathlib.Core.Path.{◌≡◌, refl}
use mathlib.Core.Bool.{Bool, true, false, cond}
use native.Mathlib.Omega.{arith}
use Rattle.octets.proofs.Bools.{not_both}
use Rattle.link_discovery.specs.declared.Discovery.{Discovery}
use Rattle.link_discovery.specs.declared.Discovery.TheVariants.{Fault, ActiveSendLocal, PassiveWait, SendLocalRemote, SendLocalRemoteOk, SendAny}
use Rattle.link_discovery.specs.Standing.{stands_at}
use Rattle.link_discovery.specs.Moves.{Move, sends_first, waits_first, sender_hears, waiter_hears, is_satisfied, is_complete, ok_unsatisfied, any_unsatisfied, any_incomplete, Moves, none, then, Rests, Settles, Borne}

-- where discovery stood is borne out by any later record, unless FAULT was entered: a record once held stays held
pub borne : (up active held satisfied complete later : Bool) → (held ≡ true → later ≡ true) → Borne up active later (stands_at up active held satisfied complete)
borne false active held satisfied complete later k = tt
borne true active true true true later k = (refl, k refl)
borne true active true true false later k = (refl, k refl)
borne true active true false complete later k = (refl, k refl)
borne true true false satisfied complete later k = (refl, refl)
borne true false false satisfied complete later k = (refl, refl)

either_way : (P : Bool → Type 0) (b : Bool) → P true → P false → P b
either_way P true t f = t
either_way P false t f = f

module _ (up active held satisfied complete : Bool) where
  abbrev Step : Discovery → Discovery → Type 0
  Step = Move up active held satisfied complete

  abbrev Steps : ℕ → Discovery → Discovery → Type 0
  Steps = Moves up active held satisfied complete

  -- ---- no more than four

  -- how many moves may follow at most
  abbrev left : Discovery → ℕ
  left Fault = 4
  left ActiveSendLocal = 3
  left PassiveWait = 3
  left SendLocalRemote = cond satisfied 2 0
  left SendLocalRemoteOk = cond satisfied (cond complete 1 0) 2
  left SendAny = cond satisfied (cond complete 0 1) 1

  fewer : {d next : Discovery} → Step d next → left next < left d
  fewer (sends_first u a) = omega arith
  fewer (waits_first u a) = omega arith
  fewer (sender_hears h) = either_way (λ b. cond b 2 0 < 3) satisfied (omega arith) (omega arith)
  fewer (waiter_hears h) = either_way (λ b. cond b 2 0 < 3) satisfied (omega arith) (omega arith)
  fewer (is_satisfied s) = rw s (either_way (λ b. cond b 1 0 < 2) complete (omega arith) (omega arith))
  fewer (is_complete c) = rw c (either_way (λ b. cond b 0 1 < cond b 1 2) satisfied (omega arith) (omega arith))
  fewer (ok_unsatisfied s) = rw s (omega arith)
  fewer (any_unsatisfied s) = rw s (omega arith)
  fewer (any_incomplete s c) = rw (s, c) (omega arith)

  most : (d : Discovery) → left d ≤ 4
  most Fault = omega arith
  most ActiveSendLocal = omega arith
  most PassiveWait = omega arith
  most SendLocalRemote = either_way (λ b. cond b 2 0 ≤ 4) satisfied (omega arith) (omega arith)
  most SendLocalRemoteOk =
      either_way (λ b. cond b (cond complete 1 0) 2 ≤ 4) satisfied (either_way (λ b. cond b 1 0 ≤ 4) complete (omega arith) (omega arith)) (omega arith)
  most SendAny =
      either_way (λ b. cond b (cond complete 0 1) 1 ≤ 4) satisfied (either_way (λ b. cond b 0 1 ≤ 4) complete (omega arith) (omega arith)) (omega arith)

  bound : {n : ℕ} {d to : Discovery} → Steps n d to → n ≤ left d
  bound none = omega arith
  bound (then m ms) = omega (arith, fewer m, bound ms)

  pub four_moves : {n : ℕ} {d to : Discovery} → Steps n d to → n ≤ 4
  four_moves {d = d} ms = omega (arith, bound ms, most d)

  -- ---- where none applies

  keeps : {d next : Discovery} → Step d next → Borne up active held d → Borne up active held next
  keeps (sends_first u a) b = (u, a)
  keeps (waits_first u a) b = (u, a)
  keeps (sender_hears h) b = (b.0, h)
  keeps (waiter_hears h) b = (b.0, h)
  keeps (is_satisfied s) b = b
  keeps (is_complete c) b = b
  keeps (ok_unsatisfied s) b = b
  keeps (any_unsatisfied s) b = b
  keeps (any_incomplete s c) b = b

  all_keep : {n : ℕ} {d to : Discovery} → Steps n d to → Borne up active held d → Borne up active held to
  all_keep none b = b
  all_keep (then m ms) b = all_keep ms (keeps m b)

-- no move applies where discovery stands
pub rests : (up active held satisfied complete : Bool) → Rests up active held satisfied complete (stands_at up active held satisfied complete)
rests false active held satisfied complete next (sends_first u a) = not_both u refl
rests false active held satisfied complete next (waits_first u a) = not_both u refl
rests true active true true true next (any_unsatisfied s) = not_both refl s
rests true active true true true next (any_incomplete s c) = not_both refl c
rests true active true true false next (is_complete c) = not_both c refl
rests true active true true false next (ok_unsatisfied s) = not_both refl s
rests true active true false complete next (is_satisfied s) = not_both s refl
rests true true false satisfied complete next (sender_hears h) = not_both h refl
rests true false false satisfied complete next (waiter_hears h) = not_both h refl

-- and it stands where none applies
stands : (up active held satisfied complete : Bool) (d : Discovery) → Borne up active held d → Rests up active held satisfied complete d
    → d ≡ stands_at up active held satisfied complete
stands true true held satisfied complete Fault b r = absurd (r ActiveSendLocal (sends_first refl refl))
stands true false held satisfied complete Fault b r = absurd (r PassiveWait (waits_first refl refl))
stands false active held satisfied complete Fault b r = refl
stands up active true satisfied complete ActiveSendLocal b r = absurd (r SendLocalRemote (sender_hears refl))
stands up active false satisfied complete ActiveSendLocal b r = rw (b.0, b.1)
stands up active true satisfied complete PassiveWait b r = absurd (r SendLocalRemote (waiter_hears refl))
stands up active false satisfied complete PassiveWait b r = rw (b.0, b.1)
stands up active held true complete SendLocalRemote b r = absurd (r SendLocalRemoteOk (is_satisfied refl))
stands up active held false complete SendLocalRemote b r = rw (b.0, b.1)
stands up active held false complete SendLocalRemoteOk b r = absurd (r SendLocalRemote (ok_unsatisfied refl))
stands up active held true true SendLocalRemoteOk b r = absurd (r SendAny (is_complete refl))
stands up active held true false SendLocalRemoteOk b r = rw (b.0, b.1)
stands up active held false complete SendAny b r = absurd (r SendLocalRemote (any_unsatisfied refl))
stands up active held true false SendAny b r = absurd (r SendLocalRemoteOk (any_incomplete refl refl))
stands up active held true true SendAny b r = rw (b.0, b.1)

-- wherever moves from a state that is borne out come to rest, that is where discovery stands
pub only_there : (up active held satisfied complete : Bool) (d to : Discovery) → Borne up active held d
    → Settles up active held satisfied complete d to → to ≡ stands_at up active held satisfied complete
only_there up active held satisfied complete d to b s =
    stands up active held satisfied complete to (all_keep up active held satisfied complete s.moves b) s.rests

-- ---- the moves lead there

-- some moves end where discovery stands
abbrev Reaches : (up active held satisfied complete : Bool) → Discovery → Type 0
Reaches up active held satisfied complete d =
    (n : ℕ) × Moves up active held satisfied complete n d (stands_at up active held satisfied complete)

step : {up active held satisfied complete : Bool} {d next : Discovery} → Move up active held satisfied complete d next
    → Reaches up active held satisfied complete next → Reaches up active held satisfied complete d
step m r = (suc r.0, then m r.1)

from_remote : (active satisfied complete : Bool) → Reaches true active true satisfied complete SendLocalRemote
from_remote active true true = step (is_satisfied refl) (step (is_complete refl) (0, none))
from_remote active true false = step (is_satisfied refl) (0, none)
from_remote active false complete = (0, none)

from_sender : (held satisfied complete : Bool) → Reaches true true held satisfied complete ActiveSendLocal
from_sender true satisfied complete = step (sender_hears refl) (from_remote true satisfied complete)
from_sender false satisfied complete = (0, none)

from_waiter : (held satisfied complete : Bool) → Reaches true false held satisfied complete PassiveWait
from_waiter true satisfied complete = step (waiter_hears refl) (from_remote false satisfied complete)
from_waiter false satisfied complete = (0, none)

from_fault : (up active held satisfied complete : Bool) → Reaches up active held satisfied complete Fault
from_fault true true held satisfied complete = step (sends_first refl refl) (from_sender held satisfied complete)
from_fault true false held satisfied complete = step (waits_first refl refl) (from_waiter held satisfied complete)
from_fault false active held satisfied complete = (0, none)

from_ok : (active satisfied complete : Bool) → Reaches true active true satisfied complete SendLocalRemoteOk
from_ok active true true = step (is_complete refl) (0, none)
from_ok active true false = (0, none)
from_ok active false complete = step (ok_unsatisfied refl) (from_remote active false complete)

from_any : (active satisfied complete : Bool) → Reaches true active true satisfied complete SendAny
from_any active true true = (0, none)
from_any active true false = step (any_incomplete refl refl) (0, none)
from_any active false complete = step (any_unsatisfied refl) (from_remote active false complete)

reaches : (up active held satisfied complete : Bool) (d : Discovery) → Borne up active held d → Reaches up active held satisfied complete d
reaches up active held satisfied complete Fault b = from_fault up active held satisfied complete
reaches up active held satisfied complete ActiveSendLocal b = rw (b.0, b.1) (from_sender held satisfied complete)
reaches up active held satisfied complete PassiveWait b = rw (b.0, b.1) (from_waiter held satisfied complete)
reaches up active held satisfied complete SendLocalRemote b = rw (b.0, b.1) (from_remote active satisfied complete)
reaches up active held satisfied complete SendLocalRemoteOk b = rw (b.0, b.1) (from_ok active satisfied complete)
reaches up active held satisfied complete SendAny b = rw (b.0, b.1) (from_any active satisfied complete)

-- from a state that is borne out, the moves come to rest where `stands_at` says
pub settles : (up active held satisfied complete : Bool) (d : Discovery) → Borne up active held d
    → Settles up active held satisfied complete d (stands_at up active held satisfied complete)
settles up active held satisfied complete d b =
    let r = reaches up active held satisfied complete d b in
    record { count = r.0; moves = r.1; rests = rests up active held satisfied complete }
