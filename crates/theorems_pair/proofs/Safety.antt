-- The demand: every run of two fresh ends is safe at its end, and so at every moment, for each moment ends a run. And the
-- written-frames number of an end is the one that the past has.
use Prim.Native.Nat.{ℕ, zero, suc}
use mathlib.Core.Path.{◌≡◌, refl, ap}
use mathlib.Core.List.{List, [], ◌∷◌}
use mathlib.Core.Bool.{true}
use native.Mathlib.Omega.{arith}
use borrow.Author.Tests.{eqb-true}
use lib.Dec.{eqb}
use Rattle.octets.proofs.Bools.{by_cond, never}
use Rattle.link_limit.specs.Limit.{written_frames}
use Rattle.link_peer.specs.declared.Settings.{Settings}
use Rattle.link_loopback.specs.declared.Role.TheVariants.{Looping}
use Rattle.link_end.specs.Parts.{fresh_end}
use Rattle.theorems_reach.specs.Machine.{tick, report, receive, request, Call, outcome_of}
use Rattle.theorems_reach.specs.Premises.{Accepted}
use Rattle.theorems_reach.proofs.Standing.{fresh_is}
use Rattle.theorems_reach.proofs.Counting.{agrees_written, fresh_agrees}
use Rattle.theorems_pair.specs.Lists.{Some, here, there, none_left, also}
use Rattle.theorems_pair.specs.System.{Side, near, far, other, same, Moment, moment_of, World, put, called, Act, ticks, reports, requests, arrives, Happening, frame_at, delivered, happens, run, begin}
use Rattle.theorems_pair.specs.Safe.{Loops, Safe, some_octets, in_stretch}
use Rattle.theorems_reach.proofs.Beginning.{not_looping}
use Rattle.theorems_reach.proofs.InSendAny.{looping_any, any_takes}
use Rattle.theorems_pair.proofs.Invariant.{Keeps, Invariant, apart, both, put_here, put_there, honest_grows, keeps_beside}
use Rattle.theorems_pair.proofs.Steps.{Wrote, Delivered, keeps_after, honest_after}

-- ---- a call

keeps_call : (s : Side) (c : Call) (w : World) → Delivered s w.past c.input → Invariant w → Invariant (called s c w)
keeps_call s c w d i =
    by_cond Invariant (eqb (outcome_of c (w.ends s)).answer 0) (λ t. accepted (eqb-true (outcome_of c (w.ends s)).answer 0 t)) (λ _. i)
  where
    accepted : (outcome_of c (w.ends s)).answer ≡ 0
        → Invariant (record { ends = put s (outcome_of c (w.ends s)).end w.ends; past = moment_of s c (w.ends s) ∷ w.past })
    accepted z =
        let m = moment_of s c (w.ends s) in
        let x = (outcome_of c (w.ends s)).end in
        record {
          sides = both (λ (t : Side). Keeps t (m ∷ w.past) (put s x w.ends t)) s
              (rw (put_here s x w.ends) (keeps_after s c w.past (w.ends s) (i.sides s) i.honest d z))
              (rw (put_there s x w.ends) (keeps_beside (other s) m w.past (w.ends (other s)) (apart s) (i.sides (other s))));
          honest = also (honest_after s c w.past (w.ends s) (i.sides s) i.honest d z) (honest_grows m i.honest);
        }

-- ---- whatever happens

same_side : (s t : Side) → same s t ≡ true → t ≡ s
same_side near near h = refl
same_side near far h = never h
same_side far near h = never h
same_side far far h = refl

-- no frame is no octets
nothing : {A : Type 0} {x : ℕ} {f : List ℕ} → ◌≡◌ {A = List ℕ} [] (x ∷ f) → A
nothing h = never (ap some_octets h)

-- a frame that arrives was written by its side
arrives_written : (s : Side) (n : ℕ) (past : List Moment) (x : ℕ) (f : List ℕ) → frame_at s n past ≡ x ∷ f → Some (Wrote s (x ∷ f)) past
arrives_written s n [] x f h = nothing h
arrives_written s zero (m ∷ past) x f h =
    by_cond (λ (l : List ℕ). l ≡ x ∷ f → Some (Wrote s (x ∷ f)) (m ∷ past)) (same s m.side)
    (λ t w. here (record { side = same_side s m.side t; wrote = w })) (λ _ w. nothing w) h
arrives_written s (suc n) (m ∷ past) x f h = there (arrives_written s n past x f h)

keeps_delivered : (s : Side) (out : List ℕ) (n : ℕ) (w : World) → Invariant w → (f : List ℕ) → frame_at (other s) n w.past ≡ f → Invariant (delivered s out f w)
keeps_delivered s out n w i [] h = i
keeps_delivered s out n w i (x ∷ f) h = keeps_call s (record { input = receive (x ∷ f); out = out }) w (arrives_written (other s) n w.past x f h) i

keeps_happening : (s : Side) (out : List ℕ) (a : Act) (w : World) → Invariant w → Invariant (happens s out a w)
keeps_happening s out ticks w i = keeps_call s (record { input = tick; out = out }) w tt i
keeps_happening s out (reports r) w i = keeps_call s (record { input = report r; out = out }) w tt i
keeps_happening s out (requests q) w i = keeps_call s (record { input = request q; out = out }) w tt i
keeps_happening s out (arrives n) w i = keeps_delivered s out n w i (frame_at (other s) n w.past) refl

keeps_run : (w : World) (hs : List Happening) → Invariant w → Invariant (run w hs)
keeps_run w [] i = i
keeps_run w (h ∷ hs) i = keeps_run (happens h.side h.out h.act w) hs (keeps_happening h.side h.out h.act w i)

-- ---- from the beginning

begins : (settings : Side → Settings) → ((s : Side) → Accepted (settings s)) → Invariant (begin settings)
unfolding fresh_end
begins settings a =
    record {
      sides = λ s.
          record {
            ranged = fresh_is (settings s) (a s);
            agrees = fresh_agrees;
            stretches = λ first. omega arith;
            complete = λ z. absurd (omega arith);
            lost = λ _. refl;
            enabled = λ l. not_looping refl l;
          };
      honest = none_left;
    }

-- ---- what it says

loops : (w : World) → Invariant w → (s : Side) → (w.ends s).role ≡ Looping → Loops s w
loops w i s l =
    let k = i.sides s in
    let any = looping_any (w.ends s) k.ranged l in
    record { any = any; enabled = k.enabled l; recent = omega (arith, k.ranged.stands.lost, k.lost (any_takes (w.ends s) any).0) }

invariant : (settings : Side → Settings) → ((s : Side) → Accepted (settings s)) → (hs : List Happening) → Invariant (run (begin settings) hs)
invariant settings a hs = keeps_run (begin settings) hs (begins settings a)

-- the demand
pub safe : (settings : Side → Settings) → ((s : Side) → Accepted (settings s)) → (hs : List Happening) → Safe (run (begin settings) hs)
safe settings a hs =
    let w = run (begin settings) hs in
    let i = invariant settings a hs in
    record { loops = loops w i; limit = λ s. (i.sides s).stretches }

-- the written-frames number of an end is that of the frames which it wrote "in the present and ten preceding intervals"
pub counts : (settings : Side → Settings) → ((s : Side) → Accepted (settings s)) → (hs : List Happening) (s : Side)
    → written_frames ((run (begin settings) hs).ends s).meter ≡ in_stretch s (run (begin settings) hs).past
counts settings a hs s = agrees_written _ _ ((invariant settings a hs).sides s).agrees
