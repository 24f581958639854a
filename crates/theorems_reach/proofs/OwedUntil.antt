-- How long what is owed waits: over ten accepted ticks at most, so that the eleventh writes it at the latest (or it is allowed no
-- more). While it waits behind the limit no other frame is written.
use Prim.Native.Nat.{ℕ, zero, suc, ◌+◌, ◌≤◌}
use mathlib.Core.Path.{◌≡◌, sym, ap, ◌∙◌}
use mathlib.Core.List.{List, [], ◌∷◌, ◌++◌}
use mathlib.Core.Bool.{true, false}
use native.Mathlib.Omega.{arith}
use borrow.Author.Tests.{leb-true, leb-false, eqb-true}
use lib.Dec.{leb}
use Rattle.octets.proofs.Bools.{never, and_l, and_r, not_both, whether}
use Rattle.link_limit.specs.Limit.{most_frames, written_frames, has_room}
use Rattle.link_peer.specs.declared.Settings.{Settings}
use Rattle.link_end.specs.declared.End.{End}
use Rattle.link.specs.Outcomes.{Outcome}
use Rattle.link_end.specs.Sending.{sends, sent}
use Rattle.theorems_reach.specs.Machine.{Call, outcome_of}
use Rattle.theorems_reach.specs.Runs.{after, OwesAfterEach, wrote, is_tick, accepted_tick, entry_of, history}
use Rattle.theorems_reach.specs.Intervals.{Entry, ticks_in, frames_back}
use Rattle.theorems_reach.specs.Premises.{Accepted, AllOfOctets}
use Rattle.theorems_reach.proofs.Coming.{dues_after, Concludes, Comes, refuses, concludes, grants, comes}
use Rattle.theorems_reach.proofs.Framing.{sent-outcome, sends_none}
use Rattle.theorems_reach.proofs.Ranging.{run_ranged}
use Rattle.theorems_reach.proofs.Counting.{opened, silent_wrote, call_meter, back_tick, back_other, run_counts}
use Rattle.theorems_reach.proofs.Waiting.{full, owed_full}

-- ---- a call after which a frame is owed

-- an accepted tick concludes
tick_concludes : (c : Call) (e : End) → accepted_tick c e ≡ true → Concludes c e
tick_concludes c e h = by (comes c e)
  where
    by : Comes c e → Concludes c e
    by (refuses k) =
        absurd (k.some (sym (ap (λ (x : Outcome). x.answer) k.outcome) ∙ eqb-true (outcome_of c e).answer 0 (and_r (is_tick c.input) _ h)))
    by (concludes k) = k
    by (grants k) = not_both (and_l (is_tick c.input) _ h) (ap is_tick k.how)

-- and leaves a frame owed only where it wrote none
owed_silent : (c : Call) (e : End) → Concludes c e → (outcome_of c e).end.own.owed ≡ true → wrote c e ≡ false
unfolding sent
owed_silent c e h o =
    whether (sends (dues_after e h.made))
    (λ t. never (rw (sent-outcome c e h t) at o))
    (λ f. silent_wrote c e (sends_none c e h f))

-- where ten are written no call but a tick writes
full_silent : (s : Settings) → Accepted s → (c : Call) (cs : List Call) → AllOfOctets (c ∷ cs) → most_frames ≤ written_frames (after s cs).meter
    → accepted_tick c (after s cs) ≡ false → wrote c (after s cs) ≡ false
full_silent s a c cs o h n =
    let e = after s cs in
    let room : wrote c e ≡ true → has_room (opened c e) ≡ true = (call_meter c e o.0 (run_ranged s a cs o.1)).room in
    whether (wrote c e) (λ w. not_both (rw n at room w) (full e.meter h)) (λ f. f)

-- ---- over some calls

module _ (s : Settings) (a : Accepted s) where
  -- ten frames are written, and none of them in the newest k + 1 intervals
  record Waits (k : ℕ) (cs : List Call) : Type 0 where
    pub ten : most_frames ≤ written_frames (after s cs).meter
    pub none : frames_back k (history s cs) ≡ 0

  -- some calls with at most ten ticks, of which the first began to wait
  record Over (ds cs : List Call) : Type 0 where
    pub ticks : ℕ
    pub are : ticks_in (history s (ds ++ cs)) ≡ ticks_in (history s cs) + ticks
    pub few : ticks ≤ 10
    pub waits : (k : ℕ) → ticks ≡ suc k → Waits k (ds ++ cs)

  module _ (d : Call) (ds cs : List Call) (o : AllOfOctets (d ∷ (ds ++ cs))) (owed : (after s (d ∷ (ds ++ cs))).own.owed ≡ true) (b : Over ds cs) where
    abbrev e : End
    e = after s (ds ++ cs)

    over_tick : accepted_tick d e ≡ true → Over (d ∷ ds) cs
    over_tick t = record { ticks = b.ticks + 1; are = rw t (omega (arith, b.are)); few = few; waits = λ k z. record { ten = ten; none = none k (omega arith) } }
      where
        concluding : Concludes d e
        concluding = tick_concludes d e t

        ten : most_frames ≤ written_frames (after s (d ∷ (ds ++ cs))).meter
        ten = owed_full d e concluding owed

        silent : wrote d e ≡ false
        silent = owed_silent d e concluding owed

        none : (k : ℕ) → b.ticks ≡ k → frames_back k (history s (d ∷ (ds ++ cs))) ≡ 0
        none zero z = rw (t, silent)
        none (suc k) z =
            let entry : entry_of d e ≡ record { tick = true; frame = false } = λ i. record { tick = t i; frame = silent i } in
            ap (λ (x : Entry). frames_back (suc k) (x ∷ history s (ds ++ cs))) entry
            ∙ back_tick k false (history s (ds ++ cs)) ∙ omega (arith, (b.waits k z).none)

        few : b.ticks + 1 ≤ 10
        few =
            whether (leb (b.ticks + 1) 10)
            (leb-true (b.ticks + 1) 10)
            (λ f.
            let all : b.ticks ≡ 10 = omega (arith, b.few, leb-false (b.ticks + 1) 10 f) in
            absurd (omega (arith, ten, none 10 all, run_counts s a (d ∷ (ds ++ cs)) o)))

    over_other : accepted_tick d e ≡ false → Over (d ∷ ds) cs
    over_other f = record { ticks = b.ticks; are = rw f (omega (arith, b.are)); few = b.few; waits = waits }
      where
        waits : (k : ℕ) → b.ticks ≡ suc k → Waits k (d ∷ (ds ++ cs))
        waits k z =
            let w = b.waits k z in
            let silent = full_silent s a d (ds ++ cs) o w.ten f in
            let entry : entry_of d e ≡ record { tick = false; frame = false } = λ i. record { tick = f i; frame = silent i } in
            let quiet : (n : ℕ) → frames_back n (history s (d ∷ (ds ++ cs))) ≡ frames_back n (history s (ds ++ cs)) =
            λ n. ap (λ (x : Entry). frames_back n (x ∷ history s (ds ++ cs))) entry ∙ back_other n false (history s (ds ++ cs)) ∙ omega arith in
            record {
              ten = omega (arith, w.ten, quiet 10, run_counts s a (d ∷ (ds ++ cs)) o, run_counts s a (ds ++ cs) o.1);
              none = quiet k ∙ w.none;
            }

  over : (ds cs : List Call) → AllOfOctets (ds ++ cs) → OwesAfterEach s ds cs → Over ds cs
  over [] cs o w = record { ticks = 0; are = omega arith; few = omega arith; waits = λ k z. absurd (omega arith) }
  over (d ∷ ds) cs o w =
      let b = over ds cs o.1 w.1 in
      whether (accepted_tick d (after s (ds ++ cs))) (over_tick d ds cs o w.0 b) (over_other d ds cs o w.0 b)

pub owed_ten_ticks : (s : Settings) → Accepted s → (ds cs : List Call) → AllOfOctets (ds ++ cs) → OwesAfterEach s ds cs
    → ticks_in (history s (ds ++ cs)) ≤ ticks_in (history s cs) + 10
owed_ten_ticks s a ds cs o w = let h = over s a ds cs o w in omega (arith, h.are, h.few)
