-- The written-frames number is the frames written in the present and ten preceding intervals: call by call, and over the whole
-- history. It is never more than ten, so no eleven successive intervals have more (Stretches).
use Prim.Native.Nat.{ℕ, zero, suc, ◌+◌, ◌-◌, ◌%◌, ◌<◌, ◌≤◌}
use mathlib.Core.Path.{◌≡◌, refl, sym, ap, ◌∙◌}
use mathlib.Core.List.{List, [], ◌∷◌}
use mathlib.Core.Bool.{Bool, true, false, cond, ◌&&◌}
use native.Mathlib.Nat.{sub-zero}
use native.Mathlib.Omega.{arith}
use borrow.Author.Tests.{leb-true, leb-false, eq-eqb, ne_eqb}
use lib.Dec.{eqb}
use Rattle.octets.proofs.Bools.{by_cond, and_r, not_both, whether}
use Rattle.theorems_frame.proofs.Sizes.{encode-length}
use Rattle.link_limit.specs.Limit.{stretch_intervals, second_ticks, new_meter, frames_of_newest, written_frames, has_room, charged_meter, closes, turned_meter}
use Rattle.link_limit.specs.declared.Meter.{Meter}
use Rattle.link_limit.proofs.Newest.{newest_none}
use Rattle.link_peer.specs.declared.Settings.{Settings}
use Rattle.link_end.specs.declared.End.{End}
use Rattle.link.specs.Outcomes.{Outcome}
use Rattle.link_end.specs.Parts.{fresh_end}
use Rattle.link_end.specs.Sending.{dues, sends, sent}
use Rattle.link_end.specs.Granting.{granted}
use Rattle.link_end.specs.Ranges.{ranged}
use Rattle.theorems_reach.specs.Machine.{Input, tick, report, receive, request, Call, outcome_of, meant}
use Rattle.theorems_reach.specs.Runs.{after, wrote, is_tick, accepted_tick, entry_of, history}
use Rattle.theorems_reach.specs.Intervals.{Entry, count, ticks_in, frames_back}
use Rattle.theorems_reach.specs.Seconds.{closed_by}
use Rattle.theorems_reach.specs.Premises.{Accepted, OfOctets, AllOfOctets}
use Rattle.theorems_reach.proofs.Coming.{dues_after, Concludes, Comes, refuses, concludes, grants, comes}
use Rattle.theorems_reach.proofs.Digits.{charged_newest, turned_newest, newest_zero}
use Rattle.theorems_reach.proofs.Standing.{Ranged, ranged_is}
use Rattle.theorems_reach.proofs.Keeping.{InputFits, octets_fit}
use Rattle.theorems_reach.proofs.Staying.{Lasting, meter_by, made_stays, asked_stays}
use Rattle.theorems_reach.proofs.Passing.{passes_grant}
use Rattle.theorems_reach.proofs.Ranging.{run_is}
use Rattle.theorems_reach.proofs.Framing.{Silent, Writes, sent-outcome, kept_outcome, sends_writes, sends_none, grants_writes}

-- the meter that a call finds: an accepted tick turns it
abbrev pub opened : Call → End → Meter
opened c e = cond (accepted_tick c e) (turned_meter e.meter) e.meter

-- a frame more, or none
abbrev pub counted : Bool → Meter → Meter
counted true m = charged_meter m
counted false m = m

-- and leaves: a frame is written only where there is room, and is counted
pub record Metered (c : Call) (e : End) : Type 0 where
  pub meter : (outcome_of c e).end.meter ≡ counted (wrote c e) (opened c e)
  pub room : wrote c e ≡ true → has_room (opened c e) ≡ true

-- ---- whether a frame was written

pub writes_wrote : (c : Call) (e : End) → Writes c e → wrote c e ≡ true
writes_wrote c e w =
    let long = (encode-length (meant c e) w.plainly).0 in
    rw (ne_eqb (outcome_of c e).length 0 (λ z. omega (arith, w.octets)))

pub silent_wrote : (c : Call) (e : End) → Silent c e → wrote c e ≡ false
silent_wrote c e s = rw s.none

-- ---- each call

-- an accepted call finds the meter by its input
pub opened_by : (c : Call) (e : End) → (outcome_of c e).answer ≡ 0 → meter_by c.input e.meter ≡ opened c e
opened_by c e h = rw h (by c.input)
  where
    by : (i : Input) → meter_by i e.meter ≡ cond (is_tick i && true) (turned_meter e.meter) e.meter
    by tick = refl
    by (report r) = refl
    by (receive f) = refl
    by (request q) = refl

-- a refused one finds it as it was
opened_refused : (c : Call) (e : End) → ((outcome_of c e).answer ≡ 0 → ⊥) → e.meter ≡ opened c e
opened_refused c e n = rw (ne_eqb (outcome_of c e).answer 0 n) (by (is_tick c.input))
  where
    by : (b : Bool) → e.meter ≡ cond (b && false) (turned_meter e.meter) e.meter
    by true = refl
    by false = refl

pub dues_meter : (c : Call) (e : End) (h : Concludes c e) → (dues_after e h.made).meter ≡ meter_by c.input e.meter
unfolding dues
dues_meter c e h = ap (λ (k : Lasting). k.meter) (made_stays e c.input h.made h.how)

by_comes : (c : Call) (e : End) → InputFits c.input → Ranged e → Comes c e → Metered c e
unfolding sends sent granted dues
by_comes c e o r (refuses h) =
    let same = opened_refused c e (λ z. h.some (sym (ap (λ (k : Outcome). k.answer) h.outcome) ∙ z)) in
    let w = silent_wrote c e (record { none = ap (λ (k : Outcome). k.length) h.outcome; output = h.output }) in
    record { meter = rw w (ap (λ (k : Outcome). k.end.meter) h.outcome ∙ same); room = λ t. not_both t w }
by_comes c e o r (concludes h) =
    whether (sends (dues_after e h.made))
    (λ t.
    let x = sent-outcome c e h t in
    let m = dues_meter c e h ∙ opened_by c e (ap (λ (k : Outcome). k.answer) x) in
    let w = writes_wrote c e (sends_writes c e h t o r) in
    let has : has_room (opened c e) ≡ true = rw (← m) (and_r (dues_after e h.made).own.owed (has_room (dues_after e h.made).meter) t) in
    record { meter = rw w (ap (λ (k : Outcome). k.end.meter) x ∙ ap charged_meter m); room = λ _. has })
    (λ f.
    let x = kept_outcome c e h f in
    let m = dues_meter c e h ∙ opened_by c e (ap (λ (k : Outcome). k.answer) x) in
    let w = silent_wrote c e (sends_none c e h f) in
    record { meter = rw w (ap (λ (k : Outcome). k.end.meter) x ∙ m); room = λ t. not_both t w })
by_comes c e o r (grants h) =
    let m = opened_by c e (ap (λ (k : Outcome). k.answer) h.outcome) in
    let w = writes_wrote c e (grants_writes c e r h) in
    let same = ap (λ (k : Lasting). k.meter) (asked_stays h.asked e) in
    let found : e.meter ≡ opened c e = ap (λ (i : Input). meter_by i e.meter) (sym h.how) ∙ m in
    let has : has_room (opened c e) ≡ true = rw (← found) (passes_grant h).roomy in
    record { meter = rw w (ap (λ (k : Outcome). k.end.meter) h.outcome ∙ ap charged_meter (same ∙ found)); room = λ _. has }

pub call_meter : (c : Call) (e : End) → OfOctets c.input → ranged e ≡ true → Metered c e
call_meter c e o r = by_comes c e (octets_fit c.input o) (ranged_is e r) (comes c e)

-- ---- the numbers

-- a frame that may be counted
module _ (m : Meter) where
  counted_newest : (b : Bool) → (b ≡ true → has_room m ≡ true) → (k : ℕ)
      → frames_of_newest (suc k) (counted b m).intervals ≡ frames_of_newest (suc k) m.intervals + count b
  counted_newest true h k = charged_newest m (h refl) k
  counted_newest false h k = omega arith

  pub counted-ticks : (b : Bool) → (counted b m).ticks ≡ m.ticks
  unfolding charged_meter
  counted-ticks true = refl
  counted-ticks false = refl

-- the written-frames number after a call: that of the meter it finds, and the call's own frame
pub call_counts : (c : Call) (e : End) → OfOctets c.input → ranged e ≡ true
    → written_frames (outcome_of c e).end.meter ≡ written_frames (opened c e) + count (wrote c e)
unfolding written_frames
call_counts c e o r =
    let h = call_meter c e o r in
    ap written_frames h.meter ∙ counted_newest (opened c e) (wrote c e) h.room (stretch_intervals - 1)

-- ---- the history

-- the frames of a history that is longer by a tick, or by another call
pub back_tick : (k : ℕ) (frame : Bool) (xs : List Entry) → frames_back (suc k) (record { tick = true; frame = frame } ∷ xs) ≡ frames_back k xs + count frame
back_tick k frame xs = let e : suc k - 1 ≡ k = omega arith in rw (ne_eqb (suc k) 0 (λ z. omega arith), e)

pub back_other : (k : ℕ) (frame : Bool) (xs : List Entry) → frames_back k (record { tick = false; frame = frame } ∷ xs) ≡ frames_back k xs + count frame
back_other k frame xs = rw (sub-zero k)

-- the meter agrees with a history, in each of the intervals that it counts
pub record Agrees (m : Meter) (xs : List Entry) : Type 0 where
  pub ticks : m.ticks ≡ ticks_in xs % 10
  pub frames : (k : ℕ) → k < stretch_intervals → frames_of_newest (suc k) m.intervals ≡ frames_back k xs

turned_meter-ticks : (m : Meter) (t : ℕ) → m.ticks ≡ t % 10 → (turned_meter m).ticks ≡ (t + 1) % 10
unfolding turned_meter closes
turned_meter-ticks m t h =
    by_cond (λ (n : ℕ). n ≡ (t + 1) % 10) (closes m)
    (λ y. omega (arith, leb-true (second_ticks - 1) m.ticks y)) (λ n. omega (arith, leb-false (second_ticks - 1) m.ticks n))

-- a tick that may be counted
module _ (m : Meter) (xs : List Entry) (a : Agrees m xs) where
  may_turn_ticks : (b : Bool) → (cond b (turned_meter m) m).ticks ≡ (ticks_in xs + count b) % 10
  may_turn_ticks true = turned_meter-ticks m (ticks_in xs) a.ticks
  may_turn_ticks false = omega (arith, a.ticks)

  may_turn_frames : (tick frame : Bool) (k : ℕ) → k < stretch_intervals
      → frames_of_newest (suc k) (cond tick (turned_meter m) m).intervals + count frame ≡ frames_back k (record { tick = tick; frame = frame } ∷ xs)
  may_turn_frames true frame zero h = ap (λ (n : ℕ). n + count frame) (turned_newest m 0 h ∙ newest_none m.intervals)
  may_turn_frames true frame (suc k) h =
      ap (λ (n : ℕ). n + count frame) (turned_newest m (suc k) h ∙ a.frames k (omega arith)) ∙ sym (back_tick k frame xs)
  may_turn_frames false frame k h = ap (λ (n : ℕ). n + count frame) (a.frames k h) ∙ sym (back_other k frame xs)

-- the written-frames number is the count over the history
pub agrees_written : (m : Meter) (xs : List Entry) → Agrees m xs → written_frames m ≡ frames_back 10 xs
unfolding written_frames
agrees_written m xs a = a.frames 10 (omega arith)

-- after a call
pub keeps_agrees : (c : Call) (e : End) → InputFits c.input → Ranged e → (xs : List Entry) → Agrees e.meter xs
    → Agrees (outcome_of c e).end.meter (entry_of c e ∷ xs)
keeps_agrees c e o r xs a =
    let m = by_comes c e o r (comes c e) in
    record {
      ticks = ap (λ (n : Meter). n.ticks) m.meter ∙ counted-ticks (opened c e) (wrote c e) ∙ may_turn_ticks e.meter xs a (accepted_tick c e);
      frames = λ k h.
          ap (λ (n : Meter). frames_of_newest (suc k) n.intervals) m.meter
          ∙ counted_newest (opened c e) (wrote c e) m.room k
          ∙ may_turn_frames e.meter xs a (accepted_tick c e) (wrote c e) k h;
    }

-- no call yet
pub fresh_agrees : Agrees new_meter []
fresh_agrees = record { ticks = refl; frames = λ k h. newest_zero (suc k) }

pub run_agrees : (s : Settings) → Accepted s → (cs : List Call) → AllOfOctets cs
    → Agrees (after s cs).meter (history s cs)
unfolding fresh_end
run_agrees s a [] o = fresh_agrees
run_agrees s a (c ∷ cs) o =
    keeps_agrees c (after s cs) (octets_fit c.input o.0) (run_is s a cs o.1) (history s cs) (run_agrees s a cs o.1)

-- a tick closes a timer second where it is the tenth, the twentieth and so on of the history
closes_tenth : (m : Meter) (t : ℕ) → m.ticks ≡ t % 10 → closes m ≡ eqb ((t + 1) % 10) 0
unfolding closes
closes_tenth m t h =
    whether (closes m)
    (λ y. rw (y, eq-eqb ((t + 1) % 10) 0 (omega (arith, leb-true (second_ticks - 1) m.ticks y))))
    (λ n. rw (n, ne_eqb ((t + 1) % 10) 0 (λ z. omega (arith, leb-false (second_ticks - 1) m.ticks n))))

pub run_closes : (s : Settings) → Accepted s → (cs : List Call) → AllOfOctets cs → (frame : Bool)
    → closes (after s cs).meter ≡ closed_by (record { tick = true; frame = frame }) (history s cs)
run_closes s a cs o frame = closes_tenth (after s cs).meter (ticks_in (history s cs)) (run_agrees s a cs o).ticks

pub run_counts : (s : Settings) → Accepted s → (cs : List Call) → AllOfOctets cs → written_frames (after s cs).meter ≡ frames_back 10 (history s cs)
run_counts s a cs o = agrees_written (after s cs).meter (history s cs) (run_agrees s a cs o)

-- "ten frames over any eleven successive" intervals, the latest
pub run_limit : (s : Settings) → Accepted s → (cs : List Call) → AllOfOctets cs → frames_back 10 (history s cs) ≤ 10
run_limit s a cs o = omega (arith, run_counts s a cs o, (run_is s a cs o).stands.meter.written)
