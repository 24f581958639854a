-- After oam_fresh and any calls of the archive's entries, refused ones too, the lent octets unpack to the end that the
-- machine's own calls make of a fresh one, and the watch beside it is the one that the counts of the accepted ticks make of a fresh
-- one. So every entry takes them again, and what is shown of every run of the machine and of every history of counts is so of the
-- archive.
use Prim.Native.Nat.{ℕ}
use mathlib.Core.Path.{◌≡◌, refl, sym, ap, ◌∙◌}
use mathlib.Core.List.{List, [], ◌∷◌, ◌++◌}
use mathlib.Core.Bool.{true, false, cond}
use borrow.Author.Tests.{eqb-false, eq-eqb}
use lib.Dec.{ltb, leb, eqb}
use lib.ListN.{length}
use lib.Seq.{sets}
use Rattle.octets.proofs.Bools.{whether, never}
use Rattle.link_limit.specs.Limit.{closes, turned_meter}
use Rattle.link_limit.specs.declared.Meter.{Meter}
use Rattle.link_peer.specs.declared.Settings.{Settings}
use Rattle.link_end.specs.declared.End.{End}
use Rattle.link.specs.Outcomes.{Outcome}
use Rattle.link_end.specs.Parts.{Is, MaybeEnd, fresh_end, fresh_of}
use Rattle.link_end.specs.Ranges.{ranged}
use Rattle.link_windows.specs.Ranges.{Is as WatchIs}
use Rattle.link_windows.specs.declared.Watch.{Watch}
use Rattle.link_windows.specs.Watches.{phase_of, taken_count}
use Rattle.link_windows.specs.Ranges.{fresh_watch, proper}
use Rattle.theorems_windows.specs.History.{frames_arisen, seconds_arisen}
use Rattle.theorems_windows.specs.Runs.{watch_by, WindowSettings, Accepted as WindowsAccepted, fresh_by}
use Rattle.theorems_windows.specs.Numbers.{HeldAfter, ArisenOf}
use Rattle.theorems_windows.proofs.Keeping.{proper_fresh, phase_fresh, proper_counted, phase_counted, by_appended}
use Rattle.theorems_windows.proofs.Watching.{watch_history}
use Rattle.theorems_windows.proofs.Showing.{shown_history}
use Rattle.oam_packing.specs.Octets.{state_length, packed_in, watch_packed_in, unpacked, watch_in}
use Rattle.theorems_packing.proofs.Packing.{unpacked_long, unpacked-ranged, unpacked_beside, stored_unpacked, stored_watch, both_unpacked, both_watch}
use Rattle.oam_outcomes.specs.Stepped.{stepped_number, stepped_state}
use Rattle.theorems_reach.specs.Machine.{tick, report, receive, request, Call, outcome_by, outcome_of}
use Rattle.theorems_reach.specs.Runs.{after, wrote, is_tick}
use Rattle.theorems_reach.specs.Premises.{Accepted, OfOctets}
use Rattle.theorems_reach.proofs.Refusing.{refused_end}
use Rattle.theorems_reach.proofs.Standing.{fresh_ranged}
use Rattle.theorems_reach.proofs.Ranging.{call_ranged}
use Rattle.theorems_reach.proofs.Counting.{opened, call_meter, counted-ticks}
use Rattle.oam_showing.specs.Reading.{header_numbers}
use Rattle.oam.specs.Machine.{answer_of, output_after, news_shown, heard_in, fresh_for, fresh_state, report_from, reported_by, received_by}
use Rattle.oam.specs.Ticking.{arisen_room, arisen_numbers, ticked_by, ticked_number, ticked_state, events_after_tick}
use Rattle.theorems_archive.specs.Entries.{EntryInput, ticks, reports, receives, asks, EntryCall, is_ticks, outcome_for, output_for, answer_for, state_for, comes_to, watch_for, kept_after, call_of, calls_in, counts_by, counts_in, tick_call, tick_then, EntryOctets, AllOfOctetsIn}
use Rattle.theorems_archive.proofs.Leaving.{ticked_outcome, ticked_counted}

-- ---- what oam_fresh stores for settings that the paper takes

module _ (s : Settings) (a : Accepted s) (w : WindowSettings) (b : WindowsAccepted w) (state : List ℕ) (l : length state ≡ state_length) where
  made_fresh : fresh_for s state ≡ Is (fresh_end s)
  unfolding fresh_for fresh_of
  made_fresh = rw (eq-eqb (length state) state_length l, a.sound)

  watch_fresh : watch_for w ≡ WatchIs (fresh_by w)
  unfolding fresh_watch
  watch_fresh = rw (b.frames, b.seconds)

  both_fresh : fresh_state (fresh_for s state) (watch_for w) state ≡ watch_packed_in (fresh_by w) (packed_in (fresh_end s) state)
  both_fresh = rw (made_fresh, watch_fresh)

  pub stored_fresh : unpacked (fresh_state (fresh_for s state) (watch_for w) state) ≡ Is (fresh_end s)
  unfolding fresh_end
  stored_fresh =
      rw both_fresh
      (both_unpacked (fresh_end s) (fresh_by w) state l (fresh_ranged s a.sound a.vendor) (proper_fresh w b) (phase_fresh w))

  pub watch_stored : watch_in (fresh_state (fresh_for s state) (watch_for w) state) ≡ fresh_by w
  watch_stored = rw both_fresh (both_watch (fresh_end s) (fresh_by w) state l (proper_fresh w b))

-- ---- what the machine's calls make of an end

abbrev end_after : List Call → End → End
end_after [] e = e
end_after (c ∷ cs) e = (outcome_of c (end_after cs e)).end

after_appended : (s : Settings) (new cs : List Call) → end_after new (after s cs) ≡ after s (new ++ cs)
after_appended s [] cs = refl
after_appended s (c ∷ new) cs = ap (λ (e : End). (outcome_of c e).end) (after_appended s new cs)

-- and of its ticks in the timer second: a frame that is written leaves them
call_ticks : (c : Call) (e : End) → OfOctets c.input → ranged e ≡ true → (outcome_of c e).end.meter.ticks ≡ (opened c e).ticks
call_ticks c e o r = ap (λ (m : Meter). m.ticks) (call_meter c e o r).meter ∙ counted-ticks (opened c e) (wrote c e)

-- ---- a call of the machine, stored

-- any but a tick leaves the watch
record Beside (o : Outcome) (x : List ℕ) : Type 0 where
  end : unpacked (stepped_state o x) ≡ Is o.end
  watch : watch_in (stepped_state o x) ≡ watch_in x

stored_call : (x : List ℕ) (e : End) (c : Call) → is_tick c.input ≡ false → OfOctets c.input → unpacked x ≡ Is e → Beside (outcome_of c e) x
unfolding stepped_state
stored_call x e c i o h =
    let r = unpacked-ranged x e h in
    whether (eqb (outcome_of c e).answer 0)
    (λ t.
    let stay : (outcome_of c e).end.meter.ticks ≡ e.meter.ticks = call_ticks c e o r ∙ rw i in
    record {
      end = rw t (stored_unpacked x e (outcome_of c e).end h (call_ranged c e o r) stay);
      watch = rw t (stored_watch (outcome_of c e).end x);
    })
    (λ f.
    let same = refused_end c e (eqb-false (outcome_of c e).answer 0 f) in
    record { end = rw f (h ∙ ap (λ (y : End). Is y) (sym same)); watch = rw f })

-- ---- a tick, stored

module _ (count room : ℕ) (out : List ℕ) (e : End) where
  abbrev came : Outcome
  came = outcome_for (ticks count room) (length out) e

  came-end : came.end ≡ end_after (call_of (ticks count room) out) e
  came-end = whether (ltb room arisen_room) (λ t. rw t) (λ f. rw f)

  -- an accepted one keeps to the ranges, and turns the timer second
  came_accepted : ranged e ≡ true → eqb came.answer 0 ≡ true → (ranged came.end ≡ true) × (came.end.meter.ticks ≡ (turned_meter e.meter).ticks)
  came_accepted r =
      let c : Call = record { input = tick; out = out } in
      whether (ltb room arisen_room) (λ t h. never (rw t at h))
      (λ f h.
      let yes : eqb (outcome_of c e).answer 0 ≡ true = rw f at h in
      rw f (call_ranged c e tt r, call_ticks c e tt r ∙ rw yes))

  came_refused : (came.answer ≡ 0 → ⊥) → came.end ≡ e
  came_refused = whether (ltb room arisen_room) (λ t _. rw t) (λ f n. rw f (refused_end (record { input = tick; out = out }) e (rw f at n)))

  ticked_state_lem : (w : Watch) (x : List ℕ)
      → ticked_state (ticked_by count room (length out) w e) x ≡ cond (eqb came.answer 0) (watch_packed_in (taken_count w count).watch (packed_in came.end x)) x
  unfolding ticked_state stepped_state
  ticked_state_lem w x =
      rw (ticked_outcome count room (length out) w e, ticked_counted count room (length out) w e)
      (whether (eqb came.answer 0) (λ t. rw t) (λ f. rw f))

-- the watch's second goes as the end's
turned_phase : (w : Watch) (m : Meter) (count : ℕ) → proper w ≡ true → phase_of w ≡ m.ticks → phase_of (taken_count w count).watch ≡ (turned_meter m).ticks
unfolding turned_meter closes
turned_phase w m count p t = phase_counted w count p ∙ rw t

-- ---- a call of an entry, stored

record Stored (h : EntryInput) (out x : List ℕ) (e : End) : Type 0 where
  end : unpacked (state_for h (length out) x) ≡ Is (end_after (call_of h out) e)
  watch : watch_in (state_for h (length out) x) ≡ watch_by (watch_in x) (counts_by h (outcome_for h (length out) e).answer)

stored_entry_lem : (h : EntryInput) (out x : List ℕ) (e : End) → EntryOctets h → unpacked x ≡ Is e → Stored h out x e
unfolding reported_by received_by stepped_state
stored_entry_lem (ticks count room) out x e o k =
    let w = watch_in x in
    let a = came count room out e in
    let beside = unpacked_beside x e k in
    let l = unpacked_long x e k in
    let same : state_for (ticks count room) (length out) x ≡ cond (eqb a.answer 0) (watch_packed_in (taken_count w count).watch (packed_in a.end x)) x =
    rw k (ticked_state_lem count room out e w x) in
    whether (eqb a.answer 0)
    (λ t.
    let good = came_accepted count room out e (unpacked-ranged x e k) t in
    let p = proper_counted w count beside.0 in
    let phase = turned_phase w e.meter count beside.0 beside.1 ∙ sym good.1 in
    record {
      end = rw (same, t, ← came-end count room out e) (both_unpacked a.end (taken_count w count).watch x l good.0 p phase);
      watch = rw (same, t) (both_watch a.end (taken_count w count).watch x l p);
    })
    (λ f.
    let still : e ≡ end_after (call_of (ticks count room) out) e = sym (came_refused count room out e (eqb-false a.answer 0 f)) ∙ came-end count room out e in
    record { end = rw (same, f) (k ∙ ap (λ (y : End). Is y) still); watch = rw (same, f) })
stored_entry_lem (reports n) out x e o k =
    whether (leb n 5)
    (λ t. let b = stored_call x e (record { input = report (report_from n); out = out }) refl tt k in record { end = rw (k, t) b.end; watch = rw (k, t) b.watch })
    (λ f. record { end = rw (k, f) k; watch = rw (k, f) })
stored_entry_lem (receives f room) out x e o k =
    whether (ltb room header_numbers)
    (λ t. record { end = rw (k, t) k; watch = rw (k, t) })
    (λ g. let b = stored_call x e (record { input = receive f; out = out }) refl o k in record { end = rw (k, g) b.end; watch = rw (k, g) b.watch })
stored_entry_lem (asks q) out x e o k =
    let b = stored_call x e (record { input = request q; out = out }) refl tt k in record { end = rw k b.end; watch = rw k b.watch }

-- ---- every history

module _ (s : Settings) (a : Accepted s) (w : WindowSettings) (b : WindowsAccepted w) (state : List ℕ) (l : length state ≡ state_length) where
  pub kept_run : (xs : List EntryCall) → AllOfOctetsIn xs → unpacked (kept_after s w state xs) ≡ Is (after s (calls_in xs))
  kept_run [] o = stored_fresh s a w b state l
  kept_run (x ∷ xs) o =
      (stored_entry_lem x.input x.out (kept_after s w state xs) (after s (calls_in xs)) o.0 (kept_run xs o.1)).end
      ∙ ap (λ (e : End). Is e) (after_appended s (call_of x.input x.out) (calls_in xs))

  pub kept_watch : (xs : List EntryCall) → AllOfOctetsIn xs → watch_in (kept_after s w state xs) ≡ watch_by (fresh_by w) (counts_in s xs)
  kept_watch [] o = watch_stored s a w b state l
  kept_watch (x ∷ xs) o =
      let new = counts_by x.input (comes_to x (after s (calls_in xs))).answer in
      (stored_entry_lem x.input x.out (kept_after s w state xs) (after s (calls_in xs)) o.0 (kept_run xs o.1)).watch
      ∙ ap (λ (v : Watch). watch_by v new) (kept_watch xs o.1)
      ∙ by_appended (fresh_by w) (counts_in s xs) new

  -- so its numbers are sums over the whole history of counts
  pub kept_history : (xs : List EntryCall) → AllOfOctetsIn xs → HeldAfter w (counts_in s xs) (watch_in (kept_after s w state xs))
  kept_history xs o = rw (kept_watch xs o) (watch_history w b (counts_in s xs))

  -- ---- and the next entry answers and writes as the machine does in that run

  pub entry_answers : (x : EntryCall) → is_ticks x.input ≡ false → (xs : List EntryCall) → AllOfOctetsIn xs
      → answer_for x.input (length x.out) (kept_after s w state xs) ≡ stepped_number (comes_to x (after s (calls_in xs)))
  entry_answers x f xs o = by x.input f
    where
      by : (h : EntryInput) → is_ticks h ≡ false
          → answer_for h (length x.out) (kept_after s w state xs) ≡ stepped_number (outcome_for h (length x.out) (after s (calls_in xs)))
      by (ticks count room) f = never (sym f)
      by (reports n) f = ap (answer_of (reported_by n (length x.out))) (kept_run xs o)
      by (receives g room) f = ap (answer_of (received_by g room (length x.out))) (kept_run xs o)
      by (asks q) f = ap (answer_of (outcome_by (request q) (length x.out))) (kept_run xs o)

  pub entry_writes : (x : EntryCall) (xs : List EntryCall) → AllOfOctetsIn xs
      → output_after (output_for x.input) (unpacked (kept_after s w state xs)) x.out ≡ output_for x.input (after s (calls_in xs)) x.out
  entry_writes x xs o = ap (λ (f : MaybeEnd). output_after (output_for x.input) f x.out) (kept_run xs o)

  -- what `oam_receive` stores in the header is what the machine shows
  pub entry_hears : (x : EntryCall) (xs : List EntryCall) (header : List ℕ) → AllOfOctetsIn xs
      → heard_in (comes_to x) (unpacked (kept_after s w state xs)) header ≡ sets header 0 (news_shown (comes_to x (after s (calls_in xs))).shown).numbers
  entry_hears x xs header o = ap (λ (f : MaybeEnd). heard_in (comes_to x) f header) (kept_run xs o)

  -- ---- a tick, by the watch that the counts before it made

  module _ (count room : ℕ) (out : List ℕ) (xs : List EntryCall) (o : AllOfOctetsIn xs) where
    pub entry_ticks : answer_for (ticks count room) (length out) (kept_after s w state xs) ≡ ticked_number (tick_then s w xs count room (length out))
    entry_ticks = rw (kept_run xs o, kept_watch xs o)

    module _ (accepted : (comes_to (tick_call count room out) (after s (calls_in xs))).answer ≡ 0) where
      -- what arises at an accepted one is what the history says that has its count as the last
      pub entry_arises : ArisenOf w (counts_in s (tick_call count room out ∷ xs)) (tick_then s w xs count room (length out)).counted
      entry_arises =
          let v : Watch = watch_by (fresh_by w) (counts_in s xs) in
          let taken : (tick_then s w xs count room (length out)).counted ≡ taken_count v count =
          ticked_counted count room (length out) v (after s (calls_in xs)) ∙ rw accepted in
          rw (taken, accepted) (shown_history w b (counts_in s xs) count)

      -- and is stored in the events: "The totals must equal sums over the whole history of counts, not over what was sent."
      pub entry_shows : (events : List ℕ)
          → events_after_tick (ticked_by count room (length out) (watch_in (kept_after s w state xs))) (unpacked (kept_after s w state xs)) events
          ≡ sets events 0
          (arisen_numbers (frames_arisen w.frame_window w.frame_threshold (counts_in s (tick_call count room out ∷ xs)))
          ++ arisen_numbers (seconds_arisen w.seconds_window w.seconds_threshold (counts_in s (tick_call count room out ∷ xs))))
      entry_shows events = rw (kept_run xs o, kept_watch xs o, entry_arises.frames, entry_arises.seconds)
