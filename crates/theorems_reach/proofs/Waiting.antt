-- The eleventh frame of a stretch: no tick, receive or report writes it, and it stays owed, that of the tenth tick too; a request
-- for it is refused with 13, and only such a one. What stays owed stays so only for want of room.
use Prim.Native.Nat.{ℕ, ◌<◌, ◌≤◌}
use mathlib.Core.Path.{◌≡◌, refl, sym, ap, ◌∙◌}
use mathlib.Core.List.{List, ◌∷◌}
use mathlib.Core.Bool.{Bool, true, false, and-false, or-true}
use native.Mathlib.Omega.{arith}
use borrow.Author.Tests.{ltb-false, lt-ltb, le-ltb}
use lib.ListN.{length}
use Rattle.octets.specs.Layout.{shortest_frame}
use Rattle.octets.proofs.Bools.{by_cond, never, not_both, whether}
use Rattle.frame.specs.Frame.{Answer, refused, accepted, decode}
use Rattle.frame.proofs.Stepping.{refused_number}
use Rattle.link_limit.specs.Tests.{request_answer}
use Rattle.link_limit.specs.Limit.{most_frames, written_frames, has_room, closes, turned_meter}
use Rattle.link_limit.specs.Owing.{owes}
use Rattle.link_limit.specs.declared.Meter.{Meter}
use Rattle.link_peer.specs.declared.Settings.{Settings}
use Rattle.link_end.specs.declared.End.{End}
use Rattle.link_end.specs.Parts.{discovery_of}
use Rattle.link_end.specs.Sending.{fault_flag_of, flags_to_send, allowed, changed, dues, sends, sent}
use Rattle.link_end.specs.Granting.{answer_to, decided}
use Rattle.link_end.specs.declared.News.TheVariants.{Nothing}
use Rattle.link_end.specs.Ticking.{ticked, ticked_due}
use Rattle.link_end.specs.Reporting.{reported_due}
use Rattle.link_end.specs.Hearing.{said_by, heard_of}
use Rattle.link_end.specs.Taking.{taken, taken_due}
use Rattle.link.specs.Outcomes.{Outcome, too_short}
use Rattle.link.specs.Ticks.{tick_of, tick_output}
use Rattle.link.specs.Reports.{report_of}
use Rattle.link.specs.Hearing.{concluded_heard, received, receive_of}
use Rattle.link.specs.Requests.{octets_asked, concluded_request, request_of}
use Rattle.theorems_reach.specs.Machine.{Request, tick, report, receive, request, Input, Call, asked_of, outcome_of}
use Rattle.theorems_reach.specs.Runs.{after, history}
use Rattle.theorems_reach.specs.Intervals.{frames_back}
use Rattle.theorems_reach.specs.Premises.{Accepted, AllOfOctets, Admitted}
use Rattle.theorems_reach.proofs.Coming.{ticks, dues_after, Concludes, Comes, refuses, concludes, grants, comes}
use Rattle.theorems_reach.proofs.Standing.{Ranged}
use Rattle.theorems_reach.proofs.Refusing.{concluded_0, concludes_0}
use Rattle.theorems_reach.proofs.Staying.{Lasting, meter_by, made_stays}
use Rattle.theorems_reach.proofs.Passing.{passes_grant}
use Rattle.theorems_reach.proofs.Framing.{Silent, Writes, sent-outcome, kept_outcome, sends_none, sends_writes}
use Rattle.theorems_reach.proofs.Counting.{opened, opened_by, dues_meter, run_counts, run_limit}

-- ten frames leave no room
pub full : (m : Meter) → most_frames ≤ written_frames m → has_room m ≡ false
unfolding has_room
full m h = le-ltb (written_frames m) most_frames h

-- and where there is none, ten were written
filled : (m : Meter) → has_room m ≡ false → most_frames ≤ written_frames m
unfolding has_room
filled m h = ltb-false (written_frames m) most_frames h

full_sends : (e : End) → most_frames ≤ written_frames e.meter → sends e ≡ false
unfolding sends
full_sends e h = rw (full e.meter h) (and-false e.own.owed)

-- ---- it is not written

module _ (c : Call) (e : End) (h : most_frames ≤ written_frames (opened c e)) where
  none_sent : (k : Concludes c e) → sends (dues_after e k.made) ≡ false
  none_sent k = full_sends (dues_after e k.made) (rw (dues_meter c e k ∙ opened_by c e (concludes_0 c e k)) h)

  by_comes : Comes c e → Silent c e
  by_comes (refuses k) = record { none = ap (λ (x : Outcome). x.length) k.outcome; output = k.output }
  by_comes (concludes k) = sends_none c e k (none_sent k)
  by_comes (grants k) =
      let m = sym (opened_by c e (ap (λ (x : Outcome). x.answer) k.outcome)) ∙ ap (λ (i : Input). meter_by i e.meter) k.how in
      not_both (passes_grant k).roomy (full e.meter (rw m at h))

  pub eleventh_silent : Silent c e
  eleventh_silent = by_comes (comes c e)

  -- after a tick, a report or an accepted frame it is owed where it was before, where a command was obeyed, or where the flags or
  -- the State octet changed
  pub eleventh_owed : (k : Concludes c e)
      → (outcome_of c e).end.own.owed ≡ owes (allowed (outcome_of c e).end) e.own.owed k.made.due (changed e (outcome_of c e).end)
  unfolding dues allowed discovery_of fault_flag_of changed flags_to_send
  eleventh_owed k =
      let o = ap (λ (l : Lasting). l.owed) (made_stays e c.input k.made k.how) in
      rw (kept_outcome c e k (none_sent k), o)

-- ---- what stays owed stays so for want of room

owed_room : (e : End) → sends e ≡ false → e.own.owed ≡ true → most_frames ≤ written_frames e.meter
unfolding sends
owed_room e f o = filled e.meter (rw o at f)

pub owed_full : (c : Call) (e : End) → Concludes c e → (outcome_of c e).end.own.owed ≡ true → most_frames ≤ written_frames (outcome_of c e).end.meter
unfolding sent
owed_full c e h =
    let x = dues_after e h.made in
    whether (sends x)
    (λ t o. never (rw (sent-outcome c e h t) at o))
    (λ f o. rw (kept_outcome c e h f) (owed_room x f (rw (kept_outcome c e h f) at o)))

-- in a run: behind ten frames of the present and ten preceding intervals
pub owed_ten : (s : Settings) → Accepted s → (c : Call) (cs : List Call) → AllOfOctets (c ∷ cs) → Concludes c (after s cs)
    → (after s (c ∷ cs)).own.owed ≡ true → frames_back 10 (history s (c ∷ cs)) ≡ 10
owed_ten s a c cs o h w =
    omega (arith, owed_full c (after s cs) h w, run_counts s a (c ∷ cs) o, run_limit s a (c ∷ cs) o)

-- ---- "The tenth-tick Information frame waits, owed, until the limit allows it."

-- an accepted tick at which a frame is due and allowed
module _ (out : List ℕ) (e : End) (long : shortest_frame ≤ length out) (tenth : closes e.meter ≡ true) (allows : allowed (ticked e) ≡ true) where
  abbrev ticking : Call
  ticking = record { input = tick; out = out }

  concluding : Concludes ticking e
  unfolding tick_of tick_output ticked_due
  concluding =
      let n = le-ltb (length out) shortest_frame long in
      record { made = _; how = ticks; room = long; outcome = rw n; output = rw n }

  abbrev next : End
  next = dues_after e concluding.made

  is_owed : next.own.owed ≡ true
  unfolding dues allowed discovery_of concluding
  is_owed = rw (allows, tenth) (or-true (ticked e).own.owed)

  -- with ten frames in the stretch of the interval that it opens it is not written, and is owed
  pub tenth_waits : most_frames ≤ written_frames (turned_meter e.meter) → Silent ticking e × ((outcome_of ticking e).end.own.owed ≡ true)
  tenth_waits h =
      let f = full_sends next (rw (dues_meter ticking e concluding) h) in
      (sends_none ticking e concluding f, rw (kept_outcome ticking e concluding f) is_owed)

  -- with fewer it is
  pub tenth_writes : written_frames (turned_meter e.meter) < most_frames → Ranged e → Writes ticking e × ((outcome_of ticking e).end.own.owed ≡ false)
  unfolding sends sent has_room
  tenth_writes h r =
      let t : sends next ≡ true = rw (is_owed, dues_meter ticking e concluding) (lt-ltb (written_frames (turned_meter e.meter)) most_frames h) in
      (sends_writes ticking e concluding t tt r, rw (sent-outcome ticking e concluding t))

-- ---- a request for it

module _ (q : Request) (out : List ℕ) where
  abbrev asking : Call
  asking = record { input = request q; out = out }

  pub eleventh_13 : (e : End) → Admitted q e → most_frames ≤ written_frames e.meter → (outcome_of asking e).answer ≡ 13
  unfolding request_of concluded_request decided answer_to request_answer
  eleventh_13 e a h =
      rw (lt-ltb 0 (octets_asked (asked_of q e)) a.formed, a.any, a.permitted, a.fits, full e.meter h)

  -- where there is room it is not 13
  room_13 : (formed any permitted fits roomy : Bool) → request_answer formed any permitted fits true roomy ≡ 13 → ⊥
  unfolding request_answer
  room_13 false any permitted fits roomy h = omega arith
  room_13 true false permitted fits roomy h = omega arith
  room_13 true true false fits roomy h = omega arith
  room_13 true true true false roomy h = omega arith
  room_13 true true true true false h = omega arith
  room_13 true true true true true h = omega arith

  pub thirteen_full : (e : End) → (outcome_of asking e).answer ≡ 13 → most_frames ≤ written_frames e.meter
  unfolding request_of concluded_request decided answer_to
  thirteen_full e h = whether (has_room e.meter) (λ t. absurd (room_13 _ _ _ _ _ (rw t at h))) (filled e.meter)

  -- "13 is given exactly when ten were written in the present and ten preceding intervals"
  pub thirteen_exactly : (s : Settings) → Accepted s → (cs : List Call) → AllOfOctets cs → Admitted q (after s cs)
      → ((outcome_of asking (after s cs)).answer ≡ 13 → frames_back 10 (history s cs) ≡ 10)
      × (frames_back 10 (history s cs) ≡ 10 → (outcome_of asking (after s cs)).answer ≡ 13)
  thirteen_exactly s a cs o p =
      let e = after s cs in
      let counts = run_counts s a cs o in
      (λ h. omega (arith, thirteen_full e h, counts, run_limit s a cs o), λ h. eleventh_13 e p (omega (arith, counts, h)))

-- a tick, a report or a frame is answered 0 to 9
pub never_13 : (i : Input) (out : List ℕ) (e : End) → ((q : Request) → i ≡ request q → ⊥) → (outcome_of (record { input = i; out = out }) e).answer ≤ 9
unfolding tick_of report_of receive_of concluded_heard
never_13 tick out e n =
    by_cond (λ (x : Outcome). x.answer ≤ 9) (too_short (length out)) (λ _. omega arith) (λ _. omega (arith, concluded_0 (length out) Nothing (ticked_due e)))
never_13 (report r) out e n =
    by_cond (λ (x : Outcome). x.answer ≤ 9) (too_short (length out)) (λ _. omega arith) (λ _. omega (arith, concluded_0 (length out) Nothing (reported_due r e)))
never_13 (receive f) out e n = by_cond (λ (x : Outcome). x.answer ≤ 9) (too_short (length out)) (λ _. omega arith) (λ _. by (decode f) refl)
  where
    by : (a : Answer) → decode f ≡ a → (received (length out) (said_by (decode f)) e).answer ≤ 9
    by (refused k) d = rw d (omega (arith, refused_number f k d))
    by (accepted m) d = rw d (omega (arith, concluded_0 (length out) (taken (heard_of m) e).shown (taken_due (heard_of m) e)))
never_13 (request q) out e n = absurd (n q refl)
