-- What a machine entry gives back as one number has each part of the outcome whole: the answer, the length, the State octet,
-- what is shown, how many events arose. This is so of every call of an entry on octets that hold an end.
use Rattle.std.specs.Prelude.{Option, None, Some}
use Prim.Native.Nat.{ℕ, ◌+◌, ◌*◌, ◌/◌, ◌%◌, ◌^◌, ◌<◌, ◌≤◌}
use mathlib.Core.Path.{◌≡◌, ap, ◌∙◌}
use mathlib.Core.List.{List}
use mathlib.Core.Bool.{true}
use mathlib.Core.Logic.{⊎_elim}
use native.Mathlib.Nat.{add-zero, mod-eq_of_lt}
use native.Mathlib.Omega.{arith}
use lib.Dec.{ltb, leb}
use lib.ListN.{length}
use Rattle.frame_tlvs.specs.declared.Event.{Event}
use Rattle.octets.proofs.Bools.{by_cond}
use Rattle.theorems_frame.proofs.Sizes.{encode-length}
use Rattle.link_loopback.specs.Roles.{octet_of}
use Rattle.link_loopback.specs.declared.Role.{Role}
use Rattle.link_loopback.specs.declared.Role.TheVariants.{Idle, Asking, Holding, Ending, Looping}
use Rattle.link_end.specs.declared.End.{End}
use Rattle.link_end.specs.declared.News.{News}
use Rattle.link_end.specs.declared.News.TheVariants.{Nothing, Frame, Events}
use Rattle.link_windows.specs.Watches.{Counted}
use Rattle.link_end.specs.Ranges.{ranged}
use Rattle.link_end.specs.Sending.{sends, sent}
use Rattle.link_end.specs.Granting.{granted}
use Rattle.link.specs.Outcomes.{Outcome, outcome, concluded}
use Rattle.oam_outcomes.specs.Stepped.{kind_of, stepped_number}
use Rattle.oam_packing.specs.Octets.{unpacked, watch_in}
use Rattle.theorems_packing.proofs.Packing.{unpacked-ranged}
use Rattle.link_end.specs.Parts.{Is}
use Rattle.theorems_reach.specs.Machine.{tick, report, receive, request, Call, asked_of, outcome_by, outcome_of, meant}
use Rattle.theorems_reach.specs.Premises.{OfOctets}
use Rattle.theorems_reach.proofs.Coming.{dues_after, Comes, refuses, concludes, grants, comes}
use Rattle.theorems_reach.proofs.Refusing.{concludes_0}
use Rattle.theorems_reach.proofs.Framing.{silent_or_writes}
use Rattle.oam_showing.specs.Reading.{header_numbers}
use Rattle.oam.specs.Machine.{report_from, reported_by, received_by}
use Rattle.oam.specs.Ticking.{arisen_count, counted_events, arisen_room, ticked_by, ticked_number}
use Rattle.theorems_archive.specs.Entries.{EntryInput, ticks, reports, receives, asks, EntryCall, outcome_for, arisen_for, answer_for, comes_to, EntryOctets, InBits}
use Rattle.theorems_archive.proofs.Leaving.{ticked_outcome}

-- ---- where each part is small enough

pub record Small (o : Outcome) : Type 0 where
  pub answer : o.answer ≤ 15
  pub length : o.length ≤ 1514
  pub octet : o.octet ≤ 6

kind_small : (n : News) → kind_of n ≤ 2
kind_small Nothing = omega arith
kind_small (Frame h) = omega arith
kind_small (Events h n) = omega arith

-- with some events beside it, or none
pub whole : (o : Outcome) → Small o → (arisen : ℕ) → arisen ≤ 2 → InBits o arisen (stepped_number o + arisen * 2 ^ 50)
unfolding stepped_number
whole o h arisen few =
    let n = stepped_number o + arisen * 2 ^ 50 in
    let k = kind_small o.shown in
    let a : o.answer < 2 ^ 8 = omega (arith, h.answer) in
    let l : o.length < 2 ^ 32 = omega (arith, h.length) in
    let s : o.octet < 2 ^ 8 = omega (arith, h.octet) in
    let cut : o.length % 2 ^ 32 ≡ o.length = mod-eq_of_lt l in
    let past : n / 2 ^ 8 ≡ o.length + o.octet * 2 ^ 32 + kind_of o.shown * 2 ^ 40 + arisen * 2 ^ 42 = omega (arith, a, cut) in
    let above : n / 2 ^ 40 ≡ o.octet + kind_of o.shown * 2 ^ 8 + arisen * 2 ^ 10 = omega (arith, a, l, cut) in
    let last : n / 2 ^ 48 ≡ kind_of o.shown + arisen * 4 = omega (arith, a, l, s, cut) in
    record {
      answer = omega (arith, a);
      written = ap (λ (m : ℕ). m % 2 ^ 32) past ∙ omega (arith, l);
      octet = ap (λ (m : ℕ). m % 2 ^ 8) above ∙ omega (arith, s);
      kind = ap (λ (m : ℕ). m % 4) last ∙ omega (arith, k);
      events = omega (arith, a, l, s, cut, k);
      few = few;
    }

-- ---- they are: the answer is a number of the paper's table, the length that of a frame, the octet a role's

octet_small : (r : Role) → octet_of r ≤ 6
octet_small Idle = omega arith
octet_small Asking = omega arith
octet_small Holding = omega arith
octet_small Ending = omega arith
octet_small Looping = omega arith

refusal_small : (n : ℕ) (e : End) → n ≤ 15 → Small (outcome e n 0 Nothing)
refusal_small n e h = record { answer = h; length = omega arith; octet = octet_small e.role }

concluded-octet : (octets : ℕ) (shown : News) (e : End) → (concluded octets shown e).octet ≤ 6
unfolding concluded
concluded-octet octets shown e =
    by_cond (λ (o : Outcome). o.octet ≤ 6) (sends e) (λ _. octet_small (sent e).role) (λ _. octet_small e.role)

call_length : (c : Call) (e : End) → OfOctets c.input → ranged e ≡ true → (outcome_of c e).length ≤ 1514
call_length c e o r =
    ⊎_elim (λ s. omega (arith, s.none)) (λ w. let long = (encode-length (meant c e) w.plainly).1 in omega (arith, w.octets)) (silent_or_writes c e o r)

call_answer : (c : Call) (e : End) → Comes c e → (outcome_of c e).answer ≤ 15
call_answer c e (refuses h) = rw h.outcome h.known
call_answer c e (concludes h) = rw (concludes_0 c e h) (omega arith)
call_answer c e (grants h) = rw h.outcome (omega arith)

call_octet : (c : Call) (e : End) → Comes c e → (outcome_of c e).octet ≤ 6
call_octet c e (refuses h) = rw h.outcome (octet_small e.role)
call_octet c e (concludes h) = rw h.outcome (concluded-octet (length c.out) h.made.shown (dues_after e h.made))
call_octet c e (grants h) = rw h.outcome (octet_small (granted e (asked_of h.asked e).next).role)

call_small : (c : Call) (e : End) → OfOctets c.input → ranged e ≡ true → Small (outcome_of c e)
call_small c e o r = record { answer = call_answer c e (comes c e); length = call_length c e o r; octet = call_octet c e (comes c e) }

-- ---- so of every entry

entry_small : (h : EntryInput) (out : List ℕ) (e : End) → EntryOctets h → ranged e ≡ true → Small (comes_to (record { input = h; out = out }) e)
unfolding reported_by received_by
entry_small (ticks count room) out e o r =
    by_cond Small (ltb room arisen_room) (λ _. refusal_small 9 e (omega arith)) (λ _. call_small (record { input = tick; out = out }) e tt r)
entry_small (reports n) out e o r =
    by_cond Small (leb n 5) (λ _. call_small (record { input = report (report_from n); out = out }) e tt r) (λ _. refusal_small 10 e (omega arith))
entry_small (receives f room) out e o r =
    by_cond Small (ltb room header_numbers) (λ _. refusal_small 9 e (omega arith)) (λ _. call_small (record { input = receive f; out = out }) e o r)
entry_small (asks q) out e o r = call_small (record { input = request q; out = out }) e tt r

-- two events at most
counted_few : (c : Counted) → counted_events c ≤ 2
counted_few c = omega (arith, arisen_most c.frames, arisen_most c.seconds)
  where
    arisen_most : (a : Option Event) → arisen_count a ≤ 1
    arisen_most None = omega arith
    arisen_most (Some e) = omega arith

-- a number with no events beside it
none_beside : (o : Outcome) → Small o → InBits o 0 (stepped_number o)
none_beside o h = rw (add-zero (stepped_number o)) at (whole o h 0 (omega arith))

pub entry_whole : (x : EntryCall) (state : List ℕ) (e : End) → EntryOctets x.input → unpacked state ≡ Is e
    → InBits (comes_to x e) (arisen_for x.input (length x.out) (watch_in state) e) (answer_for x.input (length x.out) state)
unfolding ticked_number
entry_whole x state e o h = by x.input o
  where
    r : ranged e ≡ true
    r = unpacked-ranged state e h

    by : (i : EntryInput) → EntryOctets i
        → InBits (outcome_for i (length x.out) e) (arisen_for i (length x.out) (watch_in state) e) (answer_for i (length x.out) state)
    by (ticks count room) o =
        let t = ticked_by count room (length x.out) (watch_in state) e in
        rw (h, ticked_outcome count room (length x.out) (watch_in state) e)
        (whole (outcome_for (ticks count room) (length x.out) e) (entry_small (ticks count room) x.out e o r) (counted_events t.counted) (counted_few t.counted))
    by (reports n) o = rw h (none_beside (reported_by n (length x.out) e) (entry_small (reports n) x.out e o r))
    by (receives f room) o = rw h (none_beside (received_by f room (length x.out) e) (entry_small (receives f room) x.out e o r))
    by (asks q) o = rw h (none_beside (outcome_by (request q) (length x.out) e) (entry_small (asks q) x.out e o r))
