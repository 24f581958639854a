-- Every call comes to one of three things: it is refused, and nothing is changed; it is a tick, a report or an accepted frame
-- that makes something of the end, says what is owed, and writes an owed frame where it may; or it is a request that is
-- granted. What is shown of calls elsewhere is shown for each of the three.
use Prim.Native.Nat.{ℕ, ◌≤◌}
use mathlib.Core.Path.{◌≡◌, refl}
use mathlib.Core.List.{List}
use mathlib.Core.Bool.{Bool, false, not, ◌||◌}
use native.Mathlib.Omega.{arith}
use borrow.Author.Tests.{ltb-false, eqb-true, eqb-false}
use lib.ListN.{length}
use lib.Dec.{ltb, leb, eqb}
use Rattle.frame.specs.Frame.{Message, Answer, refused, accepted, decode}
use Rattle.frame.proofs.Stepping.{refused_number}
use Rattle.frame_writer.specs.Writing.{writes, written}
use Rattle.octets.specs.Layout.{shortest_frame}
use Rattle.link_limit.specs.Tests.{fits_both, request_answer}
use Rattle.link_limit.specs.Limit.{has_room, closes}
use Rattle.link_peer.specs.Peers.{peer_maximum}
use Rattle.link_end.specs.declared.End.{End}
use Rattle.link_end.specs.declared.Report.{Report}
use Rattle.link_end.specs.declared.News.TheVariants.{Nothing}
use Rattle.link_end.specs.Parts.{in_any}
use Rattle.link_end.specs.Sending.{dues}
use Rattle.link.specs.Outcomes.{outcome, length_of, concluded, concluded_output, too_short}
use Rattle.link_end.specs.Ticking.{ticked, ticked_due}
use Rattle.link.specs.Ticks.{tick_of, tick_output}
use Rattle.link_end.specs.Reporting.{reported, reported_due}
use Rattle.link.specs.Reports.{report_of, report_output}
use Rattle.link_end.specs.Hearing.{heard_of}
use Rattle.link_end.specs.Taking.{Taken, taken, taken_due}
use Rattle.link.specs.Hearing.{concluded_heard, concluded_heard_output, receive_of, receive_output}
use Rattle.link_end.specs.Granting.{answer_to, granted, decided}
use Rattle.link.specs.Requests.{Asked, octets_asked, request_to_send, concluded_request, concluded_request_output, request_of, request_output}
use Rattle.theorems_reach.specs.Machine.{Request, Input, tick, report, receive, request as asking, Call, asked_of, outcome_of, output_of}
use Rattle.octets.proofs.Bools.{by_cond, whether}

-- ---- what a tick, a report or an accepted frame makes of an end, before what is owed is said

pub data Made (e : End) : Input → Taken → Type 0 where
  ticks : Made e tick (record { end = ticked e; due = closes e.meter; shown = Nothing })
  reports : (r : Report) → Made e (report r) (record { end = reported r e; due = false; shown = Nothing })
  hears : (f : List ℕ) (m : Message) → decode f ≡ accepted m → Made e (receive f) (taken (heard_of m) e)

-- the end then: the revision, and what is owed
abbrev pub dues_after : End → Taken → End
dues_after e t = dues e t.due t.end

-- ---- the three things

pub record Refuses (c : Call) (e : End) : Type 0 where
  pub number : ℕ
  pub some : number ≡ 0 → ⊥
  pub known : number ≤ 15
  pub outcome : outcome_of c e ≡ outcome e number 0 Nothing
  pub output : output_of c e ≡ c.out

pub record Concludes (c : Call) (e : End) : Type 0 where
  pub made : Taken
  pub how : Made e c.input made
  pub room : shortest_frame ≤ length c.out
  pub outcome : outcome_of c e ≡ concluded (length c.out) made.shown (dues_after e made)
  pub output : output_of c e ≡ concluded_output (dues_after e made) c.out

pub record Grants (c : Call) (e : End) : Type 0 where
  pub asked : Request
  pub how : c.input ≡ asking asked
  pub answer : answer_to (octets_asked (asked_of asked e)) (asked_of asked e).permitted (asked_of asked e).measured (length c.out) e ≡ 0
  pub outcome : outcome_of c e
      ≡ outcome (granted e (asked_of asked e).next) 0
      (length_of (writes (request_to_send (asked_of asked e).body (granted e (asked_of asked e).next)) (length c.out))) Nothing
  pub output : output_of c e ≡ written (request_to_send (asked_of asked e).body (granted e (asked_of asked e).next)) c.out

pub data Comes (c : Call) (e : End) : Type 0 where
  refuses : Refuses c e → Comes c e
  concludes : Concludes c e → Comes c e
  grants : Grants c e → Comes c e

-- ---- each call

-- "Requests: 10, 11, 15, 12, 13, 9."
-- what is so of each is so of the answer, and 10 is given only for values out of range, 12 only where the frame is measured and
-- exceeds a size
pub answer_is : (P : ℕ → Type 0) (octets : ℕ) (permitted measured : Bool) (lent : ℕ) (e : End)
    → (ltb 0 octets ≡ false → P 10) → P 11 → P 15 → ((not measured || fits_both octets e.settings.size (peer_maximum e.peer.held)) ≡ false → P 12)
    → P 13 → P 9 → P 0 → P (answer_to octets permitted measured lent e)
unfolding answer_to request_answer
answer_is P octets permitted measured lent e ten eleven fifteen twelve thirteen nine none =
    by_cond P (ltb 0 octets)
    (λ _.
    by_cond P (in_any e)
    (λ _.
    by_cond P permitted
    (λ _.
    by_cond P (not measured || fits_both octets e.settings.size (peer_maximum e.peer.held))
    (λ _. by_cond P (has_room e.meter) (λ _. by_cond P (leb octets lent) (λ _. none) (λ _. nine)) (λ _. thirteen))
    twelve)
    (λ _. fifteen))
    (λ _. eleven))
    ten

answer_known : (a : Asked) (lent : ℕ) (e : End) → answer_to (octets_asked a) a.permitted a.measured lent e ≤ 15
answer_known a lent e =
    answer_is (λ (n : ℕ). n ≤ 15) (octets_asked a) a.permitted a.measured lent e
    (λ _. omega arith) (omega arith) (omega arith) (λ _. omega arith) (omega arith) (omega arith) (omega arith)

-- "Receive, tick and report test 9 first, against 60 octets."
short : (c : Call) (e : End) → outcome_of c e ≡ outcome e 9 0 Nothing → output_of c e ≡ c.out → Comes c e
short c e o p = refuses (record { number = 9; some = λ z. absurd (omega arith); known = omega arith; outcome = o; output = p })

module _ (out : List ℕ) (e : End) where
  abbrev lent : Input → Call
  lent i = record { input = i; out = out }

  comes_tick : Comes (lent tick) e
  unfolding tick_of tick_output ticked_due
  comes_tick =
      whether (too_short (length out))
      (λ t. short (lent tick) e (rw t) (rw t))
      (λ n. concludes (record { made = _; how = ticks; room = ltb-false (length out) shortest_frame n; outcome = rw n; output = rw n }))

  comes_report : (r : Report) → Comes (lent (report r)) e
  unfolding report_of report_output reported_due
  comes_report r =
      whether (too_short (length out))
      (λ t. short (lent (report r)) e (rw t) (rw t))
      (λ n. concludes (record { made = _; how = reports r; room = ltb-false (length out) shortest_frame n; outcome = rw n; output = rw n }))

  comes_receive : (f : List ℕ) → Comes (lent (receive f)) e
  unfolding receive_of receive_output taken_due concluded_heard concluded_heard_output
  comes_receive f =
      whether (too_short (length out)) (λ t. short (lent (receive f)) e (rw t) (rw t)) (λ n. by_answer n (decode f) refl)
    where
      by_answer : too_short (length out) ≡ false → (a : Answer) → decode f ≡ a → Comes (lent (receive f)) e
      by_answer n (refused k) d =
          let some = refused_number f k d in
          refuses (record { number = k; some = λ z. omega arith; known = omega arith; outcome = rw (n, d); output = rw (n, d) })
      by_answer n (accepted m) d =
          concludes
          (record { made = _; how = hears f m d; room = ltb-false (length out) shortest_frame n; outcome = rw (n, d); output = rw (n, d) })

  comes_request : (q : Request) → Comes (lent (asking q)) e
  unfolding request_of request_output concluded_request concluded_request_output decided
  comes_request q =
      let a = asked_of q e in
      let n : ℕ = answer_to (octets_asked a) a.permitted a.measured (length out) e in
      whether (eqb n 0)
      (λ t. let z = eqb-true n 0 t in grants (record { asked = q; how = refl; answer = z; outcome = rw z; output = rw z }))
      (λ f.
      refuses
      (record { number = n; some = eqb-false n 0 f; known = answer_known a (length out) e; outcome = rw f; output = rw f }))

  comes_by : (i : Input) → Comes (lent i) e
  comes_by tick = comes_tick
  comes_by (report r) = comes_report r
  comes_by (receive f) = comes_receive f
  comes_by (asking q) = comes_request q

pub comes : (c : Call) (e : End) → Comes c e
comes c e = comes_by c.out e c.input
