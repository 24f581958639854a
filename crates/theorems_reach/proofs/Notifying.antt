-- A notification beside the two maximum sizes: both 664 or more are large enough for any, and where one is smaller 16 symbol period
-- events are answered 12.
use Prim.Native.Nat.{ℕ, ◌+◌, ◌^◌, ◌<◌, ◌≤◌}
use mathlib.Core.Path.{◌≡◌}
use mathlib.Core.List.{List}
use mathlib.Core.Bool.{true}
use native.Mathlib.Omega.{arith}
use borrow.Author.Tests.{lt-ltb, le-leb, lt-leb}
use lib.ListN.{length}
use Rattle.octets.specs.Tests.{every}
use Rattle.octets.proofs.Bools.{not_both}
use Rattle.frame.specs.Frame.{notification}
use Rattle.frame_writer.specs.Plain.{most_events, plain_events, plain_body}
use Rattle.frame_writer.specs.Writing.{events_of}
use Rattle.theorems_frame.specs.Notifying.{longest_notification, symbol_period}
use Rattle.theorems_frame.proofs.Notifying.{notification-sized, sixteen_sized}
use Rattle.link_limit.specs.Tests.{request_answer}
use Rattle.link_end.specs.declared.End.{End}
use Rattle.link_end.specs.Parts.{in_any}
use Rattle.link_end.specs.Ranges.{ranged}
use Rattle.link_end.specs.Granting.{answer_to, decided, smaller_maximum}
use Rattle.link.specs.Requests.{octets_asked, notifying, concluded_request, request_of}
use Rattle.theorems_reach.specs.Machine.{request, notify, Call, outcome_of}
use Rattle.theorems_reach.proofs.Coming.{answer_is}
use Rattle.theorems_reach.proofs.Standing.{ranged_is}

module _ (vs out : List ℕ) (e : End) where
  abbrev call : Call
  call = record { input = request (notify vs); out = out }

  -- "up to 16, still within both ends' sizes": where the smaller has room for the longest, none is answered 12, of any end
  pub sixteen_fit : longest_notification + 4 ≤ smaller_maximum e → (outcome_of call e).answer ≡ 12 → ⊥
  unfolding request_of concluded_request decided smaller_maximum
  sixteen_fit h =
      let a = notifying vs e in
      let octets = octets_asked a in
      let fits = le-leb (octets + 4) (smaller_maximum e) (omega (arith, notification-sized e.own.number (events_of vs))) in
      answer_is (λ (n : ℕ). n ≡ 12 → ⊥) octets a.permitted a.measured (length out) e
      (λ _ z. omega arith) (λ z. omega arith) (λ z. omega arith) (λ f. not_both fits f) (λ z. omega arith) (λ z. omega arith) (λ z. omega arith)

  -- where it has not, 16 symbol period events in plain form are, by a ranged end in SEND_ANY
  pub sixteen_exceed : ranged e ≡ true → in_any e ≡ true → plain_events (events_of vs) ≡ true → length (events_of vs) ≡ most_events
      → every symbol_period (events_of vs) ≡ true → smaller_maximum e < longest_notification + 4 → (outcome_of call e).answer ≡ 12
  unfolding request_of concluded_request decided answer_to request_answer smaller_maximum
  sixteen_exceed r any p l s h =
      let n = e.own.number in
      let number = lt-ltb n (256 ^ 2) (ranged_is e r).stands.number in
      let plainly : plain_body (notification n (events_of vs)) ≡ true = rw number p in
      rw (sixteen_sized n (events_of vs) plainly l s, any, lt-leb (longest_notification + 4) (smaller_maximum e) h)
