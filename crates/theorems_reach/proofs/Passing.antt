-- What a request is granted on: each of the tests holds.
use Prim.Native.Nat.{ℕ, ◌+◌, ◌<◌, ◌≤◌, min}
use mathlib.Core.Path.{◌≡◌, refl}
use mathlib.Core.Bool.{Bool, true, false, cond, not, ◌||◌}
use native.Mathlib.Omega.{arith}
use borrow.Author.Tests.{ltb-true, leb-true}
use lib.Dec.{ltb, leb}
use lib.ListN.{length}
use Rattle.link_limit.specs.Tests.{fits_both, request_answer}
use Rattle.link_peer.specs.Peers.{peer_maximum}
use Rattle.link_limit.specs.Limit.{has_room}
use Rattle.link_end.specs.declared.End.{End}
use Rattle.link_end.specs.Parts.{in_any}
use Rattle.link_end.specs.Granting.{answer_to}
use Rattle.link.specs.Requests.{octets_asked}
use Rattle.theorems_reach.specs.Machine.{Call, asked_of}
use Rattle.theorems_reach.proofs.Bools.{implies}
use Rattle.theorems_reach.proofs.Coming.{Grants}

pub record Passes (octets : ℕ) (allows measured : Bool) (lent : ℕ) (e : End) : Type 0 where
  pub formed : 0 < octets
  pub any : in_any e ≡ true
  pub permitted : allows ≡ true
  pub fits : measured ≡ true → octets + 4 ≤ min e.settings.size (peer_maximum e.peer.held)
  pub roomy : has_room e.meter ≡ true
  pub long : octets ≤ lent

-- a test that holds, and those after it
pass : (b : Bool) (k n : ℕ) → (n ≡ 0 → ⊥) → cond b k n ≡ 0 → (b ≡ true) × (k ≡ 0)
pass true k n s h = (refl, h)
pass false k n s h = absurd (s h)

pub passes : (octets : ℕ) (permitted measured : Bool) (lent : ℕ) (e : End)
    → answer_to octets permitted measured lent e ≡ 0 → Passes octets permitted measured lent e
unfolding answer_to request_answer
passes octets permitted measured lent e h =
    let fit = fits_both octets e.settings.size (peer_maximum e.peer.held) in
    let p10 = pass (ltb 0 octets) _ 10 (λ z. omega arith) h in
    let p11 = pass (in_any e) _ 11 (λ z. omega arith) p10.1 in
    let p15 = pass permitted _ 15 (λ z. omega arith) p11.1 in
    let p12 = pass (not measured || fit) _ 12 (λ z. omega arith) p15.1 in
    let p13 = pass (has_room e.meter) _ 13 (λ z. omega arith) p12.1 in
    let p9 = pass (leb octets lent) _ 9 (λ z. omega arith) p13.1 in
    record {
      formed = ltb-true 0 octets p10.0;
      any = p11.0;
      permitted = p15.0;
      fits = λ m. leb-true (octets + 4) (min e.settings.size (peer_maximum e.peer.held)) (implies measured fit p12.0 m);
      roomy = p13.0;
      long = leb-true octets lent p9.0;
    }

-- the tests of a call that is granted
pub passes_grant : {c : Call} {e : End} (h : Grants c e)
    → Passes (octets_asked (asked_of h.asked e)) (asked_of h.asked e).permitted (asked_of h.asked e).measured (length c.out) e
passes_grant {c} {e} h =
    let a = asked_of h.asked e in
    passes (octets_asked a) a.permitted a.measured (length c.out) e h.answer
