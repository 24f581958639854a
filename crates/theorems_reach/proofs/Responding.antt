-- A Variable Response: it is never answered 12, and what is read of its frame is the answers that fit.
use Prim.Native.Nat.{ℕ}
use mathlib.Core.Path.{◌≡◌, sym, ap, ◌∙◌}
use mathlib.Core.List.{List}
use mathlib.Core.Bool.{true}
use native.Mathlib.Omega.{arith}
use lib.ListN.{length}
use Rattle.octets.proofs.Bools.{never}
use Rattle.frame.specs.Frame.{response, accepted, decode}
use Rattle.frame_variables.specs.Answers.{answers_within}
use Rattle.frame_writer.specs.Writing.{message_of}
use Rattle.link_end.specs.declared.End.{End}
use Rattle.link_end.specs.Sending.{flags_to_send}
use Rattle.link_end.specs.Granting.{decided, smaller_maximum}
use Rattle.link_end.specs.Ranges.{ranged}
use Rattle.link.specs.Outcomes.{Outcome}
use Rattle.link.specs.Requests.{octets_asked, responding, concluded_request, request_of}
use Rattle.theorems_reach.specs.Machine.{request, respond, Call, outcome_of, frame_of}
use Rattle.theorems_reach.proofs.Coming.{answer_is, Comes, refuses, concludes, grants, comes}
use Rattle.theorems_reach.proofs.Standing.{ranged_is}
use Rattle.theorems_reach.proofs.Framing.{Writes, made_body, grants_writes}
use Rattle.theorems_reach.proofs.Saying.{writes_meant}

module _ (ns vs ds out : List ℕ) (e : End) where
  abbrev call : Call
  call = record { input = request (respond ns vs ds); out = out }

  -- "12 is never given here", of any end
  pub respond_12 : (outcome_of call e).answer ≡ 12 → ⊥
  unfolding request_of concluded_request decided
  respond_12 =
      let a = responding ns vs ds e in
      answer_is (λ (n : ℕ). n ≡ 12 → ⊥) (octets_asked a) a.permitted a.measured (length out) e
      (λ _ z. omega arith) (λ z. omega arith) (λ z. omega arith) (λ f. never (sym f)) (λ z. omega arith) (λ z. omega arith) (λ z. omega arith)

  module _ (r : ranged e ≡ true) (z : (outcome_of call e).answer ≡ 0) where
    by_comes : Comes call e → Writes call e
    by_comes (refuses h) = absurd (h.some (sym (ap (λ (k : Outcome). k.answer) h.outcome) ∙ z))
    by_comes (concludes h) =
        let b = made_body e e call.input h.made h.how in
        let n : ◌≡◌ {A = ℕ} 0 1 = cc in
        absurd (omega arith)
    by_comes (grants h) = grants_writes call e (ranged_is e r) h

    -- an accepted one writes the frame of the response with those containers, which reads as it
    pub respond_reads : decode (frame_of call e)
        ≡ accepted (message_of e.settings.source (flags_to_send (outcome_of call e).end) (response (answers_within (smaller_maximum e) ns vs ds)))
    respond_reads = let w = by_comes (comes call e) in ap decode (writes_meant call e w) ∙ w.reads
