-- What a request comes to, by what is decided of it.
use Prim.Native.Nat.{ℕ}
use Rattle.std.proofs.Common.{rules}
use mathlib.Core.Path.{◌≡◌, refl, sym, ap, ◌∙◌}
use mathlib.Core.List.{List}
use mathlib.Core.Bool.{Bool, true, false}
use native.Mathlib.Omega.{arith}
use borrow.Author.Tests.{eqb-true}
use lib.Dec.{ltb, leb, eqb}
use lib.ListN.{length}
use Rattle.std.specs.Prelude.{Result, Ok, Err}
use Rattle.octets.specs.declared.refusal.Refusal.{Refusal}
use Rattle.octets.specs.Refusals.{number}
use Rattle.octets.proofs.Bools.{whether}
use Rattle.frame.specs.Frame.{Message}
use Rattle.frame_writer.specs.Plain.{some_octets}
use Rattle.frame_writer.specs.Writing.{Written, as_written, writes, written, Writing, WritingFormed, message_of}
use Rattle.frame_writer.specs.declared.sender.Sender.{Sender}
use Rattle.octets.specs.Refusals.{as_answer}
use Rattle.link_limit.specs.Tests.{request_answer}
use Rattle.link_end.specs.declared.End.{End}
use Rattle.link_end.specs.declared.News.TheVariants.{Nothing}
use Rattle.link_end.specs.Sending.{sender_of}
use Rattle.link_end.specs.Granting.{Decided, as_decided, octets_in, answer_to, decided}
use Rattle.link.specs.declared.Step.{Step}
use Rattle.link.specs.Outcomes.{length_of, outcome, told}
use Rattle.link.specs.Requests.{Asked, request_to_send, concluded_request, concluded_request_output, decided_request, request_of, request_output}

-- a refusal's number is never 0, which is the answer to what is granted
never_0 : (r : Refusal) → eqb (number r) 0 ≡ false
never_0 r = search rules

-- a request of an end, whose end after the call is `after`
module _ (a : Asked) (e after : End) (out : List ℕ) where
  abbrev pub Requests : Result Step Refusal → List ℕ → Type 0
  Requests r exit = (told after r ≡ request_of a (length out) e) × (exit ≡ request_output a e out)

  abbrev decides : Result (Unit {0}) Refusal → Type 0
  decides r = as_decided after r ≡ decided_request a (length out) e

  -- refused: its number, and the output as it was
  pub refuses : (r : Result (Unit {0}) Refusal) → decides r → (refusal : Refusal) → r ≡ Err refusal → Requests (Err refusal) out
  unfolding request_of request_output concluded_request concluded_request_output
  refuses r h refusal is =
      let z = never_0 refusal in
      let d = rw is at h in
      (rw (← d, z) refl, rw (← d, z) refl)

  -- granted: its frame is written, by the end as it stands after the call
  pub grants : (r : Result (Unit {0}) Refusal) → decides r → r ≡ Ok tt → (sender : Sender) (w : Result ℕ Refusal) (s : Step) (exit : List ℕ)
      → sender ≡ sender_of after → Writing (message_of sender.source sender.flags a.body) out (as_written w) exit
      → told after (Ok s) ≡ outcome after 0 (length_of (as_written w)) Nothing → Requests (Ok s) exit
  unfolding request_of request_output concluded_request concluded_request_output request_to_send
  grants r d is sender w s exit p g o =
      let h = rw is at d in
      let m : message_of sender.source sender.flags a.body ≡ request_to_send a.body after = ap (λ (x : Sender). message_of x.source x.flags a.body) p in
      let l : as_written w ≡ writes (request_to_send a.body after) (length out) = g.answers ∙ ap (λ (x : Message). writes x (length out)) m in (
        o ∙ ap (λ (x : Written). outcome after 0 (length_of x) Nothing) l ∙ ap (λ (d : Decided). concluded_request d a.body (length out)) h,
        g.output ∙ ap (λ (x : Message). written x out) m ∙ ap (λ (d : Decided). concluded_request_output d a.body out) h,
      )

  -- a granted one is formed
  pub decided_formed : (r : Result (Unit {0}) Refusal) → decides r → r ≡ Ok tt → a.formed ≡ true
  unfolding decided answer_to request_answer
  decided_formed r h is =
      let z = ap (λ (d : Decided). d.answer) (sym h) ∙ ap as_answer is in
      whether a.formed (λ t. t) (λ f. absurd (omega (arith, rw f at z)))

-- what is not measured is answered alike for two numbers of octets that are alike 0, and alike no more than the output has
pub unmeasured : (n m : ℕ) (permitted : Bool) (lent : ℕ) (e : End) → ltb 0 n ≡ ltb 0 m → leb n lent ≡ leb m lent
    → answer_to n permitted false lent e ≡ answer_to m permitted false lent e
unfolding answer_to
unmeasured n m permitted lent e p q = rw (p, q)

-- the octets of a frame, 0 for none, by way of an option
pub octets_some : (n : ℕ) → octets_in (some_octets n) ≡ n
octets_some n = whether (eqb n 0) (λ t. rw t (sym (eqb-true n 0 t))) (λ f. rw f)

-- what is formed is written like any other
pub formed_writing : {formed : Bool} {m : Message} {entry exit : List ℕ} {w : Written} → formed ≡ true → WritingFormed formed m entry w exit → Writing m entry w exit
formed_writing t h = record { answers = h.answers ∙ rw t; output = h.output ∙ rw t }
