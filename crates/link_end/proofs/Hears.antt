-- What is heard of the octets of an accepted frame is what is heard of the message that it says.
use Prim.Native.Nat.{ℕ}
use mathlib.Core.Path.{◌≡◌, refl, ap}
use mathlib.Core.List.{List}
use Rattle.frame.specs.Frame.{Body, information, notification, request, response, loopback, organization, Message, code_of, accepted, decode, judgement_of}
use Rattle.frame.specs.Judgement.{Refused, Accepted}
use Rattle.frame.proofs.Judging.{judged_accepted, judged_refused, event_number_agrees, command_agrees}
use Rattle.link_end.specs.declared.Action.TheVariants.{Notify, Command}
use Rattle.link_end.specs.Hearing.{Is, Refusal, action_of, said_by, action_by, heard_at}

module _ (f : List ℕ) where
  action_is : (m : Message) → decode f ≡ accepted m → (b : Body) → m.body ≡ b → action_by f (code_of b) ≡ action_of b
  action_is m d (information ps) e = refl
  action_is m d (notification n es) e = ap Notify (event_number_agrees f m d n es e)
  action_is m d (request ds) e = refl
  action_is m d (response cs) e = refl
  action_is m d (loopback n) e = ap Command (command_agrees f m d n e)
  action_is m d (organization oui x) e = refl

  pub says_refusal : (n : ℕ) → judgement_of f ≡ Refused n → Refusal n ≡ said_by (decode f)
  says_refusal n j = rw (judged_refused f n j)

  pub says_heard : (at skipped : ℕ) → judgement_of f ≡ Accepted at skipped → Is (heard_at f at skipped) ≡ said_by (decode f)
  says_heard at skipped j =
      let k = judged_accepted f at skipped j in
      let m = k.0 in
      let a = k.1 in
      rw (a.decoded, a.header, a.local, action_is m a.decoded m.body refl)
