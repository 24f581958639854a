-- What is heard of a frame.
use Rattle.std.specs.Prelude.{ℕ, List, cond, eqb, drop, Result, Ok, Err}
use Rattle.octets.specs.declared.refusal.Refusal.{Refusal as Reason}
use Rattle.octets.specs.Refusals.{number}
use Rattle.octets.specs.Layout.{body_start}
use Rattle.frame_body.specs.Judging.{local_at}
use Rattle.frame.specs.Frame.{Body, information, notification, request, response, loopback, organization, Message, Answer, refused, accepted, header_in, header_of, event_number, command_of, local_of}
use Rattle.link_end.specs.declared.Action.{Action}
use Rattle.link_end.specs.declared.Action.TheVariants.{Inform, Notify, Command, Other}
use Rattle.link_end.specs.declared.Heard.{Heard}

-- what a body asks of the machine
abbrev pub action_of : Body → Action
action_of (information ps) = Inform
action_of (notification n es) = Notify n
action_of (request ds) = Other
action_of (response cs) = Other
action_of (loopback n) = Command n
action_of (organization oui x) = Other

-- what the machine hears of a message: its header, its Local TLV if it has one, and what its body asks
abbrev pub heard_of : Message → Heard
heard_of m = record { header = header_in m; local = local_of m.body; action = action_of m.body }

-- what a frame says to the machine: why it is refused, or what is heard of it; and the code's answer as it
pub data Said : Type 0 where
  Refusal : ℕ → Said
  Is : Heard → Said

abbrev pub as_said : Result Heard Reason → Said
as_said (Ok m) = Is m
as_said (Err r) = Refusal (number r)

abbrev pub said_by : Answer → Said
said_by (refused n) = Refusal n
said_by (accepted m) = Is (heard_of m)

-- how the code comes to it: from the octets of a frame whose Local TLV stands at an octet of its body, and in which so many TLVs
-- were skipped
abbrev pub action_by : List ℕ → ℕ → Action
action_by f code =
    cond (eqb code 0) Inform
    (cond (eqb code 1) (Notify (event_number f))
    (cond (eqb code 4) (Command (command_of f))
    Other))

abbrev pub heard_at : List ℕ → (at skipped : ℕ) → Heard
heard_at f at skipped =
    record { header = header_of f skipped; local = local_at (drop body_start f) at; action = action_by f (header_of f skipped).code }
