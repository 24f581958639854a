-- What a received frame makes of an end: what is kept of it, the moves, and the body's action.
use Rattle.frame_body.specs.declared.Information.{Information}
use Rattle.std.specs.Prelude.{ℕ, Bool, false, cond, ltb, eqb, Option, None, Some}
use Rattle.frame.specs.declared.Header.{Header}
use Rattle.link_peer.specs.Peers.{kept_from, record_from}
use Rattle.link_discovery.specs.declared.Discovery.{Discovery}
use Rattle.link_loopback.specs.Loopback.{role_after_local, obeys, role_after_command}
use Rattle.link_loopback.specs.declared.Role.{Role}
use Rattle.link_end.specs.declared.End.{End}
use Rattle.link_end.specs.declared.Effect.{Effect}
use Rattle.link_end.specs.declared.News.{News}
use Rattle.link_end.specs.declared.News.TheVariants.{Frame, Events}
use Rattle.link_end.specs.declared.Action.{Action}
use Rattle.link_end.specs.declared.Action.TheVariants.{Inform, Notify, Command, Other}
use Rattle.link_end.specs.declared.Heard.{Heard}
use Rattle.link_end.specs.Parts.{with_link, with_peer, with_role, with_own, with_lost, with_kept, with_held, with_last, in_any, settled}
use Rattle.link_end.specs.Sending.{own_after, dues}

-- what a frame comes to: the end after it, whether a loopback command was obeyed, and what is shown
pub record Taken : Type 0 where
  pub end : End
  pub due : Bool
  pub shown : News

-- the same by the end after it and the code's answer
abbrev pub as_taken : End → Effect → Taken
as_taken e effect = record { end = e; due = effect.obeyed; shown = effect.shown }

-- "lost-link count to 0; kept field from the flags; peer record from any Local TLV"
abbrev pub known : Heard → End → End
known m e =
    with_peer (with_held (record_from m.local e.peer.held) (with_kept (kept_from m.header.flags e.peer.kept) e.peer))
    (with_link (with_lost 0 e.link) e)

-- the same, then the "moves"
unfoldable pub learned : Heard → End → End
learned m e = settled (known m e)

-- whether a command from a source is obeyed
unfoldable pub obeys_command : ℕ → ℕ → End → Bool
obeys_command command source e =
    obeys command (ltb source e.settings.source) e.settings.configuration e.peer.held e.role

-- whether the body is a command that is obeyed
unfoldable pub obeyed : ℕ → Action → End → Bool
obeyed source Inform e = false
obeyed source (Notify n) e = false
obeyed source (Command command) e = obeys_command command source e
obeyed source Other e = false

-- the role after the body's action, by whether it was a command that is obeyed
unfoldable pub role_after : Option Information → Action → Bool → Role → Role
role_after local Inform obeyed role = role_after_local local role
role_after local (Notify n) obeyed role = role
role_after local (Command command) obeyed role = role_after_command command obeyed role
role_after local Other obeyed role = role

-- "only SEND_ANY keeps one"
abbrev pub last_after : Action → Option ℕ → Option ℕ
last_after Inform last = last
last_after (Notify n) last = Some n
last_after (Command command) last = last
last_after Other last = last

unfoldable pub acted : Heard → Bool → End → End
acted m obeyed e =
    with_role (role_after m.local m.action obeyed e.role)
    (with_peer (with_last (last_after m.action e.peer.last) e.peer) e)

-- "An event number equal to the last one kept since FAULT was entered is a repeat and shows no events"
unfoldable pub is_repeat : ℕ → Option ℕ → Bool
is_repeat n None = false
is_repeat n (Some m) = eqb n m

unfoldable pub shown_events : Header → ℕ → Option ℕ → News
shown_events h n last = cond (is_repeat n last) (Frame h) (Events h n)

unfoldable pub shown_of : Header → Action → Option ℕ → News
shown_of h Inform last = Frame h
shown_of h (Notify n) last = shown_events h n last
shown_of h (Command command) last = Frame h
shown_of h Other last = Frame h

-- "then the body's action, only in SEND_ANY"
unfoldable pub taken_up : Heard → End → Taken
taken_up m e =
    cond (in_any (learned m e))
    (record {
      end = acted m (obeyed m.header.source m.action (learned m e)) (learned m e);
      due = obeyed m.header.source m.action (learned m e);
      shown = shown_of m.header m.action e.peer.last;
    })
    (record { end = learned m e; due = false; shown = Frame m.header })

-- "Receive with the link down: read, answered, nothing of it kept (an owed frame is still written)."
unfoldable pub taken : Heard → End → Taken
taken m e = cond e.link.up (taken_up m e) (record { end = e; due = false; shown = Frame m.header })

unfoldable pub taken_due : Heard → End → End
taken_due m e = dues e (taken m e).due (taken m e).end

-- what a frame comes to with what is owed after it
abbrev pub due_taken : End → Taken → Taken
due_taken e t = record { end = dues e t.due t.end; due = t.due; shown = t.shown }

unfoldable pub taken_whole : Heard → End → Taken
taken_whole m e = due_taken e (taken m e)

-- how the code comes to it with the link up, by where discovery stands after the moves
unfoldable pub taken_in_any : Heard → End → Discovery → End → Taken
taken_in_any m before standing e =
    let now = obeyed m.header.source m.action e in
    let next = acted m now e in
    record {
      end = with_own (own_after before now standing next) next;
      due = now;
      shown = shown_of m.header m.action before.peer.last;
    }

unfoldable pub taken_elsewhere : Header → End → Discovery → End → Taken
taken_elsewhere header before standing e =
    record { end = with_own (own_after before false standing e) e; due = false; shown = Frame header }
