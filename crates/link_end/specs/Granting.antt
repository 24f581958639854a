-- What a request makes of an end, and the answer to it.
use Rattle.std.specs.Prelude.{ℕ, min, Bool, true, false, cond, not, ◌||◌, ltb, leb, eqb, Option, None, Some, Result}
use Rattle.octets.specs.declared.refusal.Refusal.{Refusal}
use Rattle.octets.specs.Layout.{shortest_frame}
use Rattle.link_peer.specs.Peers.{may_respond, peer_maximum}
use Rattle.octets.specs.Refusals.{as_answer}
use Rattle.link_limit.specs.Tests.{fits_both, request_answer}
use Rattle.link_limit.specs.Limit.{has_room, charged_meter}
use Rattle.link_limit.specs.Owing.{following}
use Rattle.link_loopback.specs.Loopback.{may_start, may_stop}
use Rattle.link_loopback.specs.declared.Role.TheVariants.{Asking, Ending}
use Rattle.link_end.specs.declared.End.{End}
use Rattle.link_end.specs.Parts.{with_role, with_meter, with_own, with_number, in_any}
use Rattle.link_end.specs.Sending.{dues}

-- what is decided of a request: the answer, 0 where it is granted, and the end after it; and the code's answer as it
pub record Decided : Type 0 where
  pub answer : ℕ
  pub end : End

abbrev pub as_decided : End → Result (Unit {0}) Refusal → Decided
as_decided e r = record { answer = as_answer r; end = e }

-- "The event number sent does the same at each notification": this one carries the present number
abbrev pub numbered : End → End
numbered e = with_own (with_number (following e.own.number) e.own) e

-- the octets of a frame, 0 for none
abbrev pub octets_in : Option ℕ → ℕ
octets_in None = 0
octets_in (Some n) = n

-- the answer to a request for a frame of some octets (0 where its values are out of range), by the lent output's length; where it is
-- not measured against the two sizes 12 is never given
unfoldable pub answer_to : (octets : ℕ) (permitted measured : Bool) (lent : ℕ) → End → ℕ
answer_to octets permitted measured lent e =
    request_answer (ltb 0 octets) (in_any e) permitted (not measured || fits_both octets e.settings.size (peer_maximum e.peer.held)) (has_room e.meter) (leb octets lent)

-- the end after a request is granted: its revision, what is owed, and one frame more that is written
unfoldable pub granted : End → End → End
granted before e = with_meter (charged_meter (dues before false e).meter) (dues before false e)

-- what is decided of a request that has an answer and makes `next` of an end: a refusal leaves the end
unfoldable pub decided : ℕ → End → End → Decided
decided answer e next = record { answer = answer; end = cond (eqb answer 0) (granted e next) e }

-- "Start (Idle or Asking): Asking, enable sent.": whether the end may, and what it makes of it
abbrev pub start_allowed : End → Bool
start_allowed e = may_start e.settings.configuration e.peer.held e.role

abbrev pub started : End → End
started e = with_role Asking e

-- "Stop (Asking, Holding, Ending): Ending, disable sent."
abbrev pub stop_allowed : End → Bool
stop_allowed e = may_stop e.settings.configuration e.role

abbrev pub stopped : End → End
stopped e = with_role Ending e

-- both by the lent output's length; a loopback command's frame is of the shortest length
unfoldable pub granted_start : ℕ → End → Decided
granted_start lent e = decided (answer_to shortest_frame (start_allowed e) true lent e) e (started e)

unfoldable pub granted_stop : ℕ → End → Decided
granted_stop lent e = decided (answer_to shortest_frame (stop_allowed e) true lent e) e (stopped e)

-- a frame that changes nothing else of the end
unfoldable pub granted_frame : ℕ → Bool → ℕ → End → Decided
granted_frame octets permitted lent e = decided (answer_to octets permitted true lent e) e e

-- a notification
unfoldable pub granted_number : ℕ → ℕ → End → Decided
granted_number octets lent e = decided (answer_to octets true true lent e) e (numbered e)

-- a Variable Response: whether the end may
abbrev pub response_allowed : End → Bool
response_allowed e = may_respond e.settings.configuration e.peer.held

-- "12 is never given here"
unfoldable pub granted_response : ℕ → ℕ → End → Decided
granted_response octets lent e = decided (answer_to octets (response_allowed e) false lent e) e e

-- "the smaller maximum size"
unfoldable pub smaller_maximum : End → ℕ
smaller_maximum e = min e.settings.size (peer_maximum e.peer.held)
