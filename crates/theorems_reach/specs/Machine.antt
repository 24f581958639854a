-- The machine in one place: its calls, and what each of them comes to. Every case cites the definition that the contract of
-- the call in `link` cites.
use Rattle.std.specs.Prelude.{ℕ, List, length, take}
use Rattle.frame.specs.Frame.{Body, information, Message}
use Rattle.frame_writer.specs.Writing.{message_of, parts_of}
use Rattle.link_end.specs.declared.End.{End}
use Rattle.link_end.specs.declared.Report.{Report}
use Rattle.link.specs.Outcomes.{Outcome}
use Rattle.link_end.specs.Sending.{flags_to_send, tlvs_to_send}
use Rattle.link.specs.Ticks.{tick_of, tick_output}
use Rattle.link.specs.Hearing.{receive_of, receive_output}
use Rattle.link.specs.Reports.{report_of, report_output}
use Rattle.link.specs.Requests.{Asked, starting, stopping, requesting, notifying, telling, responding, request_of, request_output}

-- "client requests (loopback start and stop, variable request, notification, organization specific with its OUI)": with the
-- descriptors, the events' numbers (seven an event), the OUI and the data; and "A new client request": the attributes' numbers (two
-- an attribute), their values, and the descriptors that are asked
pub data Request : Type 0 where
  start : Request
  stop : Request
  variables : List ℕ → Request
  notify : List ℕ → Request
  tell : ℕ → List ℕ → Request
  respond : (attributes values descriptors : List ℕ) → Request

-- "Taken: frames without FCS, 100 ms ticks, reports (...), client requests"
pub data Input : Type 0 where
  tick : Input
  report : Report → Input
  receive : List ℕ → Input
  request : Request → Input

-- a call: what is taken, and the octets of the lent output
pub record Call : Type 0 where
  pub input : Input
  pub out : List ℕ

abbrev pub asked_of : Request → End → Asked
asked_of start e = starting e
asked_of stop e = stopping e
asked_of (variables ds) e = requesting ds e
asked_of (notify vs) e = notifying vs e
asked_of (tell oui x) e = telling oui x e
asked_of (respond ns vs ds) e = responding ns vs ds e

-- "Given: an outcome, the next state, at most one frame per call in a lent output, and parser and multiplexer actions"
abbrev pub outcome_by : Input → ℕ → End → Outcome
outcome_by tick octets e = tick_of octets e
outcome_by (report r) octets e = report_of r octets e
outcome_by (receive f) octets e = receive_of f octets e
outcome_by (request q) octets e = request_of (asked_of q e) octets e

abbrev pub output_by : Input → End → List ℕ → List ℕ
output_by tick e out = tick_output e out
output_by (report r) e out = report_output r e out
output_by (receive f) e out = receive_output f e out
output_by (request q) e out = request_output (asked_of q e) e out

-- what a call comes to
abbrev pub outcome_of : Call → End → Outcome
outcome_of c e = outcome_by c.input (length c.out) e

-- the lent output after it
abbrev pub output_of : Call → End → List ℕ
output_of c e = output_by c.input e c.out

-- the frame that it wrote, no octets for none
abbrev pub frame_of : Call → End → List ℕ
frame_of c e = take (outcome_of c e).length (output_of c e)

-- ---- the frame that is meant where a call writes one

-- a request's own body, otherwise the Information TLVs of the end as it stands after the call
abbrev pub body_by : Input → End → End → Body
body_by tick e after = information (parts_of (tlvs_to_send after))
body_by (report r) e after = information (parts_of (tlvs_to_send after))
body_by (receive f) e after = information (parts_of (tlvs_to_send after))
body_by (request q) e after = (asked_of q e).body

-- "Every OAM frame the machine writes carries the flags as they stand after its call."
abbrev pub meant : Call → End → Message
meant c e = message_of e.settings.source (flags_to_send (outcome_of c e).end) (body_by c.input e (outcome_of c e).end)
