-- The six requests.
use Rattle.std.specs.Prelude.{ℕ, List, Bool, true, false, cond, eqb, length}
use Rattle.frame.specs.Frame.{Body, notification, request, response, loopback, organization, Message}
use Rattle.frame_variables.specs.Answers.{answers_within, formed_answers}
use Rattle.frame_writer.specs.Plain.{sized}
use Rattle.frame_writer.specs.Writing.{writes, written, message_of, events_of}
use Rattle.octets.specs.Bits.{bit}
use Rattle.link_end.specs.declared.End.{End}
use Rattle.link_end.specs.declared.News.TheVariants.{Nothing}
use Rattle.link_end.specs.Sending.{flags_to_send}
use Rattle.link.specs.Outcomes.{Outcome, length_of, outcome}
use Rattle.link_end.specs.Granting.{Decided, answer_to, decided, numbered, start_allowed, started, stop_allowed, stopped, response_allowed, smaller_maximum}

-- a request: whether the role, the mode and the peer's capability allow it, whether it is measured against the two maximum sizes,
-- what it makes of the end, the body of its frame, and whether what that was made of is in range
pub record Asked : Type 0 where
  pub permitted : Bool
  pub measured : Bool
  pub next : End
  pub body : Body
  pub formed : Bool

-- one whose body is all that it is asked for
abbrev pub asked : (permitted measured : Bool) → End → Body → Asked
asked permitted measured next body = record { permitted = permitted; measured = measured; next = next; body = body; formed = true }

-- the octets of its frame, 0 where it is refused with 10
abbrev pub octets_asked : Asked → ℕ
octets_asked a = cond a.formed (sized a.body) 0

-- "enable sent"
abbrev pub starting : End → Asked
starting e = asked (start_allowed e) true (started e) (loopback 1)

-- "disable sent"
abbrev pub stopping : End → Asked
stopping e = asked (stop_allowed e) true (stopped e) (loopback 2)

-- "A Variable Request from a passive end: 15."
abbrev pub requesting : List ℕ → End → Asked
requesting ds e = asked (bit 0 e.settings.configuration) true e (request ds)

abbrev pub notifying : List ℕ → End → Asked
notifying vs e = asked true true (numbered e) (notification e.own.number (events_of vs))

-- "organization specific with its OUI"
abbrev pub telling : ℕ → List ℕ → End → Asked
telling oui x e = asked true true e (organization oui x)

-- "A new client request, given 1 to 498 descriptors, writes the Variable Response": it is cut to the smaller maximum size
abbrev pub responding : (attributes values descriptors : List ℕ) → End → Asked
responding ns vs ds e =
    record {
      permitted = response_allowed e;
      measured = false;
      next = e;
      body = response (answers_within (smaller_maximum e) ns vs ds);
      formed = formed_answers ns vs ds;
    }

-- "Every OAM frame the machine writes carries the flags as they stand after its call."
unfoldable pub request_to_send : Body → End → Message
request_to_send body after = message_of after.settings.source (flags_to_send after) body

-- what a decided request comes to, by the body of its frame, and the output after it
unfoldable pub concluded_request : Decided → Body → ℕ → Outcome
concluded_request d body lent =
    outcome d.end d.answer (cond (eqb d.answer 0) (length_of (writes (request_to_send body d.end) lent)) 0) Nothing

unfoldable pub concluded_request_output : Decided → Body → List ℕ → List ℕ
concluded_request_output d body out = cond (eqb d.answer 0) (written (request_to_send body d.end) out) out

-- a request, as it is decided of an end by the lent output's length
abbrev pub decided_request : Asked → ℕ → End → Decided
decided_request a lent e = decided (answer_to (octets_asked a) a.permitted a.measured lent e) e a.next

-- a request
unfoldable pub request_of : Asked → ℕ → End → Outcome
request_of a lent e = concluded_request (decided_request a lent e) a.body lent

unfoldable pub request_output : Asked → End → List ℕ → List ℕ
request_output a e out = concluded_request_output (decided_request a (length out) e) a.body out
