-- What a call comes to, and the Information frame that is written at its end.
use Rattle.std.specs.Prelude.{ℕ, List, Bool, cond, ltb, Result, Ok, Err}
use Rattle.octets.specs.declared.refusal.Refusal.{Refusal}
use Rattle.octets.specs.Refusals.{number}
use Rattle.octets.specs.Layout.{shortest_frame}
use Rattle.frame.specs.Frame.{Message, information}
use Rattle.frame_writer.specs.Writing.{Written, Refused, Wrote, writes, written, message_of, parts_of}
use Rattle.link_loopback.specs.Roles.{octet_of}
use Rattle.link_end.specs.declared.End.{End}
use Rattle.link_end.specs.declared.News.{News}
use Rattle.link_end.specs.declared.News.TheVariants.{Nothing}
use Rattle.link.specs.declared.Step.{Step}
use Rattle.link.specs.declared.Outcome.{Outcome as LentOutcome}
use Rattle.link_end.specs.Sending.{flags_to_send, sends, sent, tlvs_to_send}

unfoldable pub information_to_send : End → Message
information_to_send e = message_of e.settings.source (flags_to_send e) (information (parts_of (tlvs_to_send e)))

abbrev pub length_of : Written → ℕ
length_of (Refused n) = 0
length_of (Wrote n) = n

-- what a call comes to: the next end, the answer (0 where it is accepted), the written length, its State octet, what is shown
pub record Outcome : Type 0 where
  pub end : End
  pub answer : ℕ
  pub length : ℕ
  pub octet : ℕ
  pub shown : News

abbrev pub outcome : End → ℕ → ℕ → News → Outcome
outcome e answer n shown = record { end = e; answer = answer; length = n; octet = octet_of e.role; shown = shown }

-- the same of an end that is lent
abbrev pub as_outcome : LentOutcome → Outcome
as_outcome o = record { end = o.end.now; answer = o.answer; length = o.length; octet = o.octet; shown = o.shown }

-- the same by the end after the call and its answer
abbrev pub told : End → Result Step Refusal → Outcome
told e (Ok s) = outcome e 0 s.length s.shown
told e (Err r) = outcome e (number r) 0 Nothing

-- "Receive, tick and report test 9 first, against 60 octets."
abbrev pub too_short : ℕ → Bool
too_short octets = ltb octets shortest_frame

-- how tick, receive and report end, for an output of some octets: the owed frame is written where it may be
unfoldable pub concluded : ℕ → News → End → Outcome
concluded octets shown e =
    cond (sends e) (outcome (sent e) 0 (length_of (writes (information_to_send e) octets)) shown) (outcome e 0 0 shown)

unfoldable pub concluded_output : End → List ℕ → List ℕ
concluded_output e out = cond (sends e) (written (information_to_send e) out) out
