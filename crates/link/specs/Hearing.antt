-- A received frame.
use Rattle.std.specs.Prelude.{ℕ, List, cond, length}
use Rattle.frame.specs.Frame.{decode}
use Rattle.link_end.specs.declared.End.{End}
use Rattle.link_end.specs.declared.News.TheVariants.{Nothing}
use Rattle.link_end.specs.declared.Heard.{Heard}
use Rattle.link_end.specs.Hearing.{Said, Refusal, Is, said_by}
use Rattle.link_end.specs.Taking.{taken, taken_due}
use Rattle.link.specs.Outcomes.{Outcome, too_short, outcome, concluded, concluded_output}

unfoldable pub concluded_heard : ℕ → Heard → End → Outcome
concluded_heard octets m e = concluded octets (taken m e).shown (taken_due m e)

unfoldable pub concluded_heard_output : Heard → End → List ℕ → List ℕ
concluded_heard_output m e out = concluded_output (taken_due m e) out

abbrev pub received : ℕ → Said → End → Outcome
received octets (Refusal n) e = outcome e n 0 Nothing
received octets (Is m) e = concluded_heard octets m e

abbrev pub received_output : Said → End → List ℕ → List ℕ
received_output (Refusal n) e out = out
received_output (Is m) e out = concluded_heard_output m e out

unfoldable pub receive_of : List ℕ → ℕ → End → Outcome
receive_of frame octets e = cond (too_short octets) (outcome e 9 0 Nothing) (received octets (said_by (decode frame)) e)

unfoldable pub receive_output : List ℕ → End → List ℕ → List ℕ
receive_output frame e out = cond (too_short (length out)) out (received_output (said_by (decode frame)) e out)
