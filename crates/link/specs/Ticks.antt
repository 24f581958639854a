-- Ticks.
use Rattle.std.specs.Prelude.{ℕ, List, cond, length}
use Rattle.link_end.specs.declared.End.{End}
use Rattle.link_end.specs.declared.News.TheVariants.{Nothing}
use Rattle.link.specs.Outcomes.{Outcome, too_short, outcome, concluded, concluded_output}
use Rattle.link_end.specs.Ticking.{ticked_due}

unfoldable pub tick_of : ℕ → End → Outcome
tick_of octets e = cond (too_short octets) (outcome e 9 0 Nothing) (concluded octets Nothing (ticked_due e))

unfoldable pub tick_output : End → List ℕ → List ℕ
tick_output e out = cond (too_short (length out)) out (concluded_output (ticked_due e) out)
