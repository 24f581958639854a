-- Reports.
use Rattle.std.specs.Prelude.{ℕ, List, cond, length}
use Rattle.link_end.specs.declared.End.{End}
use Rattle.link_end.specs.declared.Report.{Report}
use Rattle.link_end.specs.declared.News.TheVariants.{Nothing}
use Rattle.link.specs.Outcomes.{Outcome, too_short, outcome, concluded, concluded_output}
use Rattle.link_end.specs.Reporting.{reported_due}

unfoldable pub report_of : Report → ℕ → End → Outcome
report_of r octets e = cond (too_short octets) (outcome e 9 0 Nothing) (concluded octets Nothing (reported_due r e))

unfoldable pub report_output : Report → End → List ℕ → List ℕ
report_output r e out = cond (too_short (length out)) out (concluded_output (reported_due r e) out)
