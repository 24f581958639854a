use mathlib.Core.Path.{sym, ◌∙◌}
use native.Mathlib.Omega.{arith}
use Rattle.frame_writer.proofs.Sevens.{measured_none, measured_some}
use Rattle.frame_writer.proofs.Writers.{some_sized, none_sized}
use Rattle.frame_writer.proofs.events.notification_octets.Goals as goal

pub returns-in_err-octets : goal.returns-in_err-octets
returns-in_err-octets c =
    c.from_residual.ensures ∙ none_sized _ (measured_none c.args.number _ (omega arith) (sym c.in_err-octets.was ∙ c.measured_events.ensures))

pub overflow_add-octets : goal.overflow_add-octets
overflow_add-octets c = omega (arith, (measured_some c.args.number _ (omega arith) (sym c.in_ok-octets.was ∙ c.measured_events.ensures)).short)

pub returns : goal.returns
returns c =
    let m = measured_some c.args.number _ (omega arith) (sym c.in_ok-octets.was ∙ c.measured_events.ensures) in
    some_sized _ m.plain (omega (arith, c.at_least_shortest.ensures, m.long))
