use Rattle.std.proofs.Common.{sym, ap, ◌∙◌}
use Rattle.frame_variables.specs.Answers.{place_in}
use Rattle.frame_variables.proofs.Placing.{place_again}
use Rattle.frame_writer.proofs.responses.place_of.Goals as goal

pub returns-in-Ok : goal.returns-in-Ok
returns-in-Ok c = ap place_in (sym c.in-Ok.is ∙ c.place_of.ensures) ∙ place_again _

pub returns-in-Err : goal.returns-in-Err
returns-in-Err c = ap place_in (sym c.in-Err.is ∙ c.place_of.ensures) ∙ place_again _
