use mathlib.Core.Path.{sym, ◌∙◌}
use Rattle.frame_writer.proofs.Answering.{formed_sized, unformed_sized}
use Rattle.frame_writer.proofs.responses.response_octets.Goals as goal

pub returns-then-not-formed_containers : goal.returns-then-not-formed_containers
returns-then-not-formed_containers c = unformed_sized c.args.containers.now (sym c.formed_containers.ensures ∙ c.if-not-formed_containers.true)

pub returns : goal.returns
returns c = formed_sized c.args.containers.now (sym c.formed_containers.ensures ∙ c.if-not-formed_containers.false) c.at_least_shortest.ensures
