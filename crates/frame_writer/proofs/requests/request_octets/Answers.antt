use mathlib.Core.Path.{sym, ◌∙◌}
use Rattle.frame.specs.Frame.{request}
use Rattle.frame_writer.proofs.Writers.{some_sized, none_sized}
use Rattle.frame_writer.proofs.requests.request_octets.Goals as goal

pub returns-then-not-plain_descriptors : goal.returns-then-not-plain_descriptors
returns-then-not-plain_descriptors c = none_sized (request c.args.descriptors.now) (sym c.plain_descriptors.ensures ∙ c.if-not-plain_descriptors.true)

pub returns : goal.returns
returns c = some_sized (request c.args.descriptors.now) (sym c.plain_descriptors.ensures ∙ c.if-not-plain_descriptors.false) c.at_least_shortest.ensures
