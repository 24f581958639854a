use mathlib.Core.Path.{◌∙◌}
use Rattle.frame_writer.proofs.Writers.{sized_where, held_short}
use Rattle.frame_writer.proofs.local_remote.found_octets.Goals as goal

pub returns : goal.returns
returns c = c.then_some.ensures ∙ sized_where _ _ c.plain_found.ensures (held_short c.args.found.local c.args.found.remote)
