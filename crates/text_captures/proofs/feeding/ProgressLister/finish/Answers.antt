use Rattle.text_captures.proofs.Rows.{said_last}
use Rattle.text_captures.proofs.feeding.ProgressLister.finish.Goals as goal

pub returns-clause-says : goal.returns-clause-says
returns-clause-says c room = said_last c.args.self c.args.out.now c.finish.result room c.finish.ensures
