use Rattle.text_listing.proofs.Finishing.{said}
use Rattle.text_listing.proofs.feeding.ProgressLister.finish.Goals as goal

pub returns-clause-says : goal.returns-clause-says
returns-clause-says c room = said c.args.self c.args.frame.now c.args.out.now c.finish.result room c.finish.ensures
