use Rattle.std.proofs.Common.{rules}
use borrow.Author.Tests.{tests}
use Rattle.std.proofs.lemmas.Iterator.{YieldsList-from_slice}
use Rattle.std.proofs.lemmas.Iterator.Search.{all_from_yields_List}
use Rattle.oam_packing.proofs.Joining.{zeros-all}
use Rattle.oam_packing.proofs.parts.is_zeros.Goals as goal

pub returns : goal.returns
returns c =
    rw zeros-all
    (all_from_yields_List _ _ _ _ c.all.ensures.ran (YieldsList-from_slice c.args.octets.now cc) (λ x b q k. search (rules, tests)))
