use Rattle.std.proofs.Common.{rules, ◌≡◌, ◌∙◌, sym, length}
use borrow.Author.Tests.{tests}
use Rattle.std.specs.List.{list_all}
use Rattle.std.proofs.lemmas.Iterator.{YieldsList-from_slice}
use Rattle.std.proofs.lemmas.Iterator.Search.{all_from_yields_List}
use Rattle.octets.specs.Tests.{between}
use Rattle.frame_variables.specs.Descriptors.{plain_descriptor}
use Rattle.frame_variables.proofs.Pairs.{every_all}
use Rattle.frame_variables.proofs.descriptors.plain_descriptors.Goals as goal

pub returns-then-contains : goal.returns-then-contains
returns-then-contains c = let ds = c.args.descriptors.now in
    let e : c.all.result ≡ list_all plain_descriptor ds = all_from_yields_List _ _ _ _ c.all.ensures.ran (YieldsList-from_slice ds cc) (λ x b q k. search (rules, tests)) in
    let t : c.contains.result ≡ between 1 c.args.most (length ds) = search rules in
    rw (sym t ∙ c.if-contains.true) (e ∙ every_all plain_descriptor ds)
