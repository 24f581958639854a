use Rattle.std.proofs.Common.{rules, ◌≡◌, ◌∙◌, ℕ, List, eqb, get_or}
use borrow.Author.Tests.{tests}
use Rattle.std.specs.List.{list_any}
use Rattle.std.proofs.lemmas.Iterator.{YieldsList-from_slice}
use Rattle.std.proofs.lemmas.Iterator.Search.{any_from_yields_List}
use Rattle.frame_variables.proofs.Pairs.{held_any}
use Rattle.frame_variables.proofs.attributes.held_in.Goals as goal

pub returns : goal.returns
returns c = let ns = c.args.attributes.now in
    let e : c.any.result ≡ list_any (λ (p : List ℕ). eqb (get_or p 0 0) c.args.descriptor) c.as_chunks.result.0.now =
    any_from_yields_List _ _ _ _ c.any.ensures.ran (YieldsList-from_slice c.as_chunks.result.0.now cc) (λ x b q k. search (rules, tests)) in
    (rw c.as_chunks.ensures.front at e) ∙ held_any c.args.descriptor ns
