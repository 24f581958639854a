use Rattle.std.proofs.Common.{rules, ◌≡◌, ◌∙◌, sym, ap, ℕ, ◌/◌, List, eqb, get_or, length}
use borrow.Author.Tests.{tests}
use Rattle.std.specs.List.{list_all}
use Rattle.std.specs.Simd.{first_chunks}
use Rattle.std.proofs.lemmas.Iterator.{YieldsList-from_slice}
use Rattle.std.proofs.lemmas.Iterator.Search.{all_from_yields_List}
use Rattle.frame_variables.specs.Attributes.{formed_pair}
use Rattle.frame_variables.proofs.Pairs.{formed_all}
use Rattle.frame_variables.proofs.attributes.formed_pairs.Goals as goal
use Rattle.frame_variables.proofs.attributes.formed_pairs.Goals.{After-all}

-- what the pairs are tested for
tested : (c : After-all) → c.all.result ≡ list_all (λ (p : List ℕ). formed_pair (get_or p 0 0) (get_or p 1 0)) (first_chunks 2 (length c.args.attributes.now / 2) c.args.attributes.now)
tested c =
    let e : c.all.result ≡ list_all (λ (p : List ℕ). formed_pair (get_or p 0 0) (get_or p 1 0)) c.as_chunks.result.0.now =
    all_from_yields_List _ _ _ _ c.all.ensures.ran (YieldsList-from_slice c.as_chunks.result.0.now cc) (λ x b q k. search (rules, tests)) in
    rw c.as_chunks.ensures.front at e

pub returns-then-all : goal.returns-then-all
returns-then-all c =
    let t = tested (goal.at.returns-then-all c).After-all in
    let e = formed_all c.args.attributes.now in
    c.is_empty.ensures ∙ ap (λ (n : ℕ). eqb n 0) c.as_chunks.ensures.back_len ∙ (rw (sym t ∙ c.if-all.true) at e)

pub returns-else-all : goal.returns-else-all
returns-else-all c =
    let t = tested (goal.at.returns-else-all c).After-all in
    let e = formed_all c.args.attributes.now in
    c.if-all.false ∙ (rw (sym t ∙ c.if-all.false) at e)
