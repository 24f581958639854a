use mathlib.Core.Path.{◌∙◌}
use native.Mathlib.Omega.{arith}
use Rattle.frame_tlvs.specs.declared.Kind.TheVariants.{Events}
use Rattle.frame_tlvs.proofs.Marks.{unknown_mark_lem, event_sized, event_known, event_unknown}
use Rattle.frame_tlvs.proofs.tlvs.event_mark.Goals as goal

pub known_mark-requires : goal.known_mark-requires
known_mark-requires c = event_sized c.requires 1 _ (omega arith) (omega arith) c.event_length.ensures

pub known_mark-requires-in-2 : goal.known_mark-requires-in-2
known_mark-requires-in-2 c = event_sized c.requires 2 _ (omega arith) (omega arith) c.event_length-in-2.ensures

pub known_mark-requires-in-3 : goal.known_mark-requires-in-3
known_mark-requires-in-3 c = event_sized c.requires 3 _ (omega arith) (omega arith) c.event_length-in-3.ensures

pub known_mark-requires-in-4 : goal.known_mark-requires-in-4
known_mark-requires-in-4 c = event_sized c.requires 4 _ (omega arith) (omega arith) c.event_length-in-4.ensures

pub returns-in-1-clause-found : goal.returns-in-1-clause-found
returns-in-1-clause-found c =
    c.known_mark.ensures.found ∙ event_known c.args.body.now c.args.at 1 _ c.requires c.in-1.is (omega arith) (omega arith) c.event_length.ensures

pub returns-in-2-clause-found : goal.returns-in-2-clause-found
returns-in-2-clause-found c =
    c.known_mark-in-2.ensures.found ∙ event_known c.args.body.now c.args.at 2 _ c.requires c.in-2.is (omega arith) (omega arith) c.event_length-in-2.ensures

pub returns-in-3-clause-found : goal.returns-in-3-clause-found
returns-in-3-clause-found c =
    c.known_mark-in-3.ensures.found ∙ event_known c.args.body.now c.args.at 3 _ c.requires c.in-3.is (omega arith) (omega arith) c.event_length-in-3.ensures

pub returns-in-4-clause-found : goal.returns-in-4-clause-found
returns-in-4-clause-found c =
    c.known_mark-in-4.ensures.found ∙ event_known c.args.body.now c.args.at 4 _ c.requires c.in-4.is (omega arith) (omega arith) c.event_length-in-4.ensures

pub returns-in_default-clause-found : goal.returns-in_default-clause-found
returns-in_default-clause-found c =
    let a = c.args in
    c.unknown_mark.ensures.found ∙ unknown_mark_lem Events a.body.now a.at (event_unknown _ (omega arith) (omega arith) (omega arith) (omega arith))
