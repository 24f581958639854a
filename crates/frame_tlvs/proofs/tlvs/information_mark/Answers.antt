use mathlib.Core.Path.{refl, ◌∙◌}
use native.Mathlib.Omega.{arith}
use lib.ListN.{get_or}
use Rattle.frame_tlvs.specs.declared.Kind.TheVariants.{Information}
use Rattle.frame_tlvs.proofs.Marks.{information_known, information_unknown, unknown_mark_lem}
use Rattle.frame_tlvs.proofs.tlvs.information_mark.Goals as goal

pub returns-in-1-clause-found : goal.returns-in-1-clause-found
returns-in-1-clause-found c = c.known_mark.ensures.found ∙ information_known _ c.args.at _ c.requires refl (omega arith) (omega arith)

pub returns-in_default-clause-found : goal.returns-in_default-clause-found
returns-in_default-clause-found c =
    c.unknown_mark.ensures.found ∙ unknown_mark_lem Information c.args.body.now c.args.at (information_unknown (get_or c.args.body.now c.args.at 0) (omega arith) (omega arith))
