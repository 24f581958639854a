use mathlib.Core.Path.{sym, ap, ◌∙◌}
use native.Mathlib.Numerals.{add-one}
use native.Mathlib.Omega.{arith}
use lib.Seq.{sets, drop-cons}
use Rattle.frame_variables.proofs.Answering.{left_some, measured_off, measured_next}
use Rattle.frame_writer.proofs.Answering.{answers_off, answers_next}
use Rattle.frame_writer.proofs.responses.put_answers.Goals as goal

pub returns-in_default : goal.returns-in_default
returns-in_default c = let l = c.loop-descriptor in
    let here = drop-cons c.args.descriptors.now l.descriptor-index 0 c.loop-descriptor-test.true in
    let e = c.in_default.ensures in
    record {
      end = omega (arith, rw (here, measured_off l.left _ _ _ e.octets) at l.invariant.next);
      output = sym (l.invariant.stored ∙ rw here (ap (sets l.out l.position) (answers_off _ _ c.requires.0 l.left _ _ e.octets)) ∙ sym e.output);
    }

pub loop-descriptor-preserved : goal.loop-descriptor-preserved
loop-descriptor-preserved c = let l = c.loop-descriptor in
    let here = drop-cons c.args.descriptors.now l.descriptor-index 0 c.loop-descriptor-test.true in
    let e = c.in-Some.ensures in
    rw (add-one l.descriptor-index, c.left_after-left.ensures ∙ left_some l.left _ _ e.octets)
    (record {
      kept = c.put_answer.auto.out ∙ l.invariant.kept;
      within = omega arith;
      next = omega (arith, rw (here, (measured_next l.left _ _ _ _ e.octets).1) at l.invariant.next);
      stored = l.invariant.stored ∙ rw here (answers_next _ _ c.requires.0 l.left _ _ e.octets l.out l.position ∙ rw e.output);
    })
