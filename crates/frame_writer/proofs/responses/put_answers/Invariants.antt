use Prim.Native.Nat.{◌+◌, ◌≤◌}
use mathlib.Core.Path.{◌≡◌}
use lib.ListN.{length, drop}
use lib.Seq.{sets}
use Rattle.octets.specs.Layout.{body_start}
use Rattle.frame_variables.specs.Answers.{measured_answers}
use Rattle.frame_writer.proofs.Answering.{answers_of}
use Rattle.frame_writer.proofs.responses.put_answers.Given as goal

abbrev pub invariant-loop-descriptor : goal.invariant-loop-descriptor
invariant-loop-descriptor l =
    let rest = drop l.descriptor-index l.descriptors in
    record {
      kept : length l.out ≡ length l.initial.out;
      within : l.left ≤ l.room;
      next : l.position + measured_answers l.left l.attributes rest ≡ body_start + measured_answers l.room l.attributes l.descriptors;
      stored : sets l.initial.out body_start (answers_of l.room l.attributes l.values l.descriptors)
          ≡ sets l.out l.position (answers_of l.left l.attributes l.values rest);
    }
