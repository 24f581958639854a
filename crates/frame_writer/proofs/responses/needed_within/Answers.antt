use native.Mathlib.Omega.{arith}
use Rattle.frame_variables.proofs.Answering.{measured_within}
use Rattle.frame_writer.proofs.responses.needed_within.Goals as goal

pub overflow_add-measured_answers : goal.overflow_add-measured_answers
overflow_add-measured_answers c = omega (arith, c.requires, c.measured_answers.ensures, measured_within c.args.room c.args.attributes.now c.args.descriptors.now)
