use native.Mathlib.Omega.{arith}
use Rattle.frame_writer.proofs.Lengths.{length_information}
use Rattle.frame_writer.proofs.local_remote.put_held.Goals as goal

pub returns-clause-next : goal.returns-clause-next
returns-clause-next c = rw c.in-Some.is (omega (arith, length_information c.args.t c.in-Some.information))
