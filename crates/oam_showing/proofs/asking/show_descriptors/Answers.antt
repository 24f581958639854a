use native.Mathlib.Omega.{arith}
use Rattle.oam_showing.proofs.Asked.{room_asked}
use Rattle.oam_showing.proofs.asking.show_descriptors.Goals as goal

pub overflow_mul-result : goal.overflow_mul-result
overflow_mul-result c = omega (arith, c.count_descriptors-count.ensures, room_asked c.args.body.now, c.requires)
