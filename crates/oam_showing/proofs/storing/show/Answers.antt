use Rattle.std.proofs.Common.{arith, refl, sym, ◌∙◌, ◌+◌, ◌≡◌}
use Rattle.octets.proofs.Stores.{stored_all}
use Rattle.oam_showing.proofs.storing.show.Goals as goal

pub returns : goal.returns
returns c =
    let l = c.loop-i in
    let z : 0 + l.i ≡ l.i = omega arith in
    record { answers = refl; stored = sym (l.invariant.1 ∙ rw z at (stored_all l.lent 0 l.i c.args.numbers.now (omega arith) (omega arith))) }
