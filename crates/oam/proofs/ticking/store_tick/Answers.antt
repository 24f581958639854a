use mathlib.Core.Path.{◌∙◌}
use native.Mathlib.Omega.{arith}
use Rattle.std.specs.Prelude.{Ok}
use Rattle.link.specs.Outcomes.{told}
use Rattle.oam_outcomes.proofs.Small.{number_small}
use Rattle.oam.specs.Ticking.{ticked_number, ticked_state}
use Rattle.oam.proofs.Arisen.{count_small, octet_small}
use Rattle.oam.proofs.Stepped.{same_number, same_stored}
use Rattle.oam.proofs.ticking.store_tick.Goals as goal

pub overflow_add-result : goal.overflow_add-result
overflow_add-result c =
    let a = c.args in
    let small = number_small (told a.end.now (Ok a.ticked.step)) (omega arith) (octet_small a.end.now.role) in
    omega (arith, same_number c.told.ensures c.store_outcome-number.ensures.0, small, c.store_counted-arisen.ensures.0, count_small a.ticked.arisen.frames, count_small a.ticked.arisen.seconds)

pub returns : goal.returns
unfolding ticked_number ticked_state
returns c =
    let o = same_stored c.args.state.now c.told.ensures c.store_outcome-number.ensures in
    let s = c.store_counted-arisen.ensures in
    (rw (o.0, s.0), s.1, c.pack_watch.ensures ∙ rw o.1)
