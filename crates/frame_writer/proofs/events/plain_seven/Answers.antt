use Prim.Native.Nat.{ℕ, ◌-◌}
use mathlib.Core.Path.{sym, ap, ◌∙◌}
use mathlib.Core.List.{List}
use native.Mathlib.Omega.{arith}
use borrow.Author.Tests.{ne_eqb}
use lib.ListN.{length, get_or, take, drop, length-drop}
use lib.Seq.{take_all}
use Rattle.octets.specs.Octets.{fit}
use Rattle.frame_tlvs.specs.Tlvs.{event_widths}
use Rattle.frame_writer.specs.Writing.{plain_seven}
use Rattle.frame_writer.proofs.Sevens.{is_between, fits_plain, untyped}
use Rattle.frame_writer.proofs.events.plain_seven.Goals as goal

pub returns-then-event-ne7 : goal.returns-then-event-ne7
unfolding plain_seven
returns-then-event-ne7 c = rw (ne_eqb _ _ c.if-event-ne7.true)

pub returns-else-is_type : goal.returns-else-is_type
returns-else-is_type c = c.if-is_type.false ∙ untyped c.args.event.now c.if-event-ne7.false (sym c.is_type.ensures ∙ c.if-is_type.false)

pub returns-then-is_type : goal.returns-then-is_type
returns-then-is_type c =
    let vs = c.args.event.now in
    let k = get_or vs 0 0 in
    let r = is_between 1 4 k (sym c.is_type.ensures ∙ c.if-is_type.true) in
    c.all_fit.ensures
    ∙ ap (λ (ws : List ℕ). fit ws (take (length vs - 1) (drop 1 vs))) c.event_widths.ensures
    ∙ ap (fit (event_widths k)) (take_all (length vs - 1) (drop 1 vs) (omega (arith, length-drop 1 vs)))
    ∙ fits_plain vs c.if-event-ne7.false r.0 r.1
