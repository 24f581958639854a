use mathlib.Core.Path.{◌≡◌, sym, ap, ◌∙◌}
use native.Mathlib.Nat.{sub-zero}
use native.Mathlib.Omega.{arith}
use Prim.Native.Nat.{◌%◌}
use Rattle.octets.specs.Tests.{between}
use Rattle.frame_writer.specs.Plain.{most_events}
use lib.ListN.{length}
use Rattle.std.proofs.lemmas.Bool.Decides.{nat_tests}
use Rattle.frame_writer.proofs.Sevens.{uneven, even, seven_is, none_summed, plain_summed, event_short}
use Rattle.frame_writer.proofs.events.measured_events.Goals as goal

pub returns-then-not-is_empty : goal.returns-then-not-is_empty
returns-then-not-is_empty c = rw (uneven c.args.events.now (λ z. absurd (grind (arith, nat_tests))))

pub returns-then-not-is_count : goal.returns-then-not-is_count
returns-then-not-is_count c =
    let z : length c.args.events.now % 7 ≡ 0 = grind (arith, nat_tests) in
    rw (even c.args.events.now z (sym c.if-not-is_count.true ∙ c.is_count.ensures ∙ ap (between 1 most_events) c.as_chunks.ensures.front_len))

pub loop-event-init : goal.loop-event-init
loop-event-init c =
    let z : length c.args.events.now % 7 ≡ 0 = grind (arith, nat_tests) in
    let all = even c.args.events.now z (sym c.if-not-is_count.false ∙ c.is_count.ensures ∙ ap (between 1 most_events) c.as_chunks.ensures.front_len) in
    record { some = omega arith; few = omega arith; measured = rw sub-zero all }

pub returns-then-not-plain_seven : goal.returns-then-not-plain_seven
returns-then-not-plain_seven c =
    let l = c.loop-event in
    let f = sym c.plain_seven.ensures ∙ c.if-not-plain_seven.true in
    rw (l.invariant.measured ∙ none_summed c.args.events.now c.as_chunks.ensures.front l.event-index (omega arith) l.octets f)

pub overflow_cast-event : goal.overflow_cast-event
overflow_cast-event c = omega (arith, (seven_is _ (sym c.plain_seven.ensures ∙ c.if-not-plain_seven.false)).most)

pub overflow_add-octets : goal.overflow_add-octets
overflow_add-octets c =
    let t = sym c.plain_seven.ensures ∙ c.if-not-plain_seven.false in
    omega (arith, c.event_length-octets.ensures, event_short c.args.events.now c.as_chunks.ensures.front c.loop-event.event-index (omega arith) t)

pub loop-event-preserved : goal.loop-event-preserved
loop-event-preserved c =
    let vs = c.args.events.now in
    let l = c.loop-event in
    let t = sym c.plain_seven.ensures ∙ c.if-not-plain_seven.false in
    let short = event_short vs c.as_chunks.ensures.front l.event-index (omega arith) t in
    record {
      some = omega (arith, c.event_length-octets.ensures, short);
      few = omega (arith, c.event_length-octets.ensures, short);
      measured = l.invariant.measured ∙ plain_summed vs c.as_chunks.ensures.front l.event-index (omega arith) l.octets t ∙ rw c.event_length-octets.ensures;
    }
