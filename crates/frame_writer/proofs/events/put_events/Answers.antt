use Prim.Native.Nat.{ℕ, ◌+◌}
use mathlib.Core.Path.{refl, sym, ap, ◌∙◌}
use mathlib.Core.List.{List}
use native.Mathlib.Nat.{sub-zero}
use native.Mathlib.Omega.{arith}
use lib.Seq.{sets}
use Rattle.octets.specs.Layout.{events_start}
use Rattle.frame_tlvs.specs.declared.Event.{Event}
use Rattle.frame_writer.specs.Encode.{event_octets, joined}
use Rattle.frame_writer.specs.Plain.{events_length}
use Rattle.frame_writer.proofs.Sevens.{next_stored_lem, eventful}
use Rattle.frame_writer.proofs.events.put_events.Goals as goal

pub loop-event-init : goal.loop-event-init
loop-event-init c =
    let e = eventful c.args.events.now c.requires.0 in
    rw sub-zero
    (record {
      kept = refl;
      next = ap (λ (n : ℕ). events_start + n) (ap events_length (sym e.are));
      plain = e.every_plain;
      stored = ap (λ (es : List Event). sets c.args.out.now events_start (joined event_octets es)) e.are;
    })

pub put_event-position-requires : goal.put_event-position-requires
put_event-position-requires c =
    let s = next_stored_lem c.args.events.now c.as_chunks.ensures.front _ (omega arith) c.loop-event.invariant.plain in
    (s.plain, omega (arith, c.requires.1, s.long))

pub overflow_add-position : goal.overflow_add-position
overflow_add-position c =
    let s = next_stored_lem c.args.events.now c.as_chunks.ensures.front _ (omega arith) c.loop-event.invariant.plain in
    omega (arith, c.put_event-position.ensures.0, s.long, c.requires.1)

pub loop-event-preserved : goal.loop-event-preserved
loop-event-preserved c =
    let l = c.loop-event in
    let p = c.put_event-position in
    let s = next_stored_lem c.args.events.now c.as_chunks.ensures.front l.event-index (omega arith) l.invariant.plain in
    record {
      kept = p.auto.out ∙ l.invariant.kept;
      next = omega (arith, p.ensures.0, s.long);
      plain = s.rest;
      stored = l.invariant.stored ∙ s.stored l.out l.position ∙ rw (p.ensures.0, p.ensures.1);
    }
