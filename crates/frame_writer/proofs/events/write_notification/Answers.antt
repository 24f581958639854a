use Prim.Native.Nat.{ℕ}
use mathlib.Core.Path.{sym, ap, ◌∙◌}
use mathlib.Core.List.{List}
use native.Mathlib.Omega.{arith}
use lib.Seq.{sets}
use Rattle.octets.specs.Octets.{oct}
use Rattle.octets.specs.Layout.{body_start, events_start}
use Rattle.octets.proofs.Stores.{sets-append}
use Rattle.frame_writer.specs.Encode.{event_octets, joined}
use Rattle.frame_writer.specs.Writing.{events_of}
use Rattle.frame_writer.proofs.Sevens.{plain_events_of}
use Rattle.frame_writer.proofs.Writers.{refused, accepted, wrote}
use Rattle.frame_writer.proofs.events.write_notification.Goals as goal

pub returns-in_err-permits : goal.returns-in_err-permits
returns-in_err-permits c = refused _ _ _ _ c.notification_octets.ensures c.permits.ensures _ c.in_err-permits.was c.from_residual.ensures.1

pub put-requires : goal.put-requires
put-requires c = omega (arith, (accepted _ _ _ _ c.notification_octets.ensures c.permits.ensures c.in_ok-permits.was).1)

pub put_number-requires : goal.put_number-requires
put_number-requires c = omega (arith, (accepted _ _ _ _ c.notification_octets.ensures c.permits.ensures c.in_ok-permits.was).1)

pub put_events-end-requires : goal.put_events-end-requires
put_events-end-requires c =
    let a = accepted _ _ _ _ c.notification_octets.ensures c.permits.ensures c.in_ok-permits.was in
    (plain_events_of c.args.number (events_of c.args.events.now) a.0, omega (arith, a.1))

pub finish-requires : goal.finish-requires
finish-requires c = omega (arith, (accepted _ _ _ _ c.notification_octets.ensures c.permits.ensures c.in_ok-permits.was).1)

pub returns : goal.returns
returns c =
    let es = joined event_octets (events_of c.args.events.now) in
    let end = c.put_events-end.ensures in
    wrote _ _ _ _ c.notification_octets.ensures c.permits.ensures c.in_ok-permits.was (omega (arith, end.0)) c.put.ensures
    (end.1
    ∙ ap (λ (d : List ℕ). sets d events_start es) (c.put_number.ensures ∙ ap (λ (n : ℕ). sets c.put.new.out body_start (oct 2 n)) c.from.ensures)
    ∙ sym (sets-append c.put.new.out body_start (oct 2 c.args.number) es))
    c.finish.ensures
