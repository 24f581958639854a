use Prim.Native.Nat.{ℕ}
use mathlib.Core.Path.{ap, ◌∙◌}
use mathlib.Core.List.{List}
use native.Mathlib.Omega.{arith}
use lib.Seq.{sets}
use Rattle.octets.specs.Layout.{body_start}
use Rattle.frame_writer.specs.Encode.{held_octets}
use Rattle.frame_writer.proofs.Writers.{refused, accepted, wrote, held_end, held_stored}
use Rattle.frame_writer.proofs.local_remote.write_information.Goals as goal

pub returns-in_err-permits : goal.returns-in_err-permits
returns-in_err-permits c = refused _ _ _ _ c.found_octets.ensures c.permits.ensures _ c.in_err-permits.was c.from_residual.ensures.1

pub put-requires : goal.put-requires
put-requires c = omega (arith, (accepted _ _ _ _ c.found_octets.ensures c.permits.ensures c.in_ok-permits.was).1)

pub put_held-middle-requires : goal.put_held-middle-requires
put_held-middle-requires c = omega (arith, (accepted _ _ _ _ c.found_octets.ensures c.permits.ensures c.in_ok-permits.was).1)

pub put_held-end-requires : goal.put_held-end-requires
put_held-end-requires c = omega (arith, (accepted _ _ _ _ c.found_octets.ensures c.permits.ensures c.in_ok-permits.was).1)

pub finish-requires : goal.finish-requires
finish-requires c = omega (arith, (accepted _ _ _ _ c.found_octets.ensures c.permits.ensures c.in_ok-permits.was).1)

pub returns : goal.returns
returns c =
    let f = c.args.found in
    let one = c.put_held-middle.ensures in
    let two = c.put_held-end.ensures in
    let d1 = c.put.new.out in
    wrote _ _ _ _ c.found_octets.ensures c.permits.ensures c.in_ok-permits.was (omega (arith, one.next, two.next, held_end f.local f.remote)) c.put.ensures
    (two.output
    ∙ ap (λ (d : List ℕ). sets d c.put_held-middle.result (held_octets 2 f.remote)) one.output
    ∙ ap (λ (n : ℕ). sets (sets d1 body_start (held_octets 1 f.local)) n (held_octets 2 f.remote)) one.next
    ∙ held_stored d1 f.local f.remote)
    c.finish.ensures
