use Prim.Native.Nat.{ℕ}
use mathlib.Core.Path.{refl, ap, ◌∙◌}
use native.Mathlib.Omega.{arith}
use lib.Seq.{sets}
use Rattle.octets.specs.Octets.{oct}
use Rattle.octets.specs.Layout.{body_start}
use Rattle.frame_writer.proofs.Writers.{refused, accepted, wrote}
use Rattle.frame_writer.proofs.small.write_loopback.Goals as goal

pub returns-in_err-permits : goal.returns-in_err-permits
returns-in_err-permits c = refused _ _ _ _ c.loopback_octets.ensures c.permits.ensures _ c.in_err-permits.was c.from_residual.ensures.1

pub put-requires : goal.put-requires
put-requires c = omega (arith, (accepted _ _ _ _ c.loopback_octets.ensures c.permits.ensures c.in_ok-permits.was).1)

pub put_number-requires : goal.put_number-requires
put_number-requires c = omega (arith, (accepted _ _ _ _ c.loopback_octets.ensures c.permits.ensures c.in_ok-permits.was).1)

pub finish-requires : goal.finish-requires
finish-requires c = omega (arith, (accepted _ _ _ _ c.loopback_octets.ensures c.permits.ensures c.in_ok-permits.was).1)

pub returns : goal.returns
returns c =
    let octet = c.put_number.ensures ∙ ap (λ (n : ℕ). sets c.put.new.out body_start (oct 1 n)) c.from.ensures in
    wrote _ _ _ _ c.loopback_octets.ensures c.permits.ensures c.in_ok-permits.was refl c.put.ensures octet c.finish.ensures
