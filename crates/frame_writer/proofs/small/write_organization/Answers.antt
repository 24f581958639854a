use Prim.Native.Nat.{ℕ}
use mathlib.Core.Path.{sym, ap, ◌∙◌}
use mathlib.Core.List.{List}
use native.Mathlib.Omega.{arith}
use lib.Seq.{sets}
use Rattle.octets.specs.Octets.{oct}
use Rattle.octets.specs.Layout.{body_start, data_start}
use Rattle.octets.proofs.Stores.{sets-append}
use Rattle.frame_writer.proofs.Writers.{refused, accepted, wrote}
use Rattle.frame_writer.proofs.small.write_organization.Goals as goal

pub returns-in_err-permits : goal.returns-in_err-permits
returns-in_err-permits c = refused _ _ _ _ c.organization_octets.ensures c.permits.ensures _ c.in_err-permits.was c.from_residual.ensures.1

pub put-requires : goal.put-requires
put-requires c = omega (arith, (accepted _ _ _ _ c.organization_octets.ensures c.permits.ensures c.in_ok-permits.was).1)

pub put_number-requires : goal.put_number-requires
put_number-requires c = omega (arith, (accepted _ _ _ _ c.organization_octets.ensures c.permits.ensures c.in_ok-permits.was).1)

pub finish-requires : goal.finish-requires
finish-requires c = omega (arith, (accepted _ _ _ _ c.organization_octets.ensures c.permits.ensures c.in_ok-permits.was).1)

pub returns : goal.returns
returns c =
    wrote _ _ _ _ c.organization_octets.ensures c.permits.ensures c.in_ok-permits.was (omega arith) c.put.ensures
    (c.put_octets.ensures
    ∙ ap (λ (d : List ℕ). sets d data_start c.args.octets.now) (c.put_number.ensures ∙ ap (λ (n : ℕ). sets c.put.new.out body_start (oct 3 n)) c.from.ensures)
    ∙ sym (sets-append c.put.new.out body_start (oct 3 c.args.oui) c.args.octets.now))
    c.finish.ensures
