use mathlib.Core.Path.{sym, ap, ◌∙◌}
use native.Mathlib.Omega.{arith}
use lib.ListN.{length}
use lib.Seq.{sets}
use Rattle.octets.specs.Layout.{body_start}
use Rattle.frame_writer.specs.Responses.{containers_of}
use Rattle.frame_writer.proofs.Lengths.{length_containers}
use Rattle.frame_writer.proofs.Containing.{containers_are}
use Rattle.frame_writer.proofs.Writers.{exactly, refused_formed, accepted_formed, wrote_formed}
use Rattle.frame_writer.proofs.responses.write_response.Goals as goal

pub returns-in_err-permits : goal.returns-in_err-permits
returns-in_err-permits c = refused_formed _ _ _ _ _ (exactly _ _) c.response_octets.ensures c.permits.ensures _ c.in_err-permits.was c.from_residual.ensures.1

pub put-requires : goal.put-requires
put-requires c = omega (arith, (accepted_formed _ _ _ _ _ (exactly _ _) c.response_octets.ensures c.permits.ensures c.in_ok-permits.was).2)

pub finish-requires : goal.finish-requires
finish-requires c =
    let s = c.args.containers.now in
    let a = accepted_formed _ _ _ _ _ (exactly _ _) c.response_octets.ensures c.permits.ensures c.in_ok-permits.was in
    omega (arith, a.2, ap length (containers_are s (λ i. (c.type_inv.containers i).fits) a.0), length_containers (containers_of s))

pub returns : goal.returns
returns c =
    let s = c.args.containers.now in
    let a = accepted_formed _ _ _ _ _ (exactly _ _) c.response_octets.ensures c.permits.ensures c.in_ok-permits.was in
    let are = containers_are s (λ i. (c.type_inv.containers i).fits) a.0 in
    wrote_formed _ _ _ _ _ (exactly _ _) c.response_octets.ensures c.permits.ensures c.in_ok-permits.was (omega (arith, ap length are, length_containers (containers_of s)))
    c.put.ensures (c.put_octets.ensures ∙ ap (sets _ body_start) (sym are)) c.finish.ensures
