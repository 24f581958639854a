use native.Mathlib.Omega.{arith}
use Rattle.frame_writer.proofs.Writers.{refused, accepted, wrote}
use Rattle.frame_writer.proofs.requests.write_request.Goals as goal

pub returns-in_err-permits : goal.returns-in_err-permits
returns-in_err-permits c = refused _ _ _ _ c.request_octets.ensures c.permits.ensures _ c.in_err-permits.was c.from_residual.ensures.1

pub put-requires : goal.put-requires
put-requires c = omega (arith, (accepted _ _ _ _ c.request_octets.ensures c.permits.ensures c.in_ok-permits.was).1)

pub put_descriptors-end-requires : goal.put_descriptors-end-requires
put_descriptors-end-requires c = omega (arith, (accepted _ _ _ _ c.request_octets.ensures c.permits.ensures c.in_ok-permits.was).1)

pub finish-requires : goal.finish-requires
finish-requires c = omega (arith, (accepted _ _ _ _ c.request_octets.ensures c.permits.ensures c.in_ok-permits.was).1)

pub returns : goal.returns
returns c =
    let d = c.put_descriptors-end.ensures in
    wrote _ _ _ _ c.request_octets.ensures c.permits.ensures c.in_ok-permits.was d.end c.put.ensures d.output c.finish.ensures
