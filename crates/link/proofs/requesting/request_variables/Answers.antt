use Rattle.std.proofs.Common.{rules, length, ◌≡◌, ap, ◌∙◌}
use Rattle.octets.specs.Bits.{bit}
use Rattle.link_peer.specs.declared.Settings.{Settings}
use Rattle.link_end.specs.Granting.{as_decided, octets_in, granted_frame}
use Rattle.link.specs.Requests.{requesting, decided_request}
use Rattle.link.proofs.Asking.{refuses, grants, octets_some}
use Rattle.link.proofs.requesting.request_variables.Goals as goal
use Rattle.link.proofs.requesting.request_variables.Goals.{After-grant_frame}

-- it is decided as the request is
decides : (c : After-grant_frame) →
    let a = c.args in
    as_decided c.grant_frame.new.self c.grant_frame.result ≡ decided_request (requesting a.descriptors.now a.end.now) (length a.out.now) a.end.now
unfolding granted_frame
decides c =
    let a = c.args in
    let octets = ap octets_in c.request_octets-octets.ensures ∙ octets_some _ in
    let permitted = c.is_active.ensures ∙ ap (λ (s : Settings). bit 0 s.configuration) c.settings.ensures in
    c.grant_frame.ensures ∙ (λ i. granted_frame (octets i) (permitted i) (length a.out.now) a.end.now)

pub returns-in_err-grant_frame : goal.returns-in_err-grant_frame
returns-in_err-grant_frame c =
    let a = c.args in
    let is_so = decides (goal.at.returns-in_err-grant_frame c).After-grant_frame in
    let h = refuses (requesting a.descriptors.now a.end.now) a.end.now c.grant_frame.new.self a.out.now c.grant_frame.result is_so _ c.in_err-grant_frame.was in
    search rules

pub returns : goal.returns
returns c =
    let a = c.args in
    let is_so = decides (goal.at.returns c).After-grant_frame in
    grants (requesting a.descriptors.now a.end.now) a.end.now c.grant_frame.new.self a.out.now c.grant_frame.result is_so c.in_ok-grant_frame.was
    c.sender.result _ c.sent.result _ c.sender.ensures c.write_request.ensures (c.sent.ensures _)
