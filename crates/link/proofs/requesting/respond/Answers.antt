use Rattle.std.proofs.Common.{rules, ℕ, length, ◌≡◌, ap, ◌∙◌}
use Rattle.frame_writer.specs.Plain.{some_octets}
use Rattle.frame_writer.specs.Responses.{needed_octets}
use Rattle.frame_writer.proofs.Answering.{needed_same}
use Rattle.link_end.specs.Granting.{as_decided, octets_in, response_allowed, decided, granted_response, smaller_maximum}
use Rattle.link.specs.Requests.{octets_asked}
use Rattle.link.specs.Requests.{responding, decided_request}
use Rattle.link.proofs.Asking.{refuses, grants, octets_some, unmeasured, decided_formed, formed_writing}
use Rattle.link.proofs.requesting.respond.Goals as goal
use Rattle.link.proofs.requesting.respond.Goals.{After-grant_response}

-- it is decided as the request is
decides : (c : After-grant_response) →
    let a = c.args in
    as_decided c.grant_response.new.self c.grant_response.result ≡ decided_request (responding a.attributes.now a.values.now a.descriptors.now a.end.now) (length a.out.now) a.end.now
unfolding granted_response
decides c =
    let a = c.args in
    let e = a.end.now in
    let lent = length a.out.now in
    let size = smaller_maximum e in
    let answers = c.needed_octets-needed.ensures ∙ ap (λ (n : ℕ). some_octets (needed_octets lent n a.attributes.now a.values.now a.descriptors.now)) c.smaller_maximum-size.ensures in
    let needed = ap octets_in answers ∙ octets_some _ in
    let same = needed_same lent size a.attributes.now a.values.now a.descriptors.now in
    let asked = octets_asked (responding a.attributes.now a.values.now a.descriptors.now e) in
    c.grant_response.ensures
    ∙ (λ i. granted_response (needed i) lent e)
    ∙ ap (λ (n : ℕ). decided n e e) (unmeasured (needed_octets lent size a.attributes.now a.values.now a.descriptors.now) asked (response_allowed e) lent e same.some same.held)

pub returns-in_err-grant_response : goal.returns-in_err-grant_response
returns-in_err-grant_response c =
    let a = c.args in
    let is_so = decides (goal.at.returns-in_err-grant_response c).After-grant_response in
    let h = refuses (responding a.attributes.now a.values.now a.descriptors.now a.end.now) a.end.now c.grant_response.new.self a.out.now c.grant_response.result is_so _ c.in_err-grant_response.was in
    search rules

pub returns : goal.returns
returns c =
    let a = c.args in
    let is_so = decides (goal.at.returns c).After-grant_response in
    let formed = decided_formed (responding a.attributes.now a.values.now a.descriptors.now a.end.now) a.end.now c.grant_response.new.self a.out.now c.grant_response.result is_so c.in_ok-grant_response.was in
    grants (responding a.attributes.now a.values.now a.descriptors.now a.end.now) a.end.now c.grant_response.new.self a.out.now c.grant_response.result is_so c.in_ok-grant_response.was
    c.sender.result c.write_answers.result c.sent.result c.write_answers.new.out c.sender.ensures (formed_writing formed (rw (← c.smaller_maximum-size.ensures) c.write_answers.ensures)) (c.sent.ensures _)
