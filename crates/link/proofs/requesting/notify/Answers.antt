use Rattle.std.proofs.Common.{rules, length, ◌≡◌, ap, ◌∙◌}
use Rattle.frame_writer.specs.Plain.{sized, some_octets}
use Rattle.frame.specs.Frame.{notification}
use Rattle.frame_writer.specs.Writing.{events_of}
use Rattle.link_end.specs.declared.Own.{Own}
use Rattle.link_end.specs.Granting.{as_decided, octets_in, granted_number}
use Rattle.link.specs.Requests.{notifying, decided_request}
use Rattle.link.proofs.Asking.{refuses, grants, octets_some}
use Rattle.link.proofs.requesting.notify.Goals as goal
use Rattle.link.proofs.requesting.notify.Goals.{After-grant_number}

-- it is decided as the request is
decides : (c : After-grant_number) →
    let a = c.args in
    as_decided c.grant_number.new.self c.grant_number.result ≡ decided_request (notifying a.events.now a.end.now) (length a.out.now) a.end.now
unfolding granted_number
decides c =
    let a = c.args in
    let asked = c.notification_octets-octets.ensures ∙ ap (λ (o : Own). some_octets (sized (notification o.number (events_of a.events.now)))) c.own-number.ensures in
    let octets = ap octets_in asked ∙ octets_some _ in
    c.grant_number.ensures ∙ (λ i. granted_number (octets i) (length a.out.now) a.end.now)

pub returns-in_err-grant_number : goal.returns-in_err-grant_number
returns-in_err-grant_number c =
    let a = c.args in
    let is_so = decides (goal.at.returns-in_err-grant_number c).After-grant_number in
    let h = refuses (notifying a.events.now a.end.now) a.end.now c.grant_number.new.self a.out.now c.grant_number.result is_so _ c.in_err-grant_number.was in
    search rules

pub returns : goal.returns
returns c =
    let a = c.args in
    let is_so = decides (goal.at.returns c).After-grant_number in
    grants (notifying a.events.now a.end.now) a.end.now c.grant_number.new.self a.out.now c.grant_number.result is_so c.in_ok-grant_number.was
    c.sender.result c.write_notification.result c.sent.result c.write_notification.new.out c.sender.ensures (rw (← c.own-number.ensures) c.write_notification.ensures) (c.sent.ensures _)
