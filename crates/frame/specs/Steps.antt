-- What a caller meets who takes the steps of a body from its start, and how many TLVs are skipped there.
use Rattle.std.specs.Prelude.{ℕ, ◌≡◌, List, get_or, drop}
use Rattle.octets.specs.Octets.{num}
use Rattle.octets.specs.Layout.{body_start, events_start, data_start}
use Rattle.frame_tlvs.specs.Walk.{met, skipped_in}
use Rattle.frame_body.specs.Information.{information_walk}
use Rattle.frame_tlvs.specs.Events.{event_walk}
use Rattle.frame_body.specs.Variables.{descriptor_walk, container_walk}
use Rattle.frame.specs.Frame.{Body, information, notification, request, response, loopback, organization}

-- The parts of a body are what the steps give, each kind over its part of the frame, skipped TLVs left out; numbers stand at
-- their octets.
abbrev pub Stepped : List ℕ → Body → Type 0
Stepped f (information ps) = ps ≡ met (information_walk (drop body_start f))
Stepped f (notification n es) = (n ≡ num 2 f body_start) × (es ≡ met (event_walk (drop events_start f)))
Stepped f (request ds) = ds ≡ met (descriptor_walk (drop body_start f))
Stepped f (response cs) = cs ≡ met (container_walk (drop body_start f))
Stepped f (loopback n) = n ≡ get_or f body_start 0
Stepped f (organization oui x) = (oui ≡ num 3 f body_start) × (x ≡ drop data_start f)

-- how many TLVs are skipped in the body of a frame; bodies of other codes have no TLVs
abbrev pub skipped_by : List ℕ → Body → ℕ
skipped_by f (information ps) = skipped_in (information_walk (drop body_start f))
skipped_by f (notification n es) = skipped_in (event_walk (drop events_start f))
skipped_by f (request ds) = 0
skipped_by f (response cs) = 0
skipped_by f (loopback n) = 0
skipped_by f (organization oui x) = 0
