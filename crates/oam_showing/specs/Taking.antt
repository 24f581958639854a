-- The parts that rows are made of, and the numbers beside them, against the message that the frame says and the walk over its body.
use Rattle.std.specs.Prelude.{ℕ, ◌≡◌, List, map, drop}
use Rattle.octets.specs.Layout.{body_start, events_start}
use Rattle.frame_tlvs.specs.Walk.{beside}
use Rattle.frame_tlvs.specs.Events.{event_walk}
use Rattle.frame_body.specs.Information.{information_walk}
use Rattle.frame.specs.Frame.{Body, information, notification, request, response, loopback, organization}
use Rattle.oam_showing.specs.Parts.{Placed, before, information_placed, events_placed, descriptors_placed, containers_placed}

-- the part and the number beside it, without the part's place
abbrev pub unplaced : {P : Type 0} → Placed P × ℕ → P × ℕ
unplaced (before p next, skipped) = (p, skipped)

-- the part alone
abbrev pub part_of : {P : Type 0} → Placed P × ℕ → P
part_of r = (unplaced r).0

-- The placed parts of a frame are exactly the parts of its body; a loopback command and organization data have none.
abbrev pub Taken : List ℕ → Body → Type 0
Taken f (information ps) = ps ≡ map part_of (information_placed f)
Taken f (notification n es) = es ≡ map part_of (events_placed f)
Taken f (request ds) = ds ≡ map part_of (descriptors_placed f)
Taken f (response cs) = cs ≡ map part_of (containers_placed f)
Taken f (loopback n) = Unit
Taken f (organization oui x) = Unit

-- a part before which nothing was skipped
abbrev pub unskipped : {P : Type 0} → P → P × ℕ
unskipped p = (p, 0)

-- The numbers beside them are those of the walk over the body itself; in a Variable Request or Response nothing is skipped.
abbrev pub Numbered : List ℕ → Body → Type 0
Numbered f (information ps) = map unplaced (information_placed f) ≡ beside 0 (information_walk (drop body_start f))
Numbered f (notification n es) = map unplaced (events_placed f) ≡ beside 0 (event_walk (drop events_start f))
Numbered f (request ds) = map unplaced (descriptors_placed f) ≡ map unskipped ds
Numbered f (response cs) = map unplaced (containers_placed f) ≡ map unskipped cs
Numbered f (loopback n) = Unit
Numbered f (organization oui x) = Unit
