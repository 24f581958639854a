-- What is shown of a Variable Request: all its descriptors.
use Rattle.std.specs.Prelude.{ℕ, ◌*◌, List, [], cond, length, ltb}
use Rattle.frame_tlvs.specs.Walk.{met}
use Rattle.frame_body.specs.Variables.{descriptor_walk}
use Rattle.frame.specs.Frame.{Body, information, notification, request, response, loopback, organization, Answer, refused, accepted, decode}
use Rattle.oam_showing.specs.Showing.{Shown, shows}

-- The count of all descriptors stands above the answer's low 8 bits; 9 where the lent slice has no room for all of them, and 10 for
-- a frame of another code.
abbrev pub descriptors_of : ℕ → Body → Shown
descriptors_of room (information ps) = shows 10 []
descriptors_of room (notification n es) = shows 10 []
descriptors_of room (request ds) = cond (ltb room (length ds)) (shows 9 []) (shows (length ds * 256) ds)
descriptors_of room (response cs) = shows 10 []
descriptors_of room (loopback n) = shows 10 []
descriptors_of room (organization oui x) = shows 10 []

abbrev pub descriptors_answer : ℕ → Answer → Shown
descriptors_answer room (refused n) = shows n []
descriptors_answer room (accepted m) = descriptors_of room m.body

-- what is shown of a frame where the lent slice has some room
unfoldable pub descriptors_shown : List ℕ → ℕ → Shown
descriptors_shown f room = descriptors_answer room (decode f)

-- ---- How the code comes to it. No public promise mentions anything below.

-- the descriptors that stand in a body
abbrev pub descriptors_in : List ℕ → List ℕ
descriptors_in s = met (descriptor_walk s)
