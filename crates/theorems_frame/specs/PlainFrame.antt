-- The plain form of a frame, by what stands in its octets: what it reads as, with nothing skipped, its length and its zeros.
use Rattle.std.specs.Prelude.{ℕ, ◌+◌, max, List, Bool, false, ◌&&◌, length, drop, eqb}
use Rattle.octets.specs.Octets.{zeros}
use Rattle.octets.specs.Layout.{shortest_frame, body_start}
use Rattle.frame.specs.Frame.{Answer, refused, accepted, decode}
use Rattle.frame_writer.specs.Plain.{plain, body_length}

-- "zeros after the last part or the loopback command, shortest length (at least 60)"
abbrev pub shortest : ℕ → List ℕ → Bool
shortest end f = eqb (length f) (max shortest_frame end) && zeros (drop end f)

abbrev pub plain_answer : List ℕ → Answer → Bool
plain_answer f (refused n) = false
plain_answer f (accepted m) = plain m && shortest (body_start + body_length m.body) f

-- a frame in plain form
unfoldable pub plain_frame : List ℕ → Bool
plain_frame f = plain_answer f (decode f)
