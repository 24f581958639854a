-- What a call comes to: a number, and the state after it.
use Rattle.std.specs.Prelude.{ℕ, ◌+◌, ◌*◌, ◌%◌, ◌^◌, List, cond, eqb}
use Rattle.link_end.specs.declared.News.{News}
use Rattle.link_end.specs.declared.News.TheVariants.{Nothing, Frame, Events}
use Rattle.link.specs.Outcomes.{Outcome}
use Rattle.oam_packing.specs.Octets.{packed_in}

-- what is shown: 0 nothing, 1 the frame, 2 new events
abbrev pub kind_of : News → ℕ
kind_of Nothing = 0
kind_of (Frame h) = 1
kind_of (Events h n) = 2

-- bits 0 to 7 the answer, 8 to 39 the length written, 40 to 47 the State octet after the call, 48 and 49 what is shown
unfoldable pub stepped_number : Outcome → ℕ
stepped_number o = o.answer + o.length % 2 ^ 32 * 2 ^ 8 + o.octet * 2 ^ 40 + kind_of o.shown * 2 ^ 48

-- the state after a call; of a refused one "State and lent memory stay as before"
unfoldable pub stepped_state : Outcome → List ℕ → List ℕ
stepped_state o state = cond (eqb o.answer 0) (packed_in o.end state) state
