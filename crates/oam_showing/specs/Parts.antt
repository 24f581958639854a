-- The parts of a frame's body as rows of numbers: the part's kind, the octet after it, the number of TLVs skipped before it, and
-- what the part says.
use Rattle.std.specs.Prelude.{ℕ, ◌-◌, ◌/◌, length, take, drop, replicate}
use mathlib.Core.List.{List, [], ◌∷◌, ◌++◌, map, flatten}
use Rattle.octets.specs.Layout.{body_start, events_start}
use Rattle.frame_tlvs.specs.Walk.{Next, stop, broken, skip, has, walk, beside}
use Rattle.frame_tlvs.specs.Events.{event_step, next_of as event_next_of}
use Rattle.frame_body.specs.Information.{information_step, next_of as information_next_of, information_values}
use Rattle.frame_body.specs.declared.InformationPart.{InformationPart}
use Rattle.frame_body.specs.declared.InformationPart.TheVariants.{Local as local, Remote as remote}
use Rattle.frame_body.specs.Variables.{Container, value, indication, descriptor_step, descriptor_next, container_step, container_next}
use Rattle.frame.specs.Frame.{Body, information, notification, request, response, loopback, organization}
use Rattle.frame_tlvs.specs.declared.Event.{Event}
use Rattle.frame_writer.specs.Encode.{event_values}

-- a part of a walk, and the octet after it
pub data Placed (P : Type 0) : Type 0 where
  before : P → ℕ → Placed P

-- what stands at an octet, its part placed
abbrev pub placed : {P : Type 0} → Next P → Next (Placed P)
placed stop = stop
placed broken = broken
placed (skip n) = skip n
placed (has p n) = has (before p n) n

-- the parts of a frame in order from octet `at` on, each placed, and beside each "the number skipped since the body's start"
abbrev pub placed_from : {P : Type 0} → (ℕ → Next P) → List ℕ → ℕ → List (Placed P × ℕ)
placed_from next f at = beside 0 (walk (λ n. placed (next n)) (length f) at)

-- "The TLV walk begins at octet 18, or 20 after a sequence number (2 octets, code 01)."
abbrev pub information_placed : List ℕ → List (Placed InformationPart × ℕ)
information_placed f = placed_from (λ at. information_next_of (information_step f at)) f body_start

abbrev pub events_placed : List ℕ → List (Placed Event × ℕ)
events_placed f = placed_from (λ at. event_next_of (event_step f at)) f events_start

abbrev pub descriptors_placed : List ℕ → List (Placed ℕ × ℕ)
descriptors_placed f = placed_from (λ at. descriptor_next (descriptor_step f at)) f body_start

abbrev pub containers_placed : List ℕ → List (Placed Container × ℕ)
containers_placed f = placed_from (λ at. container_next f (container_step f at)) f body_start

-- the numbers of a row
abbrev pub row_numbers : ℕ
row_numbers = 10

-- a kind, the octet after the part, the number skipped before it and the part's numbers, then zeros; kinds are numbers from 32 on,
-- so that none looks like a refusal
abbrev pub row : ℕ → ℕ → ℕ → List ℕ → List ℕ
row kind next skipped numbers = kind ∷ next ∷ skipped ∷ (numbers ++ replicate (row_numbers - 3 - length numbers) 0)

-- 32 a Local, 33 a Remote TLV: its seven fields
abbrev pub information_row : Placed InformationPart × ℕ → List ℕ
information_row (before (local i) next, skipped) = row 32 next skipped (information_values i)
information_row (before (remote i) next, skipped) = row 33 next skipped (information_values i)

-- 34 an event: its type and its six values
abbrev pub event_row : Placed Event × ℕ → List ℕ
event_row (before e next, skipped) = row 34 next skipped (e.kind ∷ event_values e)

-- 35 a descriptor
abbrev pub descriptor_row : Placed ℕ × ℕ → List ℕ
descriptor_row (before descriptor next, skipped) = row 35 next skipped (descriptor ∷ [])

-- 36 a container with a value: its descriptor, the octet where the value starts, and its width; 37 one with an indication: its
-- descriptor and the width octet as received
abbrev pub container_row : Placed Container × ℕ → List ℕ
container_row (before (value descriptor octets) next, skipped) = row 36 next skipped (descriptor ∷ (next - length octets) ∷ length octets ∷ [])
container_row (before (indication descriptor octet) next, skipped) = row 37 next skipped (descriptor ∷ octet ∷ [])

-- the rows of a frame by its body: the parts that a body names are those that are placed in its frame, and the numbers beside
-- them those of its own walk (`taken` and `rows_give_counts`, proofs/Taking.antt). A loopback command and organization data are
-- no parts.
abbrev pub rows_of : List ℕ → Body → List (List ℕ)
rows_of f (information ps) = map information_row (information_placed f)
rows_of f (notification n es) = map event_row (events_placed f)
rows_of f (request ds) = map descriptor_row (descriptors_placed f)
rows_of f (response cs) = map container_row (containers_placed f)
rows_of f (loopback n) = []
rows_of f (organization oui x) = []

-- the numbers of the rows that are stored where there is some room: the first ones passed over, then as many as fit whole
abbrev pub stored_rows : ℕ → ℕ → List (List ℕ) → List ℕ
stored_rows first room rows = flatten (take (room / row_numbers) (drop first rows))
