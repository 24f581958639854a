-- What the entry of the tick promises: a call like the others, and the events that arise.
use Rattle.frame_tlvs.specs.declared.Event.{Event}
use Rattle.std.specs.Prelude.{ℕ, ◌+◌, ◌*◌, ◌^◌, ◌≡◌, List, [], ◌∷◌, ◌++◌, cond, ltb, eqb, Option, None, Some}
use Rattle.std.proofs.lemmas.List.Edits.{sets}
use Rattle.frame_writer.specs.Encode.{event_values}
use Rattle.link_end.specs.declared.End.{End}
use Rattle.link_end.specs.Parts.{Is, Refused, MaybeEnd}
use Rattle.link_end.specs.declared.News.TheVariants.{Nothing as NoNews}
use Rattle.link.specs.Outcomes.{outcome}
use Rattle.link_windows.specs.Watches.{Counted}
use Rattle.link_windows.specs.declared.Watch.{Watch}
use Rattle.link_counting.specs.Counting.{CountedTick, uncounted, counted_tick}
use Rattle.theorems_reach.specs.Machine.{tick, output_by}
use Rattle.oam_packing.specs.Octets.{watch_packed_in}
use Rattle.oam_outcomes.specs.Stepped.{stepped_number, stepped_state}
use Rattle.oam.specs.Machine.{output_after}

-- ---- what arose

-- an event as seven numbers: its type and its six values
abbrev pub arisen_numbers : Option Event → List ℕ
arisen_numbers None = []
arisen_numbers (Some e) = e.kind ∷ event_values e

abbrev pub arisen_count : Option Event → ℕ
arisen_count None = 0
arisen_count (Some e) = 1

-- errored frames first
abbrev pub counted_numbers : Counted → List ℕ
counted_numbers c = arisen_numbers c.frames ++ arisen_numbers c.seconds

abbrev pub counted_events : Counted → ℕ
counted_events c = arisen_count c.frames + arisen_count c.seconds

-- room for the numbers of two events
abbrev pub arisen_room : ℕ
arisen_room = 14

-- ---- what a tick comes to

-- events too short for that are 9: the end stays, and so its State octet, and no count is taken
unfoldable pub ticked_by : (count room octets : ℕ) → Watch → End → CountedTick
ticked_by count room octets w e =
    cond (ltb room arisen_room) (record { outcome = outcome e 9 0 NoNews; counted = uncounted w }) (counted_tick octets e w count)

unfoldable pub ticked_output : (room : ℕ) → End → List ℕ → List ℕ
ticked_output room e out = cond (ltb room arisen_room) out (output_by tick e out)

-- bits 50 and 51 say how many events arose
unfoldable pub ticked_number : CountedTick → ℕ
ticked_number t = stepped_number t.outcome + counted_events t.counted * 2 ^ 50

-- end and watch are stored together, or neither is
unfoldable pub ticked_state : CountedTick → List ℕ → List ℕ
ticked_state t state =
    cond (eqb t.outcome.answer 0) (watch_packed_in t.counted.watch (stepped_state t.outcome state)) state

-- ---- where there may be no end

abbrev pub answer_of_tick : (End → CountedTick) → MaybeEnd → ℕ
answer_of_tick call (Refused n) = n
answer_of_tick call (Is e) = ticked_number (call e)

abbrev pub state_after_tick : (End → CountedTick) → MaybeEnd → List ℕ → List ℕ
state_after_tick call (Refused n) state = state
state_after_tick call (Is e) state = ticked_state (call e) state

abbrev pub events_after_tick : (End → CountedTick) → MaybeEnd → List ℕ → List ℕ
events_after_tick call (Refused n) events = events
events_after_tick call (Is e) events = sets events 0 (counted_numbers (call e).counted)

-- the entry that ticks, by the end that it finds: its answer, the events, the state and the output after it
pub record Ticking (call : End → CountedTick) (output : End → List ℕ → List ℕ) (found : MaybeEnd) (events state out : List ℕ) (answer : ℕ) (events' state' out' : List ℕ) : Type 0 where
  pub answers : answer ≡ answer_of_tick call found
  pub shows : events' ≡ events_after_tick call found events
  pub keeps : state' ≡ state_after_tick call found state
  pub writes : out' ≡ output_after output found out
