-- The archive's entries on one state, one call after another: what each is handed, what its contract says that it comes to, the
-- octets after all of them, and the counts that its ticks took.
use Rattle.std.specs.Prelude.{ℕ, ◌/◌, ◌%◌, ◌^◌, ◌≤◌, ◌≡◌, List, [], ◌∷◌, ◌++◌, Bool, true, false, cond, ltb, leb, eqb, length}
use Rattle.link_peer.specs.declared.Settings.{Settings}
use Rattle.link_end.specs.declared.End.{End}
use Rattle.link_end.specs.declared.News.TheVariants.{Nothing}
use Rattle.link.specs.Outcomes.{Outcome, outcome}
use Rattle.link_windows.specs.Ranges.{MaybeWatch}
use Rattle.link_windows.specs.declared.Watch.{Watch}
use Rattle.link_windows.specs.Ranges.{fresh_watch}
use Rattle.link_counting.specs.Counting.{CountedTick}
use Rattle.theorems_windows.specs.Runs.{watch_by, WindowSettings, fresh_by}
use Rattle.oam_outcomes.specs.Stepped.{kind_of}
use Rattle.oam_packing.specs.Octets.{unpacked, watch_in}
use Rattle.theorems_reach.specs.Machine.{Request, tick, report, receive, request, Call, outcome_by, output_by}
use Rattle.theorems_reach.specs.Runs.{after}
use Rattle.theorems_reach.specs.Premises.{OfOctets}
use Rattle.oam_showing.specs.Reading.{header_numbers}
use Rattle.oam.specs.Machine.{answer_of, state_after, fresh_for, fresh_state, report_from, reported_by, reported_output, received_by, received_output}
use Rattle.oam.specs.Ticking.{arisen_room, counted_events, ticked_by, ticked_output, answer_of_tick, state_after_tick}

-- what an entry is handed beside the state and the output: oam_tick a count of bad frames and events with room for some numbers,
-- oam_report a number, oam_receive a frame and a header with room for some numbers, oam_start, oam_stop, oam_request, oam_notify,
-- oam_organization and oam_respond a request
pub data EntryInput : Type 0 where
  ticks : (count room : ℕ) → EntryInput
  reports : ℕ → EntryInput
  receives : List ℕ → (room : ℕ) → EntryInput
  asks : Request → EntryInput

-- a call of an entry, with the octets of the lent output
pub record EntryCall : Type 0 where
  pub input : EntryInput
  pub out : List ℕ

abbrev pub is_ticks : EntryInput → Bool
is_ticks (ticks count room) = true
is_ticks (reports n) = false
is_ticks (receives f room) = false
is_ticks (asks q) = false

-- ---- what its contract says, for an output of some octets

-- the outcome of an end that it finds; of a tick it does not depend on the watch (`ticked_outcome`)
abbrev pub outcome_for : EntryInput → ℕ → End → Outcome
outcome_for (ticks count room) octets e = cond (ltb room arisen_room) (outcome e 9 0 Nothing) (outcome_by tick octets e)
outcome_for (reports n) octets e = reported_by n octets e
outcome_for (receives f room) octets e = received_by f room octets e
outcome_for (asks q) octets e = outcome_by (request q) octets e

-- how many events arise beside a watch
abbrev pub arisen_for : EntryInput → ℕ → Watch → End → ℕ
arisen_for (ticks count room) octets w e = counted_events (ticked_by count room octets w e).counted
arisen_for (reports n) octets w e = 0
arisen_for (receives f room) octets w e = 0
arisen_for (asks q) octets w e = 0

-- the output after it
abbrev pub output_for : EntryInput → End → List ℕ → List ℕ
output_for (ticks count room) e out = ticked_output room e out
output_for (reports n) e out = reported_output n e out
output_for (receives f room) e out = received_output f room e out
output_for (asks q) e out = output_by (request q) e out

-- the number that it gives back, by the state's octets
abbrev pub answer_for : EntryInput → ℕ → List ℕ → ℕ
answer_for (ticks count room) octets state = answer_of_tick (ticked_by count room octets (watch_in state)) (unpacked state)
answer_for (reports n) octets state = answer_of (reported_by n octets) (unpacked state)
answer_for (receives f room) octets state = answer_of (received_by f room octets) (unpacked state)
answer_for (asks q) octets state = answer_of (outcome_by (request q) octets) (unpacked state)

-- and the state's octets after it
abbrev pub state_for : EntryInput → ℕ → List ℕ → List ℕ
state_for (ticks count room) octets state = state_after_tick (ticked_by count room octets (watch_in state)) (unpacked state) state
state_for (reports n) octets state = state_after (reported_by n octets) (unpacked state) state
state_for (receives f room) octets state = state_after (received_by f room octets) (unpacked state) state
state_for (asks q) octets state = state_after (outcome_by (request q) octets) (unpacked state) state

abbrev pub comes_to : EntryCall → End → Outcome
comes_to x e = outcome_for x.input (length x.out) e

-- ---- the octets that calls of entries, the latest first, leave of a state that oam_fresh was handed

abbrev pub watch_for : WindowSettings → MaybeWatch
watch_for w = fresh_watch w.frame_window w.frame_threshold w.seconds_window w.seconds_threshold

abbrev pub kept_after : Settings → WindowSettings → List ℕ → List EntryCall → List ℕ
kept_after s w state [] = fresh_state (fresh_for s state) (watch_for w) state
kept_after s w state (x ∷ xs) = state_for x.input (length x.out) (kept_after s w state xs)

-- ---- the machine's calls among them

-- one call, or none: events and a header that are too short and a number that is no report are refused by the entry itself
abbrev pub call_of : EntryInput → List ℕ → List Call
call_of (ticks count room) out = cond (ltb room arisen_room) [] (record { input = tick; out = out } ∷ [])
call_of (reports n) out = cond (leb n 5) (record { input = report (report_from n); out = out } ∷ []) []
call_of (receives f room) out = cond (ltb room header_numbers) [] (record { input = receive f; out = out } ∷ [])
call_of (asks q) out = record { input = request q; out = out } ∷ []

abbrev pub calls_in : List EntryCall → List Call
calls_in [] = []
calls_in (x ∷ xs) = call_of x.input x.out ++ calls_in xs

-- ---- the counts that were taken, the oldest first

-- a call takes one where it is a tick that is accepted
abbrev pub counts_by : EntryInput → (answer : ℕ) → List ℕ
counts_by (ticks count room) answer = cond (eqb answer 0) (count ∷ []) []
counts_by (reports n) answer = []
counts_by (receives f room) answer = []
counts_by (asks q) answer = []

abbrev pub counts_in : Settings → List EntryCall → List ℕ
counts_in s [] = []
counts_in s (x ∷ xs) = counts_in s xs ++ counts_by x.input (comes_to x (after s (calls_in xs))).answer

-- ---- a tick after some calls

abbrev pub tick_call : (count room : ℕ) → (out : List ℕ) → EntryCall
tick_call count room out = record { input = ticks count room; out = out }

-- what it comes to: of the end of the machine's run, and of the watch that the counts made of a fresh one
abbrev pub tick_then : Settings → WindowSettings → List EntryCall → (count room octets : ℕ) → CountedTick
tick_then s w xs count room octets = ticked_by count room octets (watch_by (fresh_by w) (counts_in s xs)) (after s (calls_in xs))

-- ---- what the theorems presuppose: received frames are of octets, as every slice of them is

abbrev pub EntryOctets : EntryInput → Type 0
EntryOctets (ticks count room) = Unit {0}
EntryOctets (reports n) = Unit {0}
EntryOctets (receives f room) = OfOctets (receive f)
EntryOctets (asks q) = Unit {0}

abbrev pub AllOfOctetsIn : List EntryCall → Type 0
AllOfOctetsIn [] = Unit {0}
AllOfOctetsIn (x ∷ xs) = EntryOctets x.input × AllOfOctetsIn xs

-- ---- an outcome as one number

-- the parts of an outcome and how many events arose, each in the bits of the number that are its own: 52 to 63 are 0
pub record InBits (o : Outcome) (arisen n : ℕ) : Type 0 where
  pub answer : n % 2 ^ 8 ≡ o.answer
  pub written : n / 2 ^ 8 % 2 ^ 32 ≡ o.length
  pub octet : n / 2 ^ 40 % 2 ^ 8 ≡ o.octet
  pub kind : n / 2 ^ 48 % 4 ≡ kind_of o.shown
  pub events : n / 2 ^ 50 ≡ arisen
  pub few : arisen ≤ 2
