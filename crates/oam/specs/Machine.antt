-- What the entries of the link machine promise. An end is kept in octets that the caller lends: an entry unpacks it, takes the
-- call, and stores the end after it. The calls are those of the theorems' machine (`outcome_by`, `output_by` of `theorems_reach`).
use Rattle.std.specs.Prelude.{ℕ, ◌≡◌, List, [], ◌∷◌, ◌++◌, cond, true, false, ltb, leb, eqb, length, Option, None, Some}
use Rattle.std.proofs.lemmas.List.Edits.{sets}
use Rattle.link_discovery.specs.Standing.{standing_number}
use Rattle.link_peer.specs.declared.Settings.{Settings}
use Rattle.link_end.specs.declared.End.{End}
use Rattle.link_end.specs.declared.Report.{Report}
use Rattle.link_end.specs.declared.Report.TheVariants.{LinkUp, LinkDown, DyingGasp, CriticalEvent}
use Rattle.link_end.specs.declared.News.{News}
use Rattle.link_end.specs.declared.News.TheVariants.{Nothing, Frame, Events}
use Rattle.link.specs.Outcomes.{Outcome, outcome}
use Rattle.theorems_reach.specs.Machine.{report, receive, outcome_by, output_by}
use Rattle.oam_outcomes.specs.Stepped.{stepped_number, stepped_state}
use Rattle.link_end.specs.Parts.{Is, Refused, MaybeEnd, fresh_of, discovery_of}
use Rattle.oam_packing.specs.Numbers.{numbers_of}
use Rattle.link_windows.specs.Ranges.{MaybeWatch}
use Rattle.link_windows.specs.Ranges.{Refused as WatchRefused, Is as WatchIs}
use Rattle.link_windows.specs.declared.Watch.{Watch}
use Rattle.oam_packing.specs.Watches.{watch_shown}
use Rattle.oam_packing.specs.Octets.{state_length, packed_in, watch_packed_in}
use Rattle.oam_showing.specs.Showing.{Shown, shows, roomy}
use Rattle.oam_showing.specs.Reading.{header_numbers, header_shown}

-- ---- what a call comes to

-- a call where there may be no end: then the number of its refusal alone, and everything stays as it was
abbrev pub answer_of : (End → Outcome) → MaybeEnd → ℕ
answer_of call (Refused n) = n
answer_of call (Is e) = stepped_number (call e)

abbrev pub state_after : (End → Outcome) → MaybeEnd → List ℕ → List ℕ
state_after call (Refused n) state = state
state_after call (Is e) state = stepped_state (call e) state

abbrev pub output_after : (End → List ℕ → List ℕ) → MaybeEnd → List ℕ → List ℕ
output_after output (Refused n) out = out
output_after output (Is e) out = output e out

-- an entry that takes a call, by the end that it finds: its answer, the state and the output after it
pub record Stepping (call : End → Outcome) (output : End → List ℕ → List ℕ) (found : MaybeEnd) (state out : List ℕ) (answer : ℕ) (state' out' : List ℕ) : Type 0 where
  pub answers : answer ≡ answer_of call found
  pub keeps : state' ≡ state_after call found state
  pub writes : out' ≡ output_after output found out

-- ---- a fresh end

abbrev pub settings_of : (configuration size oui vendor source required : ℕ) → Settings
settings_of configuration size oui vendor source required =
    record { configuration = configuration; size = size; oui = oui; vendor = vendor; source = source; required = required }

-- "settings or request values out of range" is 10, and so is a state of another length
unfoldable pub fresh_for : Settings → List ℕ → MaybeEnd
fresh_for s state = cond (eqb (length state) state_length) (fresh_of s) (Refused 10)

abbrev pub fresh_answer : MaybeEnd → MaybeWatch → ℕ
fresh_answer (Refused n) watch = n
fresh_answer (Is e) (WatchRefused n) = n
fresh_answer (Is e) (WatchIs w) = 0

abbrev pub fresh_state : MaybeEnd → MaybeWatch → List ℕ → List ℕ
fresh_state (Refused n) watch state = state
fresh_state (Is e) (WatchRefused n) state = state
fresh_state (Is e) (WatchIs w) state = watch_packed_in w (packed_in e state)

-- the entry that makes a fresh end and a fresh watch, or neither
pub record Freshly (made : MaybeEnd) (watch : MaybeWatch) (state : List ℕ) (answer : ℕ) (state' : List ℕ) : Type 0 where
  pub answers : answer ≡ fresh_answer made watch
  pub keeps : state' ≡ fresh_state made watch state

-- ---- reports

-- 0 link up, 1 link down, 2 and 3 dying gasp set and cleared, 4 and 5 critical event set and cleared
abbrev pub report_from : ℕ → Report
report_from n =
    cond (eqb n 0) LinkUp
    (cond (eqb n 1) LinkDown
    (cond (eqb n 2) (DyingGasp true)
    (cond (eqb n 3) (DyingGasp false)
    (cond (eqb n 4) (CriticalEvent true) (CriticalEvent false)))))

-- the report of a number, where there is one
abbrev pub known_report : ℕ → Option Report
known_report n = cond (leb n 5) (Some (report_from n)) None

-- any other number is 10: the end stays, and so its State octet
unfoldable pub reported_by : (number octets : ℕ) → End → Outcome
reported_by number octets e = cond (leb number 5) (outcome_by (report (report_from number)) octets e) (outcome e 10 0 Nothing)

unfoldable pub reported_output : (number : ℕ) → End → List ℕ → List ℕ
reported_output number e out = cond (leb number 5) (output_by (report (report_from number)) e out) out

-- ---- received frames

-- of an accepted frame: its header with the number of skipped TLVs, and the event number where the events are new, else 0
abbrev pub news_shown : News → Shown
news_shown Nothing = shows 0 []
news_shown (Frame h) = header_shown h 0
news_shown (Events h n) = header_shown h n

-- a header too short for its numbers is 9: the end stays, and so its State octet
unfoldable pub received_by : List ℕ → (room octets : ℕ) → End → Outcome
received_by frame room octets e = cond (ltb room header_numbers) (outcome e 9 0 Nothing) (outcome_by (receive frame) octets e)

unfoldable pub received_output : List ℕ → (room : ℕ) → End → List ℕ → List ℕ
received_output frame room e out = cond (ltb room header_numbers) out (output_by (receive frame) e out)

abbrev pub heard_in : (End → Outcome) → MaybeEnd → List ℕ → List ℕ
heard_in call (Refused n) header = header
heard_in call (Is e) header = sets header 0 (news_shown (call e).shown).numbers

-- the entry that receives: a call, and the header after it
pub record Receiving (call : End → Outcome) (output : End → List ℕ → List ℕ) (found : MaybeEnd) (header state out : List ℕ) (answer : ℕ) (header' state' out' : List ℕ) : Type 0 where
  pub steps : Stepping call output found state out answer state' out'
  pub hears : header' ≡ heard_in call found header

-- ---- what an end shows

-- its 27 numbers, where discovery stands, the digits of its intervals, and the fourteen numbers of its watch
unfoldable pub end_numbers : End → Watch → Shown
end_numbers e w = shows 0 (numbers_of e ++ ((standing_number (discovery_of e) ∷ e.meter.intervals ∷ []) ++ watch_shown w))

abbrev pub end_shown : MaybeEnd → Watch → ℕ → Shown
end_shown (Refused n) w room = shows n []
end_shown (Is e) w room = roomy 43 9 room (end_numbers e w)
