-- The demand on two ends, sentence by sentence.
use Rattle.std.specs.Prelude.{ℕ, ◌+◌, ◌<◌, ◌≤◌, ◌≡◌, List, [], ◌∷◌, ◌++◌, Bool, true, false, cond}
use Rattle.frame.specs.Flags.{flags_of}
use Rattle.frame.specs.Frame.{Message, loopback, accepted, decode}
use Rattle.link_discovery.specs.declared.Discovery.TheVariants.{SendAny}
use Rattle.link_loopback.specs.declared.Role.TheVariants.{Looping}
use Rattle.link_end.specs.Parts.{discovery_of}
use Rattle.theorems_reach.specs.Machine.{Input, tick, report, receive, request}
use Rattle.theorems_reach.specs.Runs.{is_tick}
use Rattle.theorems_reach.specs.Intervals.{Entry, frames_back, frames_from}
use Rattle.theorems_pair.specs.Lists.{Some, All}
use Rattle.theorems_pair.specs.System.{Side, other, same, Moment, World}

-- ---- what a frame says

-- "an enable"
pub record Enable (f : List ℕ) : Type 0 where
  pub message : Message
  pub reads : decode f ≡ accepted message
  pub enables : message.body ≡ loopback 1

-- the side sent "a frame saying its discovery was complete"
pub record Complete (s : Side) (m : Moment) : Type 0 where
  pub side : m.side ≡ s
  pub message : Message
  pub reads : decode m.wrote ≡ accepted message
  pub complete : (flags_of message.flags).local ≡ 2

-- the side sent the frame "as an active end, itself then in SEND_ANY"
pub record SentAsActive (s : Side) (f : List ℕ) (m : Moment) : Type 0 where
  pub side : m.side ≡ s
  pub wrote : m.wrote ≡ f
  pub active : m.active ≡ true
  pub any : m.discovery ≡ SendAny

-- ---- what the past says of a side

-- a call of the side left it in SEND_ANY; calls of the other side do not matter
abbrev pub Stays : Side → Moment → Type 0
Stays s m = m.side ≡ s → m.discovery ≡ SendAny

-- "in its present stay there (the call that began it included) it received an enable which the other end sent as an active end,
-- itself then in SEND_ANY; each end has earlier sent a frame saying its discovery was complete": earlier than the call that
-- took the enable
pub record Enabled (s : Side) (past : List Moment) : Type 0 where
  pub newer : List Moment
  pub moment : Moment
  pub older : List Moment
  pub split : past ≡ newer ++ (moment ∷ older)
  pub stays : All (Stays s) newer
  pub side : moment.side ≡ s
  pub stands : moment.discovery ≡ SendAny
  pub frame : List ℕ
  pub received : moment.input ≡ receive frame
  pub enable : Enable frame
  pub sent : Some (SentAsActive (other s) frame) older
  pub complete : (t : Side) → Some (Complete t) older

-- "accepted ticks ... since it accepted a frame"
abbrev pub quiet_after : Input → ℕ → ℕ
quiet_after tick n = n + 1
quiet_after (report r) n = n
quiet_after (receive f) n = 0
quiet_after (request q) n = n

abbrev pub quiet : Side → List Moment → ℕ
quiet s [] = 0
quiet s (m ∷ past) = cond (same s m.side) (quiet_after m.input (quiet s past)) (quiet s past)

-- a frame was written where there are octets of one
abbrev pub some_octets : List ℕ → Bool
some_octets [] = false
some_octets (x ∷ f) = true

-- the side's accepted calls: which of them were ticks, and which wrote a frame
abbrev pub history_of : Side → List Moment → List Entry
history_of s [] = []
history_of s (m ∷ past) =
    cond (same s m.side) (record { tick = is_tick m.input; frame = some_octets m.wrote } ∷ history_of s past) (history_of s past)

-- the frames that the side wrote "in the present and ten preceding intervals"
abbrev pub in_stretch : Side → List Moment → ℕ
in_stretch s past = frames_back 10 (history_of s past)

-- ---- the demand

-- "an end in loopback stands in SEND_ANY; in its present stay there ... it received an enable ...; and fewer than fifty
-- accepted ticks have passed at the looping end since it accepted a frame"
pub record Loops (s : Side) (w : World) : Type 0 where
  pub any : discovery_of (w.ends s) ≡ SendAny
  pub enabled : Enabled s w.past
  pub recent : quiet s w.past < 50

-- "At every moment": of each side in loopback so much holds; and no side wrote more than "ten frames over any eleven successive"
-- intervals, whichever of its intervals is the first of them
pub record Safe (w : World) : Type 0 where
  pub loops : (s : Side) → (w.ends s).role ≡ Looping → Loops s w
  pub limit : (s : Side) (first : ℕ) → frames_from first (history_of s w.past) ≤ 10
