-- The history of counts, and what it says by itself: "The totals must equal sums over the whole history of counts, not over what was
-- sent." A history is the counts of bad frames of the accepted ticks since fresh, the oldest first; nothing here knows of a window
-- that is kept.
use Rattle.std.specs.Prelude.{ℕ, zero, suc, ◌+◌, ◌-◌, ◌*◌, ◌/◌, ◌%◌, ◌^◌, min, List, [], ◌∷◌, ◌++◌, Bool, cond, not, ◌&&◌, leb, eqb, length, take, drop, Option, None, Some}
use Rattle.octets.specs.Bits.{bit_of}
use Rattle.frame_tlvs.specs.Events.{event_of}
use Rattle.frame_tlvs.specs.declared.Event.{Event}
use Rattle.link_limit.specs.Limit.{second_ticks}

abbrev pub sum_of : List ℕ → ℕ
sum_of [] = 0
sum_of (x ∷ xs) = x + sum_of xs

-- ---- "Windows follow each other without a gap."

-- the first k windows of some length
abbrev pub windows_from : (k length : ℕ) → List ℕ → List (List ℕ)
windows_from zero length xs = []
windows_from (suc k) length xs = take length xs ∷ windows_from k length (drop length xs)

-- the whole windows; what is left over is dropped
unfoldable pub windows_of : ℕ → List ℕ → List (List ℕ)
windows_of n xs = windows_from (length xs / n) n xs

-- and what is left over, which is the present window so far
unfoldable pub present_of : ℕ → List ℕ → List ℕ
present_of n xs = drop (length xs / n * n) xs

-- "errors reach or exceed the threshold"
abbrev pub reaches : ℕ → List ℕ → Bool
reaches threshold window = leb threshold (sum_of window)

-- how many windows do
abbrev pub count_of : ℕ → List (List ℕ) → ℕ
count_of threshold [] = 0
count_of threshold (w ∷ ws) = bit_of (reaches threshold w) + count_of threshold ws

unfoldable pub reached_in : (length threshold : ℕ) → List ℕ → ℕ
reached_in length threshold xs = count_of threshold (windows_of length xs)

-- ---- "Seconds run from fresh, and one with a bad frame is errored."

abbrev pub errored : List ℕ → Bool
errored second = not (eqb (sum_of second) 0)

-- 1 for each second that is errored, 0 for each that is not
abbrev pub errored_of : List (List ℕ) → List ℕ
errored_of [] = []
errored_of (s ∷ ss) = bit_of (errored s) ∷ errored_of ss

unfoldable pub seconds_of : List ℕ → List ℕ
seconds_of h = errored_of (windows_of second_ticks h)

-- ---- what arises at the last tick of a history

-- the last ones
abbrev pub last_of : ℕ → List ℕ → List ℕ
last_of n xs = drop (length xs - n) xs

-- a window of some ticks ends with this tick
abbrev pub ends_at : ℕ → List ℕ → Bool
ends_at window h = eqb (length h % window) 0

-- "as timestamp the ticks since fresh modulo 65,536"
abbrev pub stamp_of : List ℕ → ℕ
stamp_of h = length h % 65536

-- "errors too many for theirs show its largest value"; the totals "wrap at their field's width"
unfoldable pub frames_arisen : (window threshold : ℕ) → List ℕ → Option Event
frames_arisen window threshold h =
    cond (ends_at window h && reaches threshold (last_of window h))
    (Some
    (event_of 2
    (stamp_of h
    ∷ window
    ∷ threshold
    ∷ min (2 ^ 32 - 1) (sum_of (last_of window h))
    ∷ sum_of h % 2 ^ 64
    ∷ reached_in window threshold h % 2 ^ 32
    ∷ [])))
    None

-- the same over the seconds of the history; a window has a tenth as many seconds as ticks
unfoldable pub seconds_arisen : (window threshold : ℕ) → List ℕ → Option Event
seconds_arisen window threshold h =
    cond (ends_at window h && reaches threshold (last_of (window / second_ticks) (seconds_of h)))
    (Some
    (event_of 4
    (stamp_of h
    ∷ window
    ∷ threshold
    ∷ sum_of (last_of (window / second_ticks) (seconds_of h))
    ∷ sum_of (seconds_of h) % 2 ^ 32
    ∷ reached_in (window / second_ticks) threshold (seconds_of h) % 2 ^ 32
    ∷ [])))
    None

-- ---- the events of a tick, errored frames first

abbrev pub event_in : Option Event → List Event
event_in None = []
event_in (Some e) = e ∷ []

abbrev pub events_in : (frames seconds : Option Event) → List Event
events_in frames seconds = event_in frames ++ event_in seconds
