-- The tick with its count: "Take the count of bad frames at each tick".
use Rattle.std.specs.Prelude.{ℕ, cond, eqb, None, Result, Ok, Err}
use Rattle.octets.specs.declared.refusal.Refusal.{Refusal}
use Rattle.link_end.specs.declared.End.{End}
use Rattle.link.specs.Outcomes.{Outcome, told}
use Rattle.link.specs.Ticks.{tick_of}
use Rattle.link_windows.specs.Watches.{Counted, taken_count, told_count}
use Rattle.link_windows.specs.declared.Watch.{Watch}
use Rattle.link_counting.specs.declared.Ticked.{Ticked}

-- what such a tick comes to: the end's outcome, the watch after it, and what arose
pub record CountedTick : Type 0 where
  pub outcome : Outcome
  pub counted : Counted

-- no count is taken: the watch stays, and nothing arises
abbrev pub uncounted : Watch → Counted
uncounted w = record { watch = w; frames = None; seconds = None }

-- a tick of an end and its watch, for an output of some octets: a refused one takes no count
unfoldable pub counted_tick : ℕ → End → Watch → ℕ → CountedTick
counted_tick octets e w count =
    record { outcome = tick_of octets e; counted = cond (eqb (tick_of octets e).answer 0) (taken_count w count) (uncounted w) }

-- the same by the end and the watch after the tick and its answer
abbrev pub told_tick : End → Watch → Result Ticked Refusal → CountedTick
told_tick e w (Ok t) = record { outcome = told e (Ok t.step); counted = told_count w t.arisen }
told_tick e w (Err r) = record { outcome = told e (Err r); counted = uncounted w }
