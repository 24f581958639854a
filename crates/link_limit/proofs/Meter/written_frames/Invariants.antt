use Rattle.std.proofs.Common.{◌≡◌, ◌+◌, ◌-◌, ◌*◌, ◌≤◌}
use Rattle.link_limit.specs.Limit.{stretch_intervals, frames_of_newest}
use Rattle.link_limit.proofs.Meter.written_frames.Given as goal

abbrev pub invariant-loop : goal.invariant-loop
invariant-loop l = (l.sum + frames_of_newest (stretch_intervals - l.counter) l.left ≡ frames_of_newest stretch_intervals l.initial.left) × (l.sum ≤ 15 * l.counter)
