use Rattle.std.proofs.Common.{◌-◌, length}
use Rattle.text_captures.proofs.Steps.{Stands}
use Rattle.text_captures.proofs.progress.Progress.feed.Given as goal

abbrev pub invariant-loop-taken : goal.invariant-loop-taken
invariant-loop-taken l = Stands l.fn.self l.fn.place l.fn.frame l.piece l.fn.out l.self l.taken l.waiting l.frame l.out

abbrev pub decreases-loop-taken : goal.decreases-loop-taken
decreases-loop-taken l = length l.piece - l.taken
