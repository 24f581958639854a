use Rattle.std.proofs.Common.{◌-◌, length}
use Rattle.text_listing.proofs.Standing.{Stands}
use Rattle.text_listing.proofs.feeding.Progress.feed.Given as goal

abbrev pub invariant-loop-taken : goal.invariant-loop-taken
invariant-loop-taken l = Stands l.fn.frame l.piece l.fn.out l.fn.self l.fn.place.taken l.fn.place.waiting l.frame l.out l.self.number l.self.line l.taken l.waiting

abbrev pub decreases-loop-taken : goal.decreases-loop-taken
decreases-loop-taken l = length l.piece - l.taken
