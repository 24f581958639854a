use Rattle.std.proofs.Common.{◌≡◌, ◌*◌, ◌≤◌, take, drop}
use Rattle.frame_variables.specs.Answers.{place_from}
use Rattle.frame_variables.proofs.answers.place_of.Given as goal

abbrev pub invariant-loop-held : goal.invariant-loop-held
invariant-loop-held l =
    (l.at ≤ l.held-index * 4294967295)
    × (place_from l.at (drop (2 * l.held-index) (take l.most l.attributes)) l.descriptor ≡ place_from 0 (take l.most l.attributes) l.descriptor)
