use Rattle.std.proofs.Common.{◌≡◌, ◌+◌, ◌-◌, min, length, sym, ◌∙◌, arith}
use Rattle.text_captures.specs.Feeding.{ahead}
use Rattle.text_captures.proofs.Steps.{collects, passes}
use Rattle.text_captures.proofs.progress.Progress.collect.Goals as goal

pub returns-then-is_stopped : goal.returns-then-is_stopped
returns-then-is_stopped c = passes _ _ (sym c.is_stopped.ensures ∙ c.if-is_stopped.true) _ _ c.requires

pub returns : goal.returns
returns c = let a = c.args in
    let count : c.min-count.result ≡ min (ahead a.self.now) (length a.piece.now - a.at) = c.min-count.ensures ∙ rw c.ahead.ensures in
    let size : a.at + c.min-count.result - a.at ≡ c.min-count.result = omega arith in
    rw (c.put_octets.ensures, size) (collects _ _ _ _ (sym c.is_stopped.ensures ∙ c.if-is_stopped.false) _ count c.requires)
