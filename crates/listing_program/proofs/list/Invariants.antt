use Rattle.listing_program.proofs.Turning.{Turned}
use Rattle.listing_program.proofs.list.Given as goal

abbrev pub invariant-loop : goal.invariant-loop
invariant-loop g l = Turned g.L.Lister.steps g.L.Lister.most g.met.L.Lister.within l.fn.lister (g.R.Read.remaining l.fn.input) (g.W.Write.contents l.fn.output)
    l.counter (g.R.Read.remaining l.input) (g.W.Write.contents l.output) l.lister l.frame l.piece l.rows l.size l.taken l.waiting
