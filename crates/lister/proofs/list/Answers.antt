use Rattle.std.proofs.Common.{ℕ, replicate, arith}
use Rattle.std.proofs.lemmas.List.{length-replicate}
use Rattle.text_listing.specs.Feeding.{begun, lister}
use Rattle.text_listing.specs.Listing.{listing}
use Rattle.listing_program.specs.Listed.{listed}
use Rattle.listing_program.proofs.Turning.{on_ok, in_words}
use Rattle.theorems_listing.proofs.Listings.{all_listed}
use Rattle.lister.proofs.list.Goals as goal

pub returns : goal.returns
returns g c = let e = c.start.ensures in
    on_ok c.list.result (rw e at c.list.ensures)
    (in_words (g.R.Read.remaining c.args.input.now) (g.W.Write.contents c.args.output.now) (g.W.Write.contents c.list.new.output) 54 (listed lister begun) listing
    (λ xs. all_listed (replicate 1514 0) xs (omega (arith, length-replicate {A = ℕ} 1514 0))) (omega arith))
