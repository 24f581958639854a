use Rattle.text.proofs.Puts.{fitting, joined}
use Rattle.text_listing.specs.Rows.{columns}
use Rattle.text_listing.proofs.row.store_refused.Goals as goal

pub returns : goal.returns
unfolding columns
returns c = let dashes = c.put_words-after_dashes in
    let answer = c.put_decimal-after_answer in
    let dash = c.put_words in
    joined (joined (fitting _ _ _ dashes.ensures) (fitting _ _ _ answer.ensures)) (fitting _ _ _ dash.ensures) c.requires
