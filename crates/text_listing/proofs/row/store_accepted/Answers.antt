use Rattle.text.proofs.Puts.{fitting, joined}
use Rattle.text_listing.specs.Rows.{columns}
use Rattle.text_listing.proofs.row.store_accepted.Goals as goal

pub returns : goal.returns
unfolding columns
returns c = let code = c.put_decimal-after_code in
    let flags = c.put_decimal-after_flags in
    let answer = c.put_decimal-after_answer in
    let skipped = c.put_decimal in
    joined (joined (joined (fitting _ _ _ code.ensures) (fitting _ _ _ flags.ensures)) (fitting _ _ _ answer.ensures)) (fitting _ _ _ skipped.ensures)
    c.requires
