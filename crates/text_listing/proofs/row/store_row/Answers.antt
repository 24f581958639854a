use Rattle.text.proofs.Puts.{fitting, room_after, joined}
use Rattle.text_listing.specs.Rows.{row_of}
use Rattle.text_listing.proofs.row.store_row.Goals as goal

pub store_accepted-requires : goal.store_accepted-requires
unfolding row_of
store_accepted-requires c = let number = c.put_decimal-after_number in
    room_after _ (fitting _ _ _ number.ensures) (rw c.in-Accepted.is at c.requires)

pub store_refused-requires : goal.store_refused-requires
unfolding row_of
store_refused-requires c = let number = c.put_decimal-after_number in
    room_after _ (fitting _ _ _ number.ensures) (rw c.in-Refused.is at c.requires)

pub returns-in-Accepted : goal.returns-in-Accepted
unfolding row_of
returns-in-Accepted c = let number = c.put_decimal-after_number in
    joined (fitting _ _ _ number.ensures) (λ _. rw c.in-Accepted.is c.store_accepted.ensures)
    c.requires

pub returns-in-Refused : goal.returns-in-Refused
unfolding row_of
returns-in-Refused c = let number = c.put_decimal-after_number in
    joined (fitting _ _ _ number.ensures) (λ _. rw c.in-Refused.is c.store_refused.ensures)
    c.requires
