use Rattle.frame_tlvs.proofs.Rows.{fifth_lies, event_read}
use Rattle.frame_tlvs.proofs.notifications.event_of_type.Goals as goal

pub number-requires-5 : goal.number-requires-5
number-requires-5 g c = fifth_lies c.args.at _ g.row.T c.requires.0 c.requires.1 c.requires.2

pub returns : goal.returns
returns g c =
    let a = c.args in
    event_read a.body.now a.at g.row.T _ _ _ _ _ _ c.requires.0 c.requires.1
    (c.number.ensures, c.number-2.ensures, c.number-3.ensures, c.number-4.ensures, c.number-5.ensures, c.number-event_total.ensures)
