-- What a report makes of an end.
use Rattle.std.specs.Prelude.{Bool, true, false, cond}
use Rattle.link_end.specs.declared.End.{End}
use Rattle.link_end.specs.declared.Report.{Report}
use Rattle.link_end.specs.declared.Report.TheVariants.{LinkUp, LinkDown, DyingGasp, CriticalEvent}
use Rattle.link_end.specs.Parts.{with_link, with_own, with_up, with_lost, with_gasp, with_critical, faulted}
use Rattle.link_end.specs.Sending.{dues}

-- "FAULT: entered on link down or on the lost-link count." "A link-up report after link down clears it too; a report that repeats
-- what already stands changes none of these."
unfoldable pub link_up : End → End
link_up e = cond e.link.up e (with_link (with_lost 0 (with_up true e.link)) e)

unfoldable pub link_down : End → End
link_down e = cond e.link.up (with_link (with_up false e.link) (faulted e)) e

-- "dying gasp or critical event set or cleared"
abbrev pub gasp_set : Bool → End → End
gasp_set on e = with_own (with_gasp on e.own) e

abbrev pub critical_set : Bool → End → End
critical_set on e = with_own (with_critical on e.own) e

abbrev pub reported : Report → End → End
reported LinkUp e = link_up e
reported LinkDown e = link_down e
reported (DyingGasp on) e = gasp_set on e
reported (CriticalEvent on) e = critical_set on e

unfoldable pub reported_due : Report → End → End
reported_due r e = dues e false (reported r e)
