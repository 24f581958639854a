-- Discovery of an end as the paper tells it: from where it stood, or from FAULT, by the listed moves (`Moves` of
-- `link_discovery`) until none applies.
use Rattle.std.specs.Prelude.{Bool, false, cond, ◌&&◌, eqb}
use Rattle.octets.specs.Bits.{bit}
use Rattle.link_peer.specs.Peers.{is_held, satisfied}
use Rattle.link_discovery.specs.declared.Discovery.{Discovery}
use Rattle.link_discovery.specs.declared.Discovery.TheVariants.{Fault}
use Rattle.link_discovery.specs.Standing.{is_lost}
use Rattle.link_discovery.specs.Moves.{Settles}
use Rattle.link_end.specs.declared.End.{End}
use Rattle.link_end.specs.declared.Report.TheVariants.{LinkUp, LinkDown, DyingGasp, CriticalEvent}
use Rattle.link_end.specs.Parts.{discovery_of}
use Rattle.theorems_reach.specs.Machine.{Input, tick, report, receive, request, Call, outcome_of}

-- "Moves run until none applies": those that an end's link, mode, record and kept field allow
abbrev pub SettlesIn : End → Discovery → Discovery → Type 0
SettlesIn e from to =
    Settles e.link.up (bit 0 e.settings.configuration) (is_held e.peer.held) (satisfied e.settings e.peer.held) (eqb e.peer.kept 2) from to

-- "FAULT: entered on link down or on the lost-link count.": by a tick or a report that finds the link up
abbrev pub enters_by : Input → End → Bool
enters_by tick e = e.link.up && is_lost e.link.lost
enters_by (report LinkUp) e = false
enters_by (report LinkDown) e = e.link.up
enters_by (report (DyingGasp on)) e = false
enters_by (report (CriticalEvent on)) e = false
enters_by (receive f) e = false
enters_by (request q) e = false

-- an accepted call enters FAULT
abbrev pub enters_fault : Call → End → Bool
enters_fault c e = eqb (outcome_of c e).answer 0 && enters_by c.input e

-- where the moves of a call begin
abbrev pub moves_from : Call → End → Discovery
moves_from c e = cond (enters_fault c e) Fault (discovery_of e)
