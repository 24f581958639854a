-- What a tick makes of an end.
use Rattle.std.specs.Prelude.{◌+◌, Bool, false, cond, ◌||◌}
use Rattle.link_discovery.specs.Standing.{is_lost}
use Rattle.link_discovery.specs.Sending.{allowed_in}
use Rattle.link_limit.specs.Limit.{closes, turned_meter}
use Rattle.link_discovery.specs.declared.Discovery.{Discovery}
use Rattle.link_end.specs.declared.Own.{Own}
use Rattle.link_end.specs.declared.End.{End}
use Rattle.link_end.specs.Parts.{with_link, with_meter, with_lost, faulted, settled_in, settled}
use Rattle.link_end.specs.Sending.{fault_flag_of, octet_changed, flags_changed, own_in, dues}

-- "A tick with the link up adds 1 to the lost-link count; 50 enters FAULT and clears it."
unfoldable pub missed : End → End
missed e =
    cond e.link.up
    (cond (is_lost e.link.lost)
    (with_link (with_lost 0 e.link) (faulted e))
    (with_link (with_lost (e.link.lost + 1) e.link) e))
    e

-- "After the count and the moves" a tick opens an interval, "link down or up"
unfoldable pub ticked : End → End
ticked e = with_meter (turned_meter e.meter) (settled (missed e))

-- "every tenth tick from fresh (link down or up) closes a timer second ... then an Information frame if allowed", which "settles any
-- owed one" and "waits, owed, until the limit allows it"
unfoldable pub ticked_due : End → End
ticked_due e = dues e (closes e.meter) (ticked e)

-- whether the link is lost by this tick: only then the flags to be sent can have changed
unfoldable pub losing : End → Bool
losing e = cond e.link.up (is_lost e.link.lost) false

-- how a tick can be come to with discovery taken once (`ticked_due_lem`, proofs/DuesLaws)
abbrev pub ticked_in : Discovery → End → End
ticked_in standing e = with_meter (turned_meter e.meter) (settled_in standing e)

-- the flags can have changed only where the link is lost
abbrev pub own_ticked : End → Discovery → End → Own
own_ticked before standing e =
    let octet = octet_changed before.role e.role in
    own_in (allowed_in standing (fault_flag_of e)) octet (cond (losing before) (octet || flags_changed before standing e) octet) (closes before.meter) e.own
