-- What every call ends with: the revision, what is owed, and what an Information frame is to say.
use Rattle.std.specs.Prelude.{ℕ, Bool, false, cond, not, ◌&&◌, ◌||◌, eqb, None, Some}
use Rattle.frame.specs.Flags.{flags_number}
use Rattle.frame_body.specs.declared.Found.{Found}
use Rattle.link_loopback.specs.Roles.{octet_of}
use Rattle.link_loopback.specs.declared.Role.{Role}
use Rattle.link_discovery.specs.declared.Discovery.{Discovery}
use Rattle.link_discovery.specs.Sending.{local_field, remote_field, fault_flag, allowed_in, own_information, cleared_record}
use Rattle.link_limit.specs.Limit.{has_room, charged_meter}
use Rattle.link_limit.specs.Owing.{revised, owes}
use Rattle.frame_writer.specs.declared.sender.Sender.{Sender}
use Rattle.link_end.specs.declared.Own.{Own}
use Rattle.link_end.specs.declared.End.{End}
use Rattle.link_end.specs.declared.sending.Before.{Before}
use Rattle.link_end.specs.Parts.{with_meter, with_own, with_revision, with_owed, discovery_of}

-- "FAULT with the link down if unidirectional (link fault flag, set only there, no TLV)"
unfoldable pub fault_flag_of : End → Bool
fault_flag_of e = fault_flag e.link.up e.settings.configuration

-- the flags to be sent, by where discovery stands and whether the link-fault flag is set
abbrev pub flags_at : Discovery → Bool → End → ℕ
flags_at standing fault e =
    flags_number
    (record {
      fault = fault;
      gasp = e.own.gasp;
      critical = e.own.critical;
      local = local_field standing;
      remote = remote_field e.peer.kept e.peer.held;
    })

unfoldable pub flags_to_send : End → ℕ
flags_to_send e = flags_at (discovery_of e) (fault_flag_of e) e

-- what of an end is compared after a call: its role, and its flags to be sent
abbrev pub before_of : End → Before
before_of e = record { role = e.role; flags = flags_to_send e }

-- who sends an end's frames, and with which flags
abbrev pub sender_of : End → Sender
sender_of e = record { source = e.settings.source; flags = flags_to_send e }

-- whether an Information frame is allowed
unfoldable pub allowed : End → Bool
allowed e = allowed_in (discovery_of e) (fault_flag_of e)

-- "Local TLV, and Remote if a peer record is held"; with the link down "no TLV"
unfoldable pub tlvs_to_send : End → Found
tlvs_to_send e =
    record {
      local = cond e.link.up (Some (own_information e.settings e.own.revision e.role)) None;
      remote = cond e.link.up (cleared_record e.peer.held) None;
    }

-- "The revision grows by one ... in each call that changes the State octet."
abbrev pub octet_changed : Role → Role → Bool
octet_changed before after = not (eqb (octet_of before) (octet_of after))

unfoldable pub changed : End → End → Bool
changed before e = octet_changed before.role e.role || not (eqb (flags_to_send before) (flags_to_send e))

-- what an end says of itself after a call, by whether an Information frame is allowed, whether the State octet has changed,
-- whether there is a change to tell, and whether one is due
abbrev pub own_in : Bool → Bool → Bool → Bool → Own → Own
own_in permits octet told due o = with_owed (owes permits o.owed due told) (with_revision (revised octet o.revision) o)

-- the revision, and what is owed, after a call that made e of `before`; `due`: a loopback command was obeyed, or a timer second closed
unfoldable pub dues : End → Bool → End → End
dues before due e = with_own (own_in (allowed e) (octet_changed before.role e.role) (changed before e) due e.own) e

-- how the code comes to it, by where discovery stands
abbrev pub flags_changed : End → Discovery → End → Bool
flags_changed before standing e = not (eqb (flags_to_send before) (flags_at standing (fault_flag_of e) e))

abbrev pub own_after : End → Bool → Discovery → End → Own
own_after before due standing e =
    let octet = octet_changed before.role e.role in
    own_in (allowed_in standing (fault_flag_of e)) octet (octet || flags_changed before standing e) due e.own

-- "the next tick, receive or report (the same call if it can) writes it while fewer than ten are written"
unfoldable pub sends : End → Bool
sends e = e.own.owed && has_room e.meter

abbrev pub paid : Own → Own
paid o = with_owed false o

-- the end after its Information frame is written
unfoldable pub sent : End → End
sent e = with_own (paid e.own) (with_meter (charged_meter e.meter) e)

-- the end after a call: its owed frame is written where it may be
abbrev pub after_sending : End → End
after_sending e = cond (sends e) (sent e) e
