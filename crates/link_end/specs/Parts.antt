-- The parts of an end, one part or one field of a part put anew, and where discovery stands.
use Rattle.frame_body.specs.declared.Information.{Information}
use Rattle.std.specs.Prelude.{ℕ, Bool, false, cond, eqb, Option, None, Result, Ok, Err}
use Rattle.octets.specs.declared.refusal.Refusal.{Refusal}
use Rattle.octets.specs.Refusals.{number}
use Rattle.link_peer.specs.declared.Settings.{Settings}
use Rattle.link_discovery.specs.declared.Discovery.{Discovery}
use Rattle.link_loopback.specs.declared.Role.{Role}
use Rattle.link_loopback.specs.declared.Role.TheVariants.{Idle}
use Rattle.link_limit.specs.declared.Meter.{Meter}
use Rattle.octets.specs.Bits.{bit}
use Rattle.link_peer.specs.Ranges.{sound}
use Rattle.link_peer.specs.Peers.{is_held, satisfied}
use Rattle.link_discovery.specs.Standing.{stands_at, is_any, role_in}
use Rattle.link_limit.specs.Limit.{new_meter}
use Rattle.link_end.specs.declared.Link.{Link}
use Rattle.link_end.specs.declared.Peer.{Peer}
use Rattle.link_end.specs.declared.Own.{Own}
use Rattle.link_end.specs.declared.End.{End}

-- ---- one part of an end put anew

abbrev pub with_link : Link → End → End
with_link l e = record { settings = e.settings; link = l; peer = e.peer; role = e.role; meter = e.meter; own = e.own }

abbrev pub with_peer : Peer → End → End
with_peer p e = record { settings = e.settings; link = e.link; peer = p; role = e.role; meter = e.meter; own = e.own }

abbrev pub with_role : Role → End → End
with_role r e = record { settings = e.settings; link = e.link; peer = e.peer; role = r; meter = e.meter; own = e.own }

abbrev pub with_meter : Meter → End → End
with_meter m e = record { settings = e.settings; link = e.link; peer = e.peer; role = e.role; meter = m; own = e.own }

abbrev pub with_own : Own → End → End
with_own o e = record { settings = e.settings; link = e.link; peer = e.peer; role = e.role; meter = e.meter; own = o }

-- ---- one field of a part put anew

abbrev pub with_up : Bool → Link → Link
with_up up l = record { up = up; lost = l.lost }

abbrev pub with_lost : ℕ → Link → Link
with_lost lost l = record { up = l.up; lost = lost }

abbrev pub with_kept : ℕ → Peer → Peer
with_kept kept p = record { kept = kept; held = p.held; last = p.last }

abbrev pub with_held : Option Information → Peer → Peer
with_held held p = record { kept = p.kept; held = held; last = p.last }

abbrev pub with_last : Option ℕ → Peer → Peer
with_last last p = record { kept = p.kept; held = p.held; last = last }

abbrev pub with_revision : ℕ → Own → Own
with_revision revision o =
    record { revision = revision; number = o.number; gasp = o.gasp; critical = o.critical; owed = o.owed }

abbrev pub with_number : ℕ → Own → Own
with_number number o =
    record { revision = o.revision; number = number; gasp = o.gasp; critical = o.critical; owed = o.owed }

abbrev pub with_gasp : Bool → Own → Own
with_gasp gasp o =
    record { revision = o.revision; number = o.number; gasp = gasp; critical = o.critical; owed = o.owed }

abbrev pub with_critical : Bool → Own → Own
with_critical critical o =
    record { revision = o.revision; number = o.number; gasp = o.gasp; critical = critical; owed = o.owed }

abbrev pub with_owed : Bool → Own → Own
with_owed owed o =
    record { revision = o.revision; number = o.number; gasp = o.gasp; critical = o.critical; owed = owed }

-- ---- a fresh end, where discovery stands, and FAULT

abbrev pub no_peer : Peer
no_peer = record { kept = 0; held = None; last = None }

-- "Fresh: link down, FAULT, role Idle, all counts, fields, revision and next event number 0, no critical flag, no peer record."
unfoldable pub fresh_end : Settings → End
fresh_end s =
    record {
      settings = s;
      link = record { up = false; lost = 0 };
      peer = no_peer;
      role = Idle;
      meter = new_meter;
      own = record { revision = 0; number = 0; gasp = false; critical = false; owed = false };
    }

-- an end made of settings or of parts, or the number of their refusal; and the code's answer as it
pub data MaybeEnd : Type 0 where
  Refused : ℕ → MaybeEnd
  Is : End → MaybeEnd

abbrev pub as_end : Result End Refusal → MaybeEnd
as_end (Ok e) = Is e
as_end (Err r) = Refused (number r)

-- "settings or request values out of range" is 10; "refused settings yield no end"
unfoldable pub fresh_of : Settings → MaybeEnd
fresh_of s = cond (sound s) (Is (fresh_end s)) (Refused 10)

-- Discovery is not kept: it stands where the moves come to rest, by the link, the mode, the record and the kept field.
unfoldable pub discovery_of : End → Discovery
discovery_of e =
    stands_at e.link.up (bit 0 e.settings.configuration) (is_held e.peer.held) (satisfied e.settings e.peer.held) (eqb e.peer.kept 2)

unfoldable pub in_any : End → Bool
in_any e = is_any (discovery_of e)

-- "FAULT: ... Clears peer record, kept peer field, role and last event number received."
unfoldable pub faulted : End → End
faulted e = with_role Idle (with_peer no_peer e)

-- after the moves: "Leaving SEND_ANY makes the role Idle (HOUSE)."
abbrev pub settled_in : Discovery → End → End
settled_in standing e = with_role (role_in standing e.role) e

unfoldable pub settled : End → End
settled e = settled_in (discovery_of e) e
