-- What every end keeps to that calls have made of a fresh one. The calls themselves trust no end to do so; the crate
-- `theorems_reach` shows that each of them keeps it.
use Rattle.frame_body.specs.declared.Information.{Information}
use Rattle.std.specs.Prelude.{◌^◌, List, [], ◌∷◌, Bool, true, false, cond, not, ◌&&◌, ◌||◌, ltb, leb, eqb, Option, None, Some, ℕ}
use Rattle.octets.specs.Octets.{fit}
use Rattle.frame_body.specs.Information.{information_widths, information_values}
use Rattle.link_peer.specs.Ranges.{sound}
use Rattle.link_peer.specs.Peers.{is_held}
use Rattle.link_limit.specs.Limit.{is_bounded}
use Rattle.link_discovery.specs.Standing.{lost_count}
use Rattle.link_loopback.specs.Loopback.{role_fits}
use Rattle.link_loopback.specs.declared.Role.{Role}
use Rattle.link_loopback.specs.declared.Role.TheVariants.{Idle, Asking, Holding, Ending, Looping}
use Rattle.link_end.specs.declared.Peer.{Peer}
use Rattle.link_end.specs.declared.End.{End}
use Rattle.link_end.specs.declared.Link.{Link}
use Rattle.link_end.specs.declared.Own.{Own}
use Rattle.link_peer.specs.declared.Settings.{Settings}
use Rattle.link_limit.specs.declared.Meter.{Meter}
use Rattle.link_end.specs.Parts.{MaybeEnd, Refused, Is, in_any}
use Rattle.link_end.specs.Sending.{allowed}

abbrev pub all : List Bool → Bool
all [] = true
all (b ∷ bs) = b && all bs

-- a record's fields within their widths
unfoldable pub record_fits : Option Information → Bool
record_fits None = true
record_fits (Some i) = fit information_widths (information_values i)

unfoldable pub last_fits : Option ℕ → Bool
last_fits None = true
last_fits (Some n) = ltb n (2 ^ 16)

abbrev pub never : Option ℕ → Bool
never None = true
never (Some n) = false

abbrev pub idle : Role → Bool
idle Idle = true
idle Asking = false
idle Holding = false
idle Ending = false
idle Looping = false

-- "FAULT ... Clears peer record, kept peer field ... and last event number received."
unfoldable pub blank : Peer → Bool
blank p = eqb p.kept 0 && (not (is_held p.held) && never p.last)

-- a last event number is kept only beside a record: "only SEND_ANY keeps one", and FAULT clears both
abbrev pub besides : Peer → Bool
besides p = never p.last || is_held p.held

abbrev pub tests : End → List Bool
tests e =
    sound e.settings
    ∷ ltb e.settings.vendor (2 ^ 32)
    ∷ ltb e.link.lost lost_count
    ∷ leb e.peer.kept 2
    ∷ record_fits e.peer.held
    ∷ last_fits e.peer.last
    ∷ besides e.peer
    ∷ (e.link.up || blank e.peer)
    ∷ (idle e.role || in_any e)
    ∷ role_fits e.settings.configuration e.role
    ∷ is_bounded e.meter
    ∷ ltb e.own.revision (2 ^ 16)
    ∷ ltb e.own.number (2 ^ 16)
    ∷ (not e.own.owed || allowed e)
    ∷ []

unfoldable pub ranged : End → Bool
ranged e = all (tests e)

-- how the code comes to it: what is kept of the peer, by whether the link is up, and what depends on where discovery stands
unfoldable pub peer_ranged : Bool → Peer → Bool
peer_ranged up p = leb p.kept 2 && (record_fits p.held && (last_fits p.last && (besides p && (up || blank p))))

unfoldable pub rest_ranged : End → Bool
rest_ranged e =
    (idle e.role || in_any e)
    && (role_fits e.settings.configuration e.role && (is_bounded e.meter && (not e.own.owed || allowed e)))

abbrev pub end_with : Settings → Link → Peer → Role → Meter → Own → End
end_with settings link peer role meter own =
    record { settings = settings; link = link; peer = peer; role = role; meter = meter; own = own }

-- an end, or 10 where it does not keep to its ranges
unfoldable pub checked : End → MaybeEnd
checked e = cond (ranged e) (Is e) (Refused 10)
