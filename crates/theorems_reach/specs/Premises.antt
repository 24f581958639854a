-- What the theorems presuppose: settings that the paper takes (any others yield no end), received frames that are of octets, as
-- every slice of them is, and requests that come to the test of the limit.
use Rattle.std.specs.Prelude.{◌^◌, ◌<◌, ◌≡◌, List, [], ◌∷◌, true, not, ◌||◌}
use Rattle.octets.specs.Octets.{Octets}
use Rattle.link_limit.specs.Tests.{fits_both}
use Rattle.link_peer.specs.Peers.{peer_maximum}
use Rattle.link_peer.specs.Ranges.{sound}
use Rattle.link_peer.specs.declared.Settings.{Settings}
use Rattle.link_end.specs.declared.End.{End}
use Rattle.link_end.specs.Parts.{in_any}
use Rattle.link.specs.Requests.{octets_asked}
use Rattle.theorems_reach.specs.Machine.{Request, Input, tick, report, receive, request, Call, asked_of}

-- settings that the paper takes, whose vendor fits its four octets
pub record Accepted (s : Settings) : Type 0 where
  pub sound : sound s ≡ true
  pub vendor : s.vendor < 2 ^ 32

-- frames are of octets
abbrev pub OfOctets : Input → Type 0
OfOctets tick = Unit {0}
OfOctets (report r) = Unit {0}
OfOctets (receive f) = Octets f
OfOctets (request q) = Unit {0}

-- every frame of a list of calls is of octets
abbrev pub AllOfOctets : List Call → Type 0
AllOfOctets [] = Unit {0}
AllOfOctets (c ∷ cs) = OfOctets c.input × AllOfOctets cs

-- a request that is not refused with 10, 11, 15 or 12
pub record Admitted (q : Request) (e : End) : Type 0 where
  pub formed : 0 < octets_asked (asked_of q e)
  pub any : in_any e ≡ true
  pub permitted : (asked_of q e).permitted ≡ true
  pub fits : (not (asked_of q e).measured || fits_both (octets_asked (asked_of q e)) e.settings.size (peer_maximum e.peer.held)) ≡ true
