-- What it takes of an end to loop, whoever is at the other end of its link.
use Rattle.std.specs.Prelude.{ℕ, ◌<◌, ◌≡◌, List, ◌∷◌, true, ◌⊎◌}
use Rattle.frame.specs.Frame.{Message, loopback, accepted, decode}
use Rattle.octets.specs.Bits.{bit}
use Rattle.link_peer.specs.Peers.{peer_active}
use Rattle.link_peer.specs.declared.Settings.{Settings}
use Rattle.link_loopback.specs.declared.Role.TheVariants.{Idle, Asking}
use Rattle.link_discovery.specs.declared.Discovery.TheVariants.{SendAny}
use Rattle.link_end.specs.declared.End.{End}
use Rattle.link_end.specs.Parts.{discovery_of}
use Rattle.theorems_reach.specs.Machine.{receive, Call, outcome_of}
use Rattle.theorems_reach.specs.Runs.{after}

-- the call received an enable that an end obeys which does not loop yet
pub record Ordered (c : Call) (e : End) : Type 0 where
  pub frame : List ℕ
  pub message : Message
  pub received : c.input ≡ receive frame
  pub reads : decode frame ≡ accepted message
  pub enables : message.body ≡ loopback 1
  -- "Enable, own bit 2 set and peer active": by the record that is then held
  pub own : bit 2 e.settings.configuration ≡ true
  pub peer : peer_active (outcome_of c e).end.peer.held ≡ true
  -- "Idle or Looping becomes Looping; Asking becomes Looping if its own address is the higher one (first octet
  -- first), else nothing."
  pub role : (e.role ≡ Idle) ⊎ ((e.role ≡ Asking) × (message.source < e.settings.source))
  -- "then the body's action, only in SEND_ANY"
  pub any : discovery_of (outcome_of c e).end ≡ SendAny

-- calls, the latest first, the last of which was such a one, or left the end in SEND_ANY after others that had one
pub data OrderedIn (s : Settings) : List Call → Type 0 where
  now : {c : Call} {cs : List Call} → Ordered c (after s cs) → OrderedIn s (c ∷ cs)
  since : {c : Call} {cs : List Call} → discovery_of (after s (c ∷ cs)) ≡ SendAny → OrderedIn s cs → OrderedIn s (c ∷ cs)
