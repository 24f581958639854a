-- The lost-link count: a tick with the link up adds 1 to it and leaves what is kept of the peer, up to 49; the tick that would
-- make it 50 clears both, and the role.
use Prim.Native.Nat.{ℕ, ◌+◌, ◌<◌, ◌≤◌}
use mathlib.Core.Path.{◌≡◌, refl, ap, ◌∙◌}
use mathlib.Core.Bool.{true, cond}
use borrow.Author.Tests.{le-ltb, le-leb, lt-leb}
use lib.Dec.{eqb}
use Rattle.octets.proofs.Bools.{by_cond}
use Rattle.octets.specs.Bits.{bit}
use Rattle.link_peer.specs.Peers.{is_held, satisfied}
use Rattle.link_discovery.specs.Standing.{stands_at, role_in}
use Rattle.link_peer.specs.declared.Settings.{Settings}
use Rattle.link_discovery.specs.declared.Discovery.{Discovery}
use Rattle.link_discovery.specs.declared.Discovery.TheVariants.{Fault, ActiveSendLocal, PassiveWait, SendLocalRemote, SendLocalRemoteOk, SendAny}
use Rattle.link_loopback.specs.declared.Role.TheVariants.{Idle}
use Rattle.link_end.specs.declared.Link.{Link}
use Rattle.link_end.specs.declared.Peer.{Peer}
use Rattle.link_end.specs.declared.End.{End}
use Rattle.link_end.specs.Parts.{no_peer, discovery_of, faulted, settled}
use Rattle.link_end.specs.Sending.{dues, sends, sent}
use Rattle.link.specs.Outcomes.{Outcome, concluded}
use Rattle.link_end.specs.Ticking.{missed, ticked, ticked_due}
use Rattle.link.specs.Ticks.{tick_of}

-- what discovery stands on: the settings, the link, and what is kept of the peer
pub record Footing : Type 0 where
  pub settings : Settings
  pub link : Link
  pub peer : Peer

abbrev pub footing_of : End → Footing
footing_of e = record { settings = e.settings; link = e.link; peer = e.peer }

abbrev pub standing : Footing → Discovery
standing f =
    stands_at f.link.up (bit 0 f.settings.configuration) (is_held f.peer.held) (satisfied f.settings f.peer.held) (eqb f.peer.kept 2)

pub stands_on : (e : End) → discovery_of e ≡ standing (footing_of e)
unfolding discovery_of
stands_on e = refl

-- a role that is Idle stays so through the moves
role_rests : (d : Discovery) → role_in d Idle ≡ Idle
role_rests Fault = refl
role_rests ActiveSendLocal = refl
role_rests PassiveWait = refl
role_rests SendLocalRemote = refl
role_rests SendLocalRemoteOk = refl
role_rests SendAny = refl

pub rests : (e : End) → e.role ≡ Idle → (settled e).role ≡ Idle
unfolding settled
rests e h = ap (role_in (discovery_of e)) h ∙ role_rests (discovery_of e)

-- an accepted tick leaves it as the count does
ticked_footing : (octets : ℕ) (e : End) → 60 ≤ octets → footing_of (tick_of octets e).end ≡ footing_of (missed e)
unfolding tick_of ticked_due ticked settled concluded sent dues
ticked_footing octets e h =
    rw (le-ltb octets 60 h)
    (by_cond (λ (o : Outcome). footing_of o.end ≡ footing_of (missed e)) (sends (ticked_due e)) (λ _. refl) (λ _. refl))

module _ (octets : ℕ) (e : End) (long : 60 ≤ octets) (up : e.link.up ≡ true) where
  -- "A tick with the link up adds 1 to the lost-link count"
  pub counts_lost : e.link.lost < 49
      → footing_of (tick_of octets e).end ≡ record { settings = e.settings; link = record { up = true; lost = e.link.lost + 1 }; peer = e.peer }
  unfolding missed
  counts_lost h = ticked_footing octets e long ∙ rw (up, lt-leb 49 e.link.lost h)

  -- "50 enters FAULT and clears it": "Clears peer record, kept peer field, ... and last event number received."
  pub loses_link : 49 ≤ e.link.lost
      → footing_of (tick_of octets e).end ≡ record { settings = e.settings; link = record { up = true; lost = 0 }; peer = no_peer }
  unfolding missed faulted
  loses_link h = ticked_footing octets e long ∙ rw (up, le-leb 49 e.link.lost h)

  -- "With the link up it goes at once to ACTIVE_SEND_LOCAL (active) or PASSIVE_WAIT."
  pub loses_discovery : 49 ≤ e.link.lost → discovery_of (tick_of octets e).end ≡ cond (bit 0 e.settings.configuration) ActiveSendLocal PassiveWait
  loses_discovery h = stands_on (tick_of octets e).end ∙ ap standing (loses_link h)

  -- and the role
  pub loses_role : 49 ≤ e.link.lost → (tick_of octets e).end.role ≡ Idle
  unfolding tick_of ticked_due ticked settled concluded sent dues missed faulted
  loses_role h =
      rw (le-ltb octets 60 long)
      (by_cond (λ (o : Outcome). o.end.role ≡ Idle) (sends (ticked_due e)) (λ _. rests (missed e) (lost h)) (λ _. rests (missed e) (lost h)))
    where
      lost : 49 ≤ e.link.lost → (missed e).role ≡ Idle
      lost h = rw (up, le-leb 49 e.link.lost h)
