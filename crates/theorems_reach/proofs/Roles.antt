-- A role is one that the settings allow: what a call makes of an end keeps it so, step by step.
use Rattle.std.specs.Prelude.{Option, None, Some}
use Prim.Native.Nat.{ℕ}
use mathlib.Core.Path.{◌≡◌, refl}
use mathlib.Core.Bool.{Bool, true, false, cond, ◌&&◌}
use lib.Dec.{ltb, eqb}
use Rattle.frame_body.specs.declared.Information.{Information}
use Rattle.octets.proofs.Bools.{by_cond, and_l}
use Rattle.octets.specs.Bits.{bit}
use Rattle.link_peer.specs.Peers.{peer_active, peer_loopback}
use Rattle.link_loopback.specs.declared.Role.{Role}
use Rattle.link_loopback.specs.declared.Role.TheVariants.{Idle, Asking, Holding, Ending, Looping}
use Rattle.link_loopback.specs.Loopback.{after_actions, role_after_local, takes_enable, is_looping, obeys, role_after_command, starts, stops, may_start, may_stop, role_fits}
use Rattle.link_discovery.specs.declared.Discovery.{Discovery}
use Rattle.link_discovery.specs.declared.Discovery.TheVariants.{Fault, ActiveSendLocal, PassiveWait, SendLocalRemote, SendLocalRemoteOk, SendAny}
use Rattle.link_discovery.specs.Standing.{role_in, is_lost}
use Rattle.link_end.specs.declared.End.{End}
use Rattle.link_end.specs.declared.Heard.{Heard}
use Rattle.link_end.specs.declared.Action.{Action}
use Rattle.link_end.specs.declared.Action.TheVariants.{Inform, Notify, Command, Other}
use Rattle.link_end.specs.declared.Report.{Report}
use Rattle.link_end.specs.declared.Report.TheVariants.{LinkUp, LinkDown, DyingGasp, CriticalEvent}
use Rattle.link_end.specs.Parts.{discovery_of, in_any, settled, faulted}
use Rattle.link_end.specs.Taking.{Taken, known, learned, obeys_command, obeyed, role_after, acted, taken_up, taken}
use Rattle.link_end.specs.Ticking.{missed, ticked}
use Rattle.link_end.specs.Reporting.{link_up, link_down, reported}
use Rattle.theorems_reach.specs.Machine.{Input, Request, start, stop, variables, notify, tell, respond, asked_of}
use Rattle.theorems_reach.proofs.Coming.{Made, ticks, reports, hears}
use Rattle.theorems_reach.proofs.Standing.{Fits}
use Rattle.link_end.specs.Hearing.{heard_of}

-- ---- the role alone, by a configuration

module _ (c : ℕ) where
  abbrev Allowed : Role → Type 0
  Allowed r = role_fits c r ≡ true

  in_fits : (d : Discovery) (r : Role) → Allowed r → Allowed (role_in d r)
  in_fits Fault r h = refl
  in_fits ActiveSendLocal r h = refl
  in_fits PassiveWait r h = refl
  in_fits SendLocalRemote r h = refl
  in_fits SendLocalRemoteOk r h = refl
  in_fits SendAny r h = h

  after_actions_fits : (looping forward : Bool) (r : Role) → Allowed r → Allowed (after_actions r looping forward)
  after_actions_fits looping forward Idle h = refl
  after_actions_fits true forward Asking h = h
  after_actions_fits false forward Asking h = h
  after_actions_fits looping forward Holding h = h
  after_actions_fits looping true Ending h = refl
  after_actions_fits looping false Ending h = h
  after_actions_fits looping forward Looping h = h

  after_local_fits : (l : Option Information) (r : Role) → Allowed r → Allowed (role_after_local l r)
  unfolding role_after_local
  after_local_fits None r h = h
  after_local_fits (Some i) r h = after_actions_fits _ _ r h

  -- an enable that is obeyed finds the loopback bit
  enabled_bit : (one b x : Bool) → cond one (bit 2 c && b) x ≡ true → Allowed (cond one Looping Idle)
  enabled_bit true b x h = and_l (bit 2 c) b h
  enabled_bit false b x h = refl

  commanded_fits : (k : ℕ) (higher : Bool) (held : Option Information) (r : Role) → Allowed r → Allowed (role_after_command k (obeys k higher c held r) r)
  unfolding obeys
  commanded_fits k higher held r h =
      by_cond Allowed (cond (eqb k 1) (bit 2 c && (peer_active held && takes_enable r higher)) (is_looping r))
      (λ t. enabled_bit (eqb k 1) (peer_active held && takes_enable r higher) (is_looping r) t)
      (λ _. h)

-- ---- a tick, a report

settled_fits : (e : End) → Fits e → Fits (settled e)
unfolding settled
settled_fits e h = in_fits e.settings.configuration (discovery_of e) e.role h

missed_fits : (e : End) → Fits e → Fits (missed e)
unfolding missed faulted
missed_fits e h = by_cond Fits e.link.up (λ _. by_cond Fits (is_lost e.link.lost) (λ _. refl) (λ _. h)) (λ _. h)

ticked_fits : (e : End) → Fits e → Fits (ticked e)
unfolding ticked
ticked_fits e h = settled_fits (missed e) (missed_fits e h)

reported_fits : (r : Report) (e : End) → Fits e → Fits (reported r e)
unfolding link_up link_down faulted
reported_fits LinkUp e h = by_cond Fits e.link.up (λ _. h) (λ _. h)
reported_fits LinkDown e h = by_cond Fits e.link.up (λ _. refl) (λ _. h)
reported_fits (DyingGasp on) e h = h
reported_fits (CriticalEvent on) e h = h

-- ---- an accepted frame

after_fits : (source : ℕ) (l : Option Information) (a : Action) (x : End) → Fits x
    → role_fits x.settings.configuration (role_after l a (obeyed source a x) x.role) ≡ true
unfolding role_after obeyed obeys_command
after_fits source l Inform x h = after_local_fits x.settings.configuration l x.role h
after_fits source l (Notify n) x h = h
after_fits source l (Command k) x h =
    commanded_fits x.settings.configuration k (ltb source x.settings.source) x.peer.held x.role h
after_fits source l Other x h = h

learned_fits : (m : Heard) (e : End) → Fits e → Fits (learned m e)
unfolding learned
learned_fits m e h =
    settled_fits (known m e) h

acted_fits : (m : Heard) (x : End) → Fits x → Fits (acted m (obeyed m.header.source m.action x) x)
unfolding acted
acted_fits m x h = after_fits m.header.source m.local m.action x h

taken_fits : (m : Heard) (e : End) → Fits e → Fits (taken m e).end
unfolding taken taken_up
taken_fits m e h =
    by_cond (λ (t : Taken). Fits t.end) e.link.up
    (λ _.
    by_cond (λ (t : Taken). Fits t.end) (in_any (learned m e))
    (λ _. acted_fits m (learned m e) (learned_fits m e h))
    (λ _. learned_fits m e h))
    (λ _. h)

-- ---- what is made of an end by any of them, and by a request that the role, the mode and the peer allow

pub made_fits : (e : End) (i : Input) (t : Taken) → Made e i t → Fits e → Fits t.end
made_fits e i t ticks h = ticked_fits e h
made_fits e i t (reports r) h = reported_fits r e h
made_fits e i t (hears f m d) h = taken_fits (heard_of m) e h

pub asked_fits : (q : Request) (e : End) → (asked_of q e).permitted ≡ true → Fits e → Fits (asked_of q e).next
unfolding may_start may_stop
asked_fits start e p h = and_l (bit 0 e.settings.configuration) (peer_loopback e.peer.held && starts e.role) p
asked_fits stop e p h = and_l (bit 0 e.settings.configuration) (stops e.role) p
asked_fits (variables ds) e p h = h
asked_fits (notify vs) e p h = h
asked_fits (tell oui x) e p h = h
asked_fits (respond ns vs ds) e p h = h
