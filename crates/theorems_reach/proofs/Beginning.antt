-- An end begins to loop only in a call that receives an enable, with its own bit 2 set, a record of an active peer held, and
-- discovery in SEND_ANY after the call; and an end that loops received such a one in its present stay there. This is so whoever
-- sent the frame.
use Rattle.std.specs.Prelude.{Option, None, Some}
use Prim.Native.Nat.{ℕ, ◌%◌, ◌<◌}
use mathlib.Core.Path.{◌≡◌, refl, sym, ap, ◌∙◌, subst}
use mathlib.Core.List.{List, [], ◌∷◌}
use mathlib.Core.Bool.{Bool, true, false, ◌&&◌}
use mathlib.Core.Logic.{◌⊎◌, inl, inr, ⊎_elim}
use borrow.Author.Tests.{ltb-true, eqb-true, eqb-false}
use lib.Dec.{ltb, eqb}
use Rattle.frame_body.specs.declared.Information.{Information}
use Rattle.octets.proofs.Bools.{by_cond, never, and_l, and_r, not_both, whether}
use Rattle.frame.specs.Frame.{Body, information, notification, request, response, loopback, organization, Message, local_of}
use Rattle.octets.specs.Bits.{bit}
use Rattle.link_peer.specs.Peers.{peer_active}
use Rattle.link_peer.specs.declared.Settings.{Settings}
use Rattle.link_loopback.specs.Loopback.{is_looping, takes_enable, after_actions, role_after_local, obeys, role_after_command}
use Rattle.link_loopback.specs.declared.Role.{Role}
use Rattle.link_loopback.specs.declared.Role.TheVariants.{Idle, Asking, Holding, Ending, Looping}
use Rattle.link_discovery.specs.Standing.{role_in, is_lost}
use Rattle.link_discovery.specs.declared.Discovery.{Discovery}
use Rattle.link_discovery.specs.declared.Discovery.TheVariants.{Fault, ActiveSendLocal, PassiveWait, SendLocalRemote, SendLocalRemoteOk, SendAny}
use Rattle.link_end.specs.declared.End.{End}
use Rattle.link_end.specs.declared.Heard.{Heard}
use Rattle.link_end.specs.declared.Report.{Report}
use Rattle.link_end.specs.declared.Report.TheVariants.{LinkUp, LinkDown, DyingGasp, CriticalEvent}
use Rattle.link_end.specs.Parts.{fresh_end, discovery_of, in_any, faulted, settled}
use Rattle.link_end.specs.Ticking.{missed, ticked}
use Rattle.link_end.specs.Reporting.{link_up, link_down, reported}
use Rattle.link_end.specs.Taking.{Taken, learned, obeys_command, obeyed, role_after, acted, taken_up, taken}
use Rattle.theorems_reach.specs.Machine.{Request, start, stop, variables, notify, tell, respond, Input, Call, asked_of, outcome_of}
use Rattle.theorems_reach.specs.Runs.{after}
use Rattle.theorems_reach.specs.Premises.{Accepted, AllOfOctets}
use Rattle.theorems_reach.specs.Ordering.{Ordered, OrderedIn, now, since}
use Rattle.theorems_reach.proofs.Ranging.{run_is}
use Rattle.theorems_reach.proofs.Refusing.{refused_end}
use Rattle.theorems_reach.proofs.InSendAny.{is_any_lem, looping_any}
use Rattle.theorems_reach.proofs.Effects.{Face, face_of, same_discovery, Becomes, ticks, reports, hears, asks, effect_of}
use Rattle.link_end.specs.Hearing.{action_of, heard_of}

abbrev Loops : Role → Type 0
Loops r = r ≡ Looping

-- no other role loops
pub not_looping : {A : Type 0} {r : Role} → is_looping r ≡ false → Loops r → A
not_looping f h = not_both (ap is_looping h) f

pub is_looping_lem : (r : Role) → is_looping r ≡ true → Loops r
is_looping_lem Idle h = never h
is_looping_lem Asking h = never h
is_looping_lem Holding h = never h
is_looping_lem Ending h = never h
is_looping_lem Looping h = refl

-- a role that takes an enable, and does not loop yet
takes_enable_lem : (r : Role) (source own : ℕ) → is_looping r ≡ false → takes_enable r (ltb source own) ≡ true → (r ≡ Idle) ⊎ ((r ≡ Asking) × (source < own))
takes_enable_lem Idle source own f t = inl refl
takes_enable_lem Asking source own f t = inr (refl, ltb-true source own t)
takes_enable_lem Holding source own f t = never t
takes_enable_lem Ending source own f t = never t
takes_enable_lem Looping source own f t = not_both refl f

-- ---- the moves, and a Local TLV

settled_loops : (d : Discovery) (r : Role) → Loops (role_in d r) → Loops r
settled_loops Fault r h = not_looping refl h
settled_loops ActiveSendLocal r h = not_looping refl h
settled_loops PassiveWait r h = not_looping refl h
settled_loops SendLocalRemote r h = not_looping refl h
settled_loops SendLocalRemoteOk r h = not_looping refl h
settled_loops SendAny r h = h

after_local_loops : (local : Option Information) (r : Role) → Loops (role_after_local local r) → Loops r
unfolding role_after_local
after_local_loops None r h = h
after_local_loops (Some i) r h = by r (eqb (i.state % 8) 5) (eqb (i.state % 8) 0) h
  where
    by : (r : Role) (looping forward : Bool) → Loops (after_actions r looping forward) → Loops r
    by Idle looping forward h = h
    by Asking true forward h = not_looping refl h
    by Asking false forward h = h
    by Holding looping forward h = h
    by Ending looping true h = not_looping refl h
    by Ending looping false h = h
    by Looping looping forward h = h

-- ---- what a call makes of the role

-- of a message that orders it: of the end before, and after
record Orders (m : Message) (e x : End) : Type 0 where
  enables : m.body ≡ loopback 1
  own : bit 2 e.settings.configuration ≡ true
  peer : peer_active x.peer.held ≡ true
  role : takes_enable e.role (ltb m.source e.settings.source) ≡ true
  any : discovery_of x ≡ SendAny

module _ (e : End) where
  Before : End → Type 0
  Before x = Loops x.role → Loops e.role

  missed_loops : Before (missed e)
  unfolding missed faulted Before
  missed_loops =
      by_cond Before e.link.up
      (λ _. by_cond Before (is_lost e.link.lost) (λ _ h. not_looping refl h) (λ _ h. h))
      (λ _ h. h)

  ticked_loops : Before (ticked e)
  unfolding ticked settled Before
  ticked_loops h = missed_loops (settled_loops (discovery_of (missed e)) (missed e).role h)

  reported_loops : (r : Report) → Before (reported r e)
  unfolding link_up link_down faulted Before
  reported_loops LinkUp = by_cond Before e.link.up (λ _ h. h) (λ _ h. h)
  reported_loops LinkDown = by_cond Before e.link.up (λ _ h. not_looping refl h) (λ _ h. h)
  reported_loops (DyingGasp on) = λ h. h
  reported_loops (CriticalEvent on) = λ h. h

  asked_loops : (q : Request) → Before (asked_of q e).next
  unfolding Before
  asked_loops start h = not_looping refl h
  asked_loops stop h = not_looping refl h
  asked_loops (variables ds) h = h
  asked_loops (notify vs) h = h
  asked_loops (tell oui x) h = h
  asked_loops (respond ns vs ds) h = h

  -- a frame's flags and Local TLV
  learned_loops : (m : Heard) → Before (learned m e)
  unfolding learned settled discovery_of Before
  learned_loops m h = settled_loops (discovery_of (learned m e)) e.role h

  learned-role : (m : Heard) → in_any (learned m e) ≡ true → (learned m e).role ≡ e.role
  unfolding learned settled discovery_of
  learned-role m h = ap (λ (d : Discovery). role_in d e.role) (is_any_lem (learned m e) h)

-- a command that makes an end loop that did not
module _ (source n : ℕ) (x : End) where
  abbrev higher : Bool
  higher = ltb source x.settings.source

  abbrev active : Bool
  active = peer_active x.peer.held

  abbrev own : Bool
  own = bit 2 x.settings.configuration

  commanded_loops : Loops (role_after_command n (obeys_command n source x) x.role)
      → Loops x.role ⊎ ((n ≡ 1) × (own ≡ true) × (active ≡ true) × (takes_enable x.role higher ≡ true))
  unfolding obeys_command obeys
  commanded_loops =
      whether (eqb n 1)
      (λ t h.
      whether (own && (active && takes_enable x.role higher))
      (λ y.
      let z = and_r own (active && takes_enable x.role higher) y in
      inr (eqb-true n 1 t, and_l own (active && takes_enable x.role higher) y, and_l active (takes_enable x.role higher) z, and_r active (takes_enable x.role higher) z))
      (λ f. inl (rw (t, f) at h)))
      (λ f h. whether (is_looping x.role) (λ y. never (ap is_looping (rw (f, y) at h))) (λ k. inl (rw (f, k) at h)))

-- a body's action
role_loops : (source : ℕ) (b : Body) (x : End)
    → Loops (role_after (local_of b) (action_of b) (obeyed source (action_of b) x) x.role)
    → Loops x.role ⊎ ((b ≡ loopback 1) × (own source 1 x ≡ true) × (active source 1 x ≡ true) × (takes_enable x.role (higher source 1 x) ≡ true))
unfolding role_after obeyed
role_loops source (information ps) x h = inl (after_local_loops (local_of (information ps)) x.role h)
role_loops source (notification n es) x h = inl h
role_loops source (request ds) x h = inl h
role_loops source (response cs) x h = inl h
role_loops source (loopback n) x h = ⊎_elim inl (λ k. inr (ap loopback k.0, k.1, k.2, k.3)) (commanded_loops source n x h)
role_loops source (organization oui y) x h = inl h

module _ (m : Message) (e : End) where
  abbrev x : End
  x = learned (heard_of m) e

  acted_loops : in_any x ≡ true → Loops (acted (heard_of m) (obeyed m.source (action_of m.body) x) x).role
      → Loops e.role ⊎ Orders m e (acted (heard_of m) (obeyed m.source (action_of m.body) x) x)
  unfolding acted discovery_of learned settled Before
  acted_loops any h =
      ⊎_elim (λ k. inl (learned_loops e (heard_of m) k))
      (λ k.
      inr
      (record {
        enables = k.0;
        own = k.1;
        peer = k.2;
        role = subst (λ (r : Role). takes_enable r (ltb m.source e.settings.source) ≡ true) (learned-role e (heard_of m) any) k.3;
        any = is_any_lem x any;
      }))
      (role_loops m.source m.body x h)

  taken_loops : Loops (taken (heard_of m) e).end.role → Loops e.role ⊎ Orders m e (taken (heard_of m) e).end
  unfolding taken taken_up Before
  taken_loops =
      by_cond (λ (t : Taken). Loops t.end.role → Loops e.role ⊎ Orders m e t.end) e.link.up
      (λ _. by_cond (λ (t : Taken). Loops t.end.role → Loops e.role ⊎ Orders m e t.end) (in_any x) acted_loops
      (λ _ h. inl (learned_loops e (heard_of m) h)))
      (λ _ h. inl h)

-- ---- every call

module _ (c : Call) (e : End) (f : is_looping e.role ≡ false) where
  ordered : (i : Input) → c.input ≡ i → (y : End) → face_of (outcome_of c e).end ≡ face_of y → Becomes e i y → Loops y.role → Ordered c e
  unfolding Before
  ordered i s y k ticks l = not_looping f (ticked_loops e l)
  ordered i s y k (reports r) l = not_looping f (reported_loops e r l)
  ordered i s y k (asks q a p) l = not_looping f (asked_loops e q l)
  ordered i s y k (hears g m d) l =
      ⊎_elim (not_looping f)
      (λ o.
      record {
        frame = g;
        message = m;
        received = s;
        reads = d;
        enables = o.enables;
        own = o.own;
        peer = ap (λ (z : Face). peer_active z.footing.peer.held) k ∙ o.peer;
        role = takes_enable_lem e.role m.source e.settings.source f o.role;
        any = same_discovery (outcome_of c e).end y k ∙ o.any;
      })
      (taken_loops m e l)

  pub begins_looping : Loops (outcome_of c e).end.role → Ordered c e
  begins_looping l =
      whether (eqb (outcome_of c e).answer 0)
      (λ t.
      let h = effect_of c e (eqb-true (outcome_of c e).answer 0 t) in
      ordered c.input refl h.next h.face h.how (ap (λ (k : Face). k.role) (sym h.face) ∙ l))
      (λ n. not_looping f (ap (λ (x : End). x.role) (sym (refused_end c e (eqb-false (outcome_of c e).answer 0 n))) ∙ l))

-- ---- every run

pub looping_enabled : (s : Settings) → Accepted s → (cs : List Call) → AllOfOctets cs → (after s cs).role ≡ Looping → OrderedIn s cs
unfolding fresh_end
looping_enabled s a [] o l = not_looping refl l
looping_enabled s a (c ∷ cs) o l =
    let any = looping_any (after s (c ∷ cs)) (run_is s a (c ∷ cs) o) l in
    whether (is_looping (after s cs).role)
    (λ t. since any (looping_enabled s a cs o.1 (is_looping_lem (after s cs).role t)))
    (λ f. now (begins_looping c (after s cs) f l))
