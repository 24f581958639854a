-- What a call makes of the kept field and of the lost-link count: the field comes to 2 only by a frame that says so; while a
-- record is held, the count is that of the ticks since a frame was accepted.
use Prim.Native.Nat.{ℕ, ◌+◌}
use mathlib.Core.Path.{◌≡◌, refl}
use mathlib.Core.Bool.{true, false, not, ◌&&◌}
use mathlib.Core.Logic.{◌⊎◌, inl, inr, ⊎_elim}
use native.Mathlib.Omega.{arith}
use lib.Dec.{eqb}
use Rattle.frame.specs.Flags.{flags_of}
use Rattle.frame.specs.Frame.{Message}
use Rattle.octets.proofs.Bools.{by_cond, never, and_l, and_r}
use Rattle.link_discovery.specs.Standing.{is_lost}
use Rattle.link_peer.specs.Peers.{is_held, kept_from}
use Rattle.link_end.specs.declared.Peer.{Peer}
use Rattle.link_end.specs.declared.End.{End}
use Rattle.link_end.specs.declared.Report.{Report}
use Rattle.link_end.specs.declared.Report.TheVariants.{LinkUp, LinkDown, DyingGasp, CriticalEvent}
use Rattle.link_end.specs.Parts.{faulted, settled}
use Rattle.link_end.specs.Ticking.{missed, ticked}
use Rattle.link_end.specs.Reporting.{link_up, link_down, reported}
use Rattle.link_end.specs.Taking.{learned, acted, taken}
use Rattle.link_end.specs.Ranges.{never as unheard, blank}
use Rattle.theorems_reach.specs.Machine.{Request, start, stop, variables, notify, tell, respond, Input, asked_of}
use Rattle.theorems_reach.proofs.Keeping.{by_taken}
use Rattle.theorems_reach.proofs.Standing.{Stands}
use Rattle.theorems_pair.specs.Safe.{quiet_after}
use Rattle.theorems_reach.proofs.Effects.{Becomes, ticks, reports, hears, asks, Hears}
use Rattle.link_end.specs.Hearing.{heard_of}

-- ---- the kept field

abbrev Two : End → Type 0
Two e = e.peer.kept ≡ 2

-- "its discovery was complete"
abbrev pub SaysComplete : Message → Type 0
SaysComplete m = (flags_of m.flags).local ≡ 2

module _ (e : End) where
  ticked_two : Two (ticked e) → Two e
  unfolding ticked settled missed faulted
  ticked_two =
      by_cond (λ (x : End). Two x → Two e) e.link.up
      (λ _. by_cond (λ (x : End). Two x → Two e) (is_lost e.link.lost) (λ _ h. absurd (omega arith)) (λ _ h. h))
      (λ _ h. h)

  reported_two : (r : Report) → Two (reported r e) → Two e
  unfolding link_up link_down faulted
  reported_two LinkUp = by_cond (λ (x : End). Two x → Two e) e.link.up (λ _ h. h) (λ _ h. h)
  reported_two LinkDown = by_cond (λ (x : End). Two x → Two e) e.link.up (λ _ h. absurd (omega arith)) (λ _ h. h)
  reported_two (DyingGasp on) = λ h. h
  reported_two (CriticalEvent on) = λ h. h

  -- "kept field from the flags"
  taken_two : (m : Message) → Two (taken (heard_of m) e).end → Two e ⊎ SaysComplete m
  unfolding learned settled acted kept_from
  taken_two m =
      by_taken (heard_of m) e (λ (x : End). Two x → Two e ⊎ SaysComplete m) (λ _ h. inl h) (λ _ _. from_flags) (λ _ _ _. from_flags)
    where
      from_flags : kept_from m.flags e.peer.kept ≡ 2 → Two e ⊎ SaysComplete m
      from_flags =
          by_cond (λ (k : ℕ). k ≡ 2 → Two e ⊎ SaysComplete m) (eqb (flags_of m.flags).local 3) (λ _ h. inl h) (λ _ h. inr h)

  asked_two : (q : Request) → Two (asked_of q e).next → Two e
  asked_two start h = h
  asked_two stop h = h
  asked_two (variables ds) h = h
  asked_two (notify vs) h = h
  asked_two (tell oui x) h = h
  asked_two (respond ns vs ds) h = h

-- it comes to 2 only by a frame that says so
pub becomes_two : (e : End) (i : Input) (x : End) → Becomes e i x → Two x → Two e ⊎ Hears i SaysComplete
becomes_two e i x ticks h = inl (ticked_two e h)
becomes_two e i x (reports r) h = inl (reported_two e r h)
becomes_two e i x (hears f m d) h =
    ⊎_elim inl (λ k. inr (record { frame = f; message = m; received = refl; reads = d; says = k })) (taken_two e m h)
becomes_two e i x (asks q a p) h = inl (asked_two e q h)

-- ---- the lost-link count

-- while a record is held the count is n
abbrev pub Lost : ℕ → End → Type 0
Lost n e = is_held e.peer.held ≡ true → e.link.lost ≡ n

-- with the link down none is held
no_record : {A : Type 0} (p : Peer) → blank p ≡ true → is_held p.held ≡ true → A
unfolding blank
no_record p b h = never (rw h at (and_l (not (is_held p.held)) (unheard p.last) (and_r (eqb p.kept 0) (not (is_held p.held) && unheard p.last) b)))

module _ (e : End) (s : Stands e) (n : ℕ) (l : Lost n e) where
  down_unheld : {A : Type 0} → e.link.up ≡ false → is_held e.peer.held ≡ true → A
  down_unheld d h = no_record e.peer (s.down d) h

  ticked_lost : Lost (n + 1) (ticked e)
  unfolding ticked settled missed faulted
  ticked_lost =
      by_cond (Lost (n + 1)) e.link.up
      (λ _. by_cond (Lost (n + 1)) (is_lost e.link.lost) (λ _ h. never h) (λ _ h. omega (arith, l h)))
      (λ d h. down_unheld d h)

  reported_lost : (r : Report) → Lost n (reported r e)
  unfolding link_up link_down faulted
  reported_lost LinkUp = by_cond (Lost n) e.link.up (λ _. l) (λ d h. down_unheld d h)
  reported_lost LinkDown = by_cond (Lost n) e.link.up (λ _ h. never h) (λ _. l)
  reported_lost (DyingGasp on) = l
  reported_lost (CriticalEvent on) = l

  -- "lost-link count to 0"
  taken_lost : (m : Message) → Lost 0 (taken (heard_of m) e).end
  unfolding learned settled acted
  taken_lost m = by_taken (heard_of m) e (Lost 0) (λ d h. down_unheld d h) (λ _ _ _. refl) (λ _ _ _ _. refl)

  asked_lost : (q : Request) → Lost n (asked_of q e).next
  asked_lost start = l
  asked_lost stop = l
  asked_lost (variables ds) = l
  asked_lost (notify vs) = l
  asked_lost (tell oui x) = l
  asked_lost (respond ns vs ds) = l

  pub becomes_lost : (i : Input) (x : End) → Becomes e i x → Lost (quiet_after i n) x
  becomes_lost i x ticks = ticked_lost
  becomes_lost i x (reports r) = reported_lost r
  becomes_lost i x (hears f m d) = taken_lost m
  becomes_lost i x (asks q a p) = asked_lost q
