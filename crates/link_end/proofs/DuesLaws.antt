-- What is owed at the end of a call, where discovery is taken once and the flags are compared only where they can have changed.
use mathlib.Core.Path.{◌≡◌, refl, sym, ap, ◌∙◌}
use mathlib.Core.Bool.{Bool, true, false, cond, not, ◌||◌}
use borrow.Author.Tests.{eq-eqb}
use lib.Dec.{eqb}
use Prim.Native.Nat.{ℕ}
use Rattle.octets.proofs.Bools.{whether}
use Rattle.link_discovery.specs.Standing.{is_any, is_lost}
use Rattle.link_end.specs.declared.End.{End}
use Rattle.link_end.specs.declared.Heard.{Heard}
use Rattle.link_end.specs.declared.News.TheVariants.{Frame}
use Rattle.link_end.specs.Parts.{with_own, discovery_of, in_any, faulted, settled_in, settled}
use Rattle.link_end.specs.Sending.{fault_flag_of, flags_to_send, allowed, changed, octet_changed, own_in, dues}
use Rattle.link_discovery.specs.Sending.{allowed_in}
use Rattle.link_limit.specs.Limit.{closes}
use Rattle.link_end.specs.Ticking.{missed, losing, ticked_in, own_ticked, ticked, ticked_due}
use Rattle.link_end.specs.Taking.{Taken, known, learned, acted, taken_up, taken, due_taken, taken_in_any, taken_elsewhere, taken_whole}

-- flags that are the same tell nothing
same_tells : (b : Bool) (n : ℕ) → (b || not (eqb n n)) ≡ b
same_tells true n = refl
same_tells false n = rw (eq-eqb n n refl)

-- a tick that does not lose the link: the flags are as they were
abbrev octet_told : End → End → End
octet_told before e =
    let octet = octet_changed before.role e.role in
    with_own (own_in (allowed_in (discovery_of e) (fault_flag_of e)) octet octet (closes before.meter) e.own) e

pub kept_lem : (e : End) → losing e ≡ false → octet_told e (ticked e) ≡ ticked_due e
unfolding ticked_due ticked settled missed faulted losing dues changed allowed flags_to_send discovery_of fault_flag_of
kept_lem e kept =
    whether e.link.up
    (λ up. let near : is_lost e.link.lost ≡ false = ap (λ (b : Bool). cond b (is_lost e.link.lost) false) (sym up) ∙ kept in simp (up, near, same_tells))
    (λ down. simp (down, same_tells))

-- a tick: the flags can have changed only where the link is lost
abbrev ticks_once : End → End
ticks_once e =
    let standing = discovery_of (missed e) in
    let next = ticked_in standing (missed e) in
    with_own (own_ticked e standing next) next

pub ticked_due_lem : (e : End) → ticks_once e ≡ ticked_due e
unfolding ticked_due ticked settled missed faulted losing dues changed allowed flags_to_send discovery_of fault_flag_of
ticked_due_lem e =
    whether e.link.up
    (λ up. whether (is_lost e.link.lost) (λ lost. rw (up, lost) refl) (λ kept. simp (up, kept, same_tells)))
    (λ down. simp (down, same_tells))

-- a frame: discovery stands after the moves where it stood before them, and the body's action does not move it
module _ (m : Heard) (e : End) where
  abbrev moved : End
  moved = settled_in (discovery_of (known m e)) (known m e)

  pub taken_any : is_any (discovery_of (known m e)) ≡ true → taken_in_any m e (discovery_of (known m e)) moved ≡ due_taken e (taken_up m e)
  unfolding taken_in_any taken_up learned settled acted dues changed allowed flags_to_send discovery_of fault_flag_of in_any
  taken_any any = rw any refl

  pub taken_else : is_any (discovery_of (known m e)) ≡ false
      → taken_elsewhere m.header e (discovery_of (known m e)) moved ≡ due_taken e (taken_up m e)
  unfolding taken_elsewhere taken_up learned settled dues changed allowed flags_to_send discovery_of fault_flag_of in_any
  taken_else any = rw any refl

  -- the same with the link up or down
  abbrev down : Taken
  down = record { end = e; due = false; shown = Frame m.header }

  by_link : (b : Bool) → e.link.up ≡ b → taken m e ≡ cond b (taken_up m e) down
  unfolding taken
  by_link b h = ap (λ (u : Bool). cond u (taken_up m e) down) h

  pub whole_by : (b : Bool) → e.link.up ≡ b → due_taken e (cond b (taken_up m e) down) ≡ taken_whole m e
  unfolding taken_whole
  whole_by b h = ap (due_taken e) (sym (by_link b h))
