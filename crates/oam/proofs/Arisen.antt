-- What arises at a tick: how many numbers it takes, and that it is at most two events; and what the entry of the tick gives back.
use Rattle.std.specs.Prelude.{Option, None, Some, Err}
use Prim.Native.Nat.{ℕ, ◌*◌, ◌^◌, ◌<◌, ◌≤◌}
use Rattle.frame_tlvs.specs.declared.Event.{Event}
use Rattle.link_loopback.specs.Roles.{octet_of}
use Rattle.link_loopback.specs.declared.Role.{Role}
use Rattle.link_loopback.specs.declared.Role.TheVariants.{Idle, Asking, Holding, Ending, Looping}
use mathlib.Core.Path.{◌≡◌, refl, sym, ap, ◌∙◌}
use mathlib.Core.List.{List}
use native.Mathlib.Omega.{arith}
use native.Mathlib.Nat.{zero-add, add-zero}
use lib.ListN.{length}
use lib.Seq.{sets}
use Rattle.octets.proofs.Stores.{sets-append}
use Rattle.link_end.specs.declared.End.{End}
use Rattle.link_end.specs.Parts.{Is, Refused, MaybeEnd}
use Rattle.link_end.specs.declared.News.TheVariants.{Nothing as NoNews}
use Rattle.octets.specs.declared.refusal.Refusal.{Refusal}
use Rattle.octets.specs.Refusals.{number}
use Rattle.std.proofs.Common.{false, eqb, rules}
use Rattle.link.specs.Outcomes.{outcome, told}
use Rattle.link_windows.specs.declared.Watch.{Watch}
use Rattle.link_windows.specs.Watches.{Counted}
use Rattle.link_counting.specs.Counting.{CountedTick, uncounted, told_tick}
use Rattle.oam_outcomes.specs.Stepped.{stepped_number}
use Rattle.oam.specs.Ticking.{arisen_numbers, arisen_count, counted_numbers, ticked_number, ticked_state, Ticking}

-- no refusal is shown as 0
never_0 : (r : Refusal) → eqb (number r) 0 ≡ false
never_0 r = search rules

pub octet_small : (r : Role) → octet_of r < 2 ^ 8
octet_small Idle = omega arith
octet_small Asking = omega arith
octet_small Holding = omega arith
octet_small Ending = omega arith
octet_small Looping = omega arith

pub count_small : (a : Option Event) → arisen_count a ≤ 1
count_small None = omega arith
count_small (Some e) = omega arith

numbers_long : (a : Option Event) → length (arisen_numbers a) ≡ arisen_count a * 7
numbers_long None = refl
numbers_long (Some e) = refl

-- what arose in the second window is stored behind what arose in the first
pub both_stored : (c : Counted) (events : List ℕ)
    → sets (sets events 0 (arisen_numbers c.frames)) (arisen_count c.frames * 7) (arisen_numbers c.seconds)
    ≡ sets events 0 (counted_numbers c)
both_stored c events =
    let f = arisen_numbers c.frames in
    let s = arisen_numbers c.seconds in
    sym (sets-append events 0 f s ∙ ap (λ (at : ℕ). sets (sets events 0 f) at s) (zero-add (length f) ∙ numbers_long c.frames))

module _ {call : End → CountedTick} {output : End → List ℕ → List ℕ} (found : MaybeEnd) (events state out : List ℕ) where
  -- there is no end
  pub unticked : {n : ℕ} → found ≡ Refused n → Ticking call output found events state out n events state out
  unticked h = rw h (record { answers = refl; shows = refl; keeps = refl; writes = refl })

  -- what is stored of a tick, and what it answers
  pub ticked : {e : End} {t : CountedTick} {answer : ℕ} {events' state' out' : List ℕ} → found ≡ Is e
      → (t ≡ call e) × (out' ≡ output e out)
      → (answer ≡ ticked_number t) × (events' ≡ sets events 0 (counted_numbers t.counted)) × (state' ≡ ticked_state t state)
      → Ticking call output found events state out answer events' state' out'
  ticked h p q =
      rw h (record {
        answers = q.0 ∙ ap ticked_number p.0;
        shows = q.1 ∙ ap (λ (t : CountedTick). sets events 0 (counted_numbers t.counted)) p.0;
        keeps = q.2 ∙ ap (λ (t : CountedTick). ticked_state t state) p.0;
        writes = p.1;
      })

  -- a tick that is refused: nothing is stored
  pub refused_ticked : {e : End} {answer : ℕ} {out' : List ℕ} (after : End) (w : Watch) (r : Refusal) → found ≡ Is e
      → (told_tick after w (Err r) ≡ call e) × (out' ≡ output e out)
      → answer ≡ stepped_number (told after (Err r))
      → Ticking call output found events state out answer events state out'
  unfolding ticked_number ticked_state
  refused_ticked after w r h p a = ticked h p (a ∙ sym (add-zero (stepped_number (told after (Err r)))), refl, rw (never_0 r))

  -- events too short: nothing is stored
  pub short_ticked : {e : End} {answer : ℕ} (w : Watch) → found ≡ Is e
      → call e ≡ record { outcome = outcome e 9 0 NoNews; counted = uncounted w } → output e out ≡ out
      → answer ≡ stepped_number (outcome e 9 0 NoNews)
      → Ticking call output found events state out answer events state out
  unfolding ticked_number ticked_state
  short_ticked {e = e} w h p q a = ticked h (sym p, sym q) (a ∙ sym (add-zero (stepped_number (outcome e 9 0 NoNews))), refl, refl)
