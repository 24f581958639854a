-- A refused call changes nothing: the same end, no frame, the output as lent, nothing shown. This is so of any end.
use mathlib.Core.Path.{◌≡◌, refl, ap, ◌∙◌}
use Prim.Native.Nat.{ℕ}
use lib.ListN.{length}
use Rattle.octets.proofs.Bools.{by_cond}
use Rattle.link_end.specs.declared.End.{End}
use Rattle.link_end.specs.declared.News.{News}
use Rattle.link_end.specs.declared.News.TheVariants.{Nothing}
use Rattle.link.specs.Outcomes.{Outcome, outcome, concluded}
use Rattle.link_end.specs.Sending.{sends}
use Rattle.theorems_reach.specs.Machine.{Call, outcome_of, output_of}
use Rattle.theorems_reach.proofs.Coming.{dues_after, Concludes, Comes, refuses, concludes, grants, comes}

pub record Unchanged (c : Call) (e : End) : Type 0 where
  pub outcome : outcome_of c e ≡ outcome e (outcome_of c e).answer 0 Nothing
  pub output : output_of c e ≡ c.out

-- what is concluded is accepted
pub concluded_0 : (octets : ℕ) (shown : News) (e : End) → (concluded octets shown e).answer ≡ 0
unfolding concluded
concluded_0 octets shown e = by_cond (λ (o : Outcome). o.answer ≡ 0) (sends e) (λ _. refl) (λ _. refl)

pub concludes_0 : (c : Call) (e : End) → Concludes c e → (outcome_of c e).answer ≡ 0
concludes_0 c e h = rw h.outcome (concluded_0 (length c.out) h.made.shown (dues_after e h.made))

pub refused_unchanged : (c : Call) (e : End) → ((outcome_of c e).answer ≡ 0 → ⊥) → Unchanged c e
refused_unchanged c e n = by (comes c e)
  where
    by : Comes c e → Unchanged c e
    by (refuses h) = record { outcome = h.outcome ∙ rw h.outcome; output = h.output }
    by (concludes h) = absurd (n (concludes_0 c e h))
    by (grants h) = absurd (n (rw h.outcome))

pub refused_end : (c : Call) (e : End) → ((outcome_of c e).answer ≡ 0 → ⊥) → (outcome_of c e).end ≡ e
refused_end c e n = ap (λ (o : Outcome). o.end) (refused_unchanged c e n).outcome
