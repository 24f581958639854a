-- An accepted call at a side keeps what holds of it, and its moment is an honest one. A frame that is received was written by
-- the other side.
use Prim.Native.Nat.{ℕ}
use mathlib.Core.Path.{◌≡◌, refl, sym, ap, ◌∙◌, subst}
use mathlib.Core.List.{List, [], ◌∷◌}
use mathlib.Core.Logic.{⊎_elim}
use Rattle.frame.specs.Frame.{decode}
use Rattle.link_peer.specs.Peers.{is_held}
use Rattle.link_discovery.specs.declared.Discovery.TheVariants.{SendAny}
use Rattle.link_loopback.specs.Loopback.{is_looping}
use Rattle.link_loopback.specs.declared.Role.TheVariants.{Looping}
use Rattle.link_end.specs.declared.End.{End}
use Rattle.link_end.specs.Parts.{discovery_of}
use Rattle.theorems_reach.specs.Machine.{Input, tick, report, receive, request, Call, outcome_of}
use Rattle.theorems_reach.specs.Ordering.{Ordered}
use Rattle.octets.proofs.Bools.{whether}
use Rattle.theorems_reach.proofs.Keeping.{InputFits}
use Rattle.theorems_reach.proofs.Standing.{Ranged}
use Rattle.theorems_reach.proofs.Ranging.{keeps_ranged}
use Rattle.theorems_reach.proofs.Framing.{ranged_writes}
use Rattle.theorems_reach.proofs.Beginning.{is_looping_lem, begins_looping}
use Rattle.theorems_pair.specs.Lists.{Some, there, All, none_left}
use Rattle.theorems_pair.specs.System.{Side, other, Moment, moment_of}
use Rattle.theorems_pair.specs.Safe.{Enable, Complete, Enabled, quiet}
use Rattle.theorems_pair.proofs.Lists.{some_map, meet, some_out}
use Rattle.theorems_reach.proofs.Effects.{Face, same_discovery, Effect, effect_of}
use Rattle.theorems_pair.proofs.Peers.{becomes_two, Lost, becomes_lost}
use Rattle.theorems_reach.proofs.InSendAny.{is_any_lem, looping_any, any_takes}
use Rattle.theorems_pair.proofs.Frames.{wrote_fits, wrote_enable}
use Rattle.theorems_pair.proofs.Limit.{agrees_after, stretches_after}
use Rattle.theorems_pair.proofs.Invariant.{Honest, Keeps, same_self, other-other, both, stay_goes_on}

-- the side wrote the frame
pub record Wrote (s : Side) (f : List ℕ) (m : Moment) : Type 0 where
  pub side : m.side ≡ s
  pub wrote : m.wrote ≡ f

-- "never alters, invents or turns back one"
abbrev pub Delivered : Side → List Moment → Input → Type 0
Delivered s past tick = Unit {0}
Delivered s past (report r) = Unit {0}
Delivered s past (receive f) = Some (Wrote (other s) f) past
Delivered s past (request q) = Unit {0}

-- what is read of it fits
input_fits : (s : Side) (past : List Moment) → All (Honest past) past → (i : Input) → Delivered s past i → InputFits i
input_fits s past a tick d = tt
input_fits s past a (report r) d = tt
input_fits s past a (receive f) d = λ x r. some_out (λ m h. h.0.fits x (ap decode h.1.wrote ∙ r)) (meet a d)
input_fits s past a (request q) d = tt

module _ (s : Side) (c : Call) (past : List Moment) (e : End) (k : Keeps s past e) (a : All (Honest past) past) (d : Delivered s past c.input) (z : (outcome_of c e).answer ≡ 0) where
  abbrev after : End
  after = (outcome_of c e).end

  abbrev moment : Moment
  moment = moment_of s c e

  abbrev fits : InputFits c.input
  fits = input_fits s past a c.input d

  abbrev effect : Effect c e
  effect = effect_of c e z

  ranged_after : Ranged after
  ranged_after = keeps_ranged c e fits k.ranged

  -- what was heard was written by the other side
  heard_written : (f : List ℕ) → c.input ≡ receive f → Some (Wrote (other s) f) past
  heard_written f h = subst (Delivered s past) h d

  -- the kept field
  complete_after : after.peer.kept ≡ 2 → Some (Complete (other s)) past
  complete_after two =
      let two' = ap (λ (f : Face). f.footing.peer.kept) (sym effect.face) ∙ two in
      ⊎_elim k.complete
      (λ h. some_map (λ m w. record { side = w.side; message = h.message; reads = ap decode w.wrote ∙ h.reads; complete = h.says }) (heard_written h.frame h.received))
      (becomes_two e c.input effect.next effect.how two')

  any_complete : discovery_of after ≡ SendAny → Some (Complete (other s)) past
  any_complete any = complete_after (any_takes after any).1

  -- an enable that was heard, and the moments that may have sent it
  newly : Ordered c e → Enabled s (moment ∷ past)
  newly h =
      let enable : (m : Moment) → Wrote (other s) h.frame m → Enable m.wrote =
      λ m w. record { message = h.message; reads = ap decode w.wrote ∙ h.reads; enables = h.enables } in
      let senders = meet a (heard_written h.frame h.received) in
      record {
        newer = [];
        moment = moment;
        older = past;
        split = refl;
        stays = none_left;
        side = refl;
        stands = h.any;
        frame = h.frame;
        received = h.received;
        enable = record { message = h.message; reads = h.reads; enables = h.enables };
        sent = some_map
            (λ m x. let n = x.0.enable (enable m x.1) in record { side = x.1.side; wrote = x.1.wrote; active = n.0; any = n.1 }) senders;
        complete = both (λ (t : Side). Some (Complete t) past) s
            (some_out
            (λ m x.
            subst (λ (t : Side). Some (Complete t) past) (ap other x.1.side ∙ other-other s)
            (x.0.complete (x.0.enable (enable m x.1)).1))
            senders)
            (any_complete h.any);
      }

  enabled_after : after.role ≡ Looping → Enabled s (moment ∷ past)
  enabled_after l =
      let any = looping_any after ranged_after l in
      whether (is_looping e.role)
      (λ t. stay_goes_on s moment past (λ _. any) (k.enabled (is_looping_lem e.role t)))
      (λ f. newly (begins_looping c e f l))

  lost_after : Lost (quiet s (moment ∷ past)) after
  lost_after =
      let l = becomes_lost e k.ranged.stands (quiet s past) k.lost c.input effect.next effect.how in
      let f = effect.face in
      rw (same_self s)
      (λ h. ap (λ (x : Face). x.footing.link.lost) f ∙ l (ap (λ (x : Face). is_held x.footing.peer.held) (sym f) ∙ h))

  pub keeps_after : Keeps s (moment ∷ past) after
  keeps_after =
      let agrees = agrees_after s c e past fits k.ranged z k.agrees in
      record {
        ranged = ranged_after;
        agrees = agrees;
        stretches = stretches_after s c e past after ranged_after agrees k.stretches;
        complete = λ two. there (complete_after two);
        lost = lost_after;
        enabled = enabled_after;
      }

  pub honest_after : Honest (moment ∷ past) moment
  honest_after =
      let w = ranged_writes c e fits k.ranged in
      record {
        complete = λ any. there (any_complete any);
        enable = λ n.
            let p = wrote_enable c e w effect n in
            (p.0, same_discovery after effect.next effect.face ∙ is_any_lem effect.next p.1);
        fits = wrote_fits c e w;
      }
