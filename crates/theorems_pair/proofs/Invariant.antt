-- What holds of a world in every run: of each side beside the past, and of every moment of the past. A moment of the other side
-- changes nothing of it.
use Prim.Native.Nat.{ℕ, ◌≤◌}
use mathlib.Core.Path.{◌≡◌, refl, ap, ◌∙◌}
use mathlib.Core.List.{List, ◌∷◌}
use mathlib.Core.Bool.{true, false}
use Rattle.frame.specs.Frame.{Message, accepted, decode}
use Rattle.link_discovery.specs.declared.Discovery.TheVariants.{SendAny}
use Rattle.link_loopback.specs.declared.Role.TheVariants.{Looping}
use Rattle.link_end.specs.declared.End.{End}
use Rattle.octets.proofs.Bools.{not_both}
use Rattle.theorems_reach.specs.Intervals.{frames_from}
use Rattle.theorems_reach.proofs.Hearing.{HeardFits}
use Rattle.theorems_reach.proofs.Standing.{Ranged}
use Rattle.theorems_reach.proofs.Counting.{Agrees}
use Rattle.theorems_pair.specs.Lists.{Some, there, All, also}
use Rattle.theorems_pair.specs.System.{Side, near, far, other, same, Moment, World, put}
use Rattle.theorems_pair.specs.Safe.{Enable, Complete, Stays, Enabled, quiet, history_of}
use Rattle.theorems_pair.proofs.Lists.{all_map}
use Rattle.theorems_pair.proofs.Peers.{Lost}

-- of a moment: in SEND_ANY only after the other side said that its discovery was complete; an enable only as an active end in
-- SEND_ANY; and whatever is read of its frame fits what an end keeps of it
pub record Honest (past : List Moment) (m : Moment) : Type 0 where
  pub complete : m.discovery ≡ SendAny → Some (Complete (other m.side)) past
  pub enable : Enable m.wrote → (m.active ≡ true) × (m.discovery ≡ SendAny)
  pub fits : (x : Message) → decode m.wrote ≡ accepted x → HeardFits x.body

-- of a side: its end is ranged, its meter agrees with the past, no stretch of the past has more than ten frames, the kept field is 2
-- only after the other side said so, while a record is held the lost-link count is that of the past, and it loops only where the
-- past has the enable
pub record Keeps (s : Side) (past : List Moment) (e : End) : Type 0 where
  pub ranged : Ranged e
  pub agrees : Agrees e.meter (history_of s past)
  pub stretches : (first : ℕ) → frames_from first (history_of s past) ≤ 10
  pub complete : e.peer.kept ≡ 2 → Some (Complete (other s)) past
  pub lost : Lost (quiet s past) e
  pub enabled : e.role ≡ Looping → Enabled s past

pub record Invariant (w : World) : Type 0 where
  pub sides : (s : Side) → Keeps s w.past (w.ends s)
  pub honest : All (Honest w.past) w.past

-- ---- sides

pub same_self : (s : Side) → same s s ≡ true
same_self near = refl
same_self far = refl

pub apart : (s : Side) → same (other s) s ≡ false
apart near = refl
apart far = refl

pub other-other : (s : Side) → other (other s) ≡ s
other-other near = refl
other-other far = refl

-- what holds of a side and of the other holds of both
pub both : (P : Side → Type 0) (s : Side) → P s → P (other s) → (t : Side) → P t
both P near a b near = a
both P near a b far = b
both P far a b near = b
both P far a b far = a

-- the end that was put at a side, and the other side's
pub put_here : (s : Side) (x : End) (ends : Side → End) → put s x ends s ≡ x
put_here near x ends = refl
put_here far x ends = refl

pub put_there : (s : Side) (x : End) (ends : Side → End) → put s x ends (other s) ≡ ends (other s)
put_there near x ends = refl
put_there far x ends = refl

-- ---- the past grows

pub honest_grows : (m : Moment) {past : List Moment} {l : List Moment} → All (Honest past) l → All (Honest (m ∷ past)) l
honest_grows m = all_map (λ x h. record { complete = λ a. there (h.complete a); enable = h.enable; fits = h.fits })

-- a stay in SEND_ANY goes on
pub stay_goes_on : (s : Side) (m : Moment) (past : List Moment) → Stays s m → Enabled s past → Enabled s (m ∷ past)
stay_goes_on s m past a n =
    record {
      newer = m ∷ n.newer;
      moment = n.moment;
      older = n.older;
      split = ap (λ (l : List Moment). m ∷ l) n.split;
      stays = also a n.stays;
      side = n.side;
      stands = n.stands;
      frame = n.frame;
      received = n.received;
      enable = n.enable;
      sent = n.sent;
      complete = n.complete;
    }

-- a moment of the other side
pub keeps_beside : (s : Side) (m : Moment) (past : List Moment) (e : End) → same s m.side ≡ false → Keeps s past e → Keeps s (m ∷ past) e
keeps_beside s m past e d k =
    record {
      ranged = k.ranged;
      agrees = rw d k.agrees;
      stretches = rw d k.stretches;
      complete = λ z. there (k.complete z);
      lost = rw d k.lost;
      enabled = λ l. stay_goes_on s m past (λ h. not_both (ap (same s) h ∙ same_self s) d) (k.enabled l);
    }
