-- What is owed is not forgotten: after any call it is still owed, or the call has just written the end's Information frame, or
-- that is no longer allowed ("Where it isn't allowed nothing is owed."). A request leaves it owed.
use mathlib.Core.Path.{◌≡◌, sym, ap, ◌∙◌}
use mathlib.Core.Bool.{Bool, true}
use mathlib.Core.Logic.{◌⊎◌, inl, inr}
use Rattle.frame.specs.Frame.{information}
use Rattle.frame_writer.specs.Writing.{parts_of}
use Rattle.link_end.specs.declared.End.{End}
use Rattle.link.specs.Outcomes.{Outcome}
use Rattle.link_end.specs.Parts.{discovery_of}
use Rattle.link_end.specs.Sending.{fault_flag_of, allowed, tlvs_to_send, dues, sends}
use Rattle.link_end.specs.Granting.{granted}
use Rattle.link_end.specs.Ranges.{ranged}
use Rattle.theorems_reach.specs.Machine.{Call, asked_of, outcome_of, body_by}
use Rattle.theorems_reach.specs.Premises.{OfOctets}
use Rattle.octets.proofs.Bools.{whether}
use Rattle.theorems_reach.proofs.Coming.{dues_after, Comes, refuses, concludes, grants, comes}
use Rattle.theorems_reach.proofs.Standing.{Ranged, ranged_is}
use Rattle.theorems_reach.proofs.Keeping.{InputFits, octets_fit}
use Rattle.theorems_reach.proofs.Staying.{Lasting, made_stays, asked_stays}
use Rattle.theorems_reach.proofs.Framing.{Writes, kept_outcome, sends_writes, made_body}

-- noting what is owed keeps what was
owed_dues : (before : End) (due : Bool) (x : End) → x.own.owed ≡ true → allowed (dues before due x) ≡ true → (dues before due x).own.owed ≡ true
unfolding dues allowed discovery_of fault_flag_of
owed_dues before due x w a = rw (w, a)

owed_granted : (before x : End) → x.own.owed ≡ true → allowed (granted before x) ≡ true → (granted before x).own.owed ≡ true
unfolding granted dues allowed discovery_of fault_flag_of
owed_granted before x w a = rw (w, a)

-- the call wrote the end's Information frame
pub record Informs (c : Call) (e : End) : Type 0 where
  pub body : body_by c.input e (outcome_of c e).end ≡ information (parts_of (tlvs_to_send (outcome_of c e).end))
  pub writes : Writes c e

module _ (c : Call) (e : End) (o : InputFits c.input) (r : Ranged e) (w : e.own.owed ≡ true) where
  by_comes : Comes c e → allowed (outcome_of c e).end ≡ true → ((outcome_of c e).end.own.owed ≡ true) ⊎ Informs c e
  by_comes (refuses h) a = inl (rw h.outcome w)
  by_comes (concludes h) a =
      whether (sends (dues_after e h.made))
      (λ t. inr (record { body = made_body e (outcome_of c e).end c.input h.made h.how; writes = sends_writes c e h t o r }))
      (λ f.
      let k : (outcome_of c e).end ≡ dues_after e h.made = ap (λ (x : Outcome). x.end) (kept_outcome c e h f) in
      let still : h.made.end.own.owed ≡ true = ap (λ (l : Lasting). l.owed) (made_stays e c.input h.made h.how) ∙ w in
      inl (ap (λ (x : End). x.own.owed) k ∙ owed_dues e h.made.due h.made.end still (sym (ap allowed k) ∙ a)))
  by_comes (grants h) a =
      let x = (asked_of h.asked e).next in
      let k : (outcome_of c e).end ≡ granted e x = ap (λ (y : Outcome). y.end) h.outcome in
      let still : x.own.owed ≡ true = ap (λ (l : Lasting). l.owed) (asked_stays h.asked e) ∙ w in
      inl (ap (λ (y : End). y.own.owed) k ∙ owed_granted e x still (sym (ap allowed k) ∙ a))

pub owed_lasts : (c : Call) (e : End) → OfOctets c.input → ranged e ≡ true → e.own.owed ≡ true → allowed (outcome_of c e).end ≡ true
    → ((outcome_of c e).end.own.owed ≡ true) ⊎ Informs c e
owed_lasts c e o r w = by_comes c e (octets_fit c.input o) (ranged_is e r) w (comes c e)
