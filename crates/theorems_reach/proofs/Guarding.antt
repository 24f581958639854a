-- An end stays ranged outside `link_end`: each public function of that crate which gives an end gives a ranged one for a ranged
-- one, in its result or behind a `&mut`. So no crate above it, whatever it does, comes to another end; only `fresh` and `with` make
-- one out of none.
use Prim.Native.Nat.{ℕ, ◌^◌, ◌<◌}
use mathlib.Core.Path.{◌≡◌, refl, sym, ap, ◌∙◌}
use mathlib.Core.List.{List, []}
use mathlib.Core.Bool.{Bool, true, false}
use native.Mathlib.Omega.{arith}
use borrow.Author.Tests.{eqb-true}
use lib.Dec.{eqb}
use Rattle.octets.specs.Octets.{Octets}
use Rattle.octets.proofs.Bools.{by_cond}
use Rattle.frame.specs.Frame.{Answer, refused, accepted, decode}
use Rattle.octets.specs.Layout.{shortest_frame}
use Rattle.link_peer.specs.Ranges.{sound}
use Rattle.link_peer.specs.declared.Settings.{Settings}
use Rattle.link_loopback.specs.Loopback.{may_start, may_stop}
use Rattle.link_end.specs.declared.End.{End}
use Rattle.link_end.specs.declared.Report.{Report}
use Rattle.link_end.specs.declared.Heard.{Heard}
use Rattle.link_end.specs.Parts.{Is, Refused, MaybeEnd, fresh_of}
use Rattle.link_end.specs.Sending.{sends, sent, after_sending}
use Rattle.link_end.specs.Ticking.{ticked_due}
use Rattle.link_end.specs.Reporting.{reported_due}
use Rattle.link_end.specs.Hearing.{Is as SaidIs, Refusal, Said, said_by, heard_of}
use Rattle.link_end.specs.Taking.{taken_due, taken_whole}
use Rattle.link_end.specs.Granting.{answer_to, granted, decided, granted_start, granted_stop, granted_frame, granted_number, granted_response, response_allowed}
use Rattle.link_end.specs.Ranges.{ranged, checked}
use Rattle.theorems_reach.specs.Machine.{Request, start, stop, notify, tell, respond, tick, report, receive, asked_of}
use Rattle.theorems_reach.proofs.Coming.{ticks, reports, hears}
use Rattle.theorems_reach.proofs.Standing.{Ranged, ranged_is, is_ranged, fresh_ranged}
use Rattle.theorems_reach.proofs.Keeping.{octets_fit}
use Rattle.theorems_reach.proofs.Passing.{passes}
use Rattle.theorems_reach.proofs.Ranging.{sent_ranged, made_ranged, asked_ranged}

-- ---- an end out of none

-- the end that is there
abbrev end_in : End → MaybeEnd → End
end_in e (Refused n) = e
end_in e (Is x) = x

-- `fresh`, for settings whose vendor fits its four octets
pub fresh_guarded : (s : Settings) → s.vendor < 2 ^ 32 → (e : End) → fresh_of s ≡ Is e → ranged e ≡ true
unfolding fresh_of
fresh_guarded s v e =
    by_cond (λ (f : MaybeEnd). f ≡ Is e → ranged e ≡ true) (sound s)
    (λ t h. rw (← ap (end_in e) h) (fresh_ranged s t v))
    (λ _ h. let z : ◌≡◌ {A = ℕ} 0 1 = cc in absurd (omega arith))

-- `with`, for any parts
pub with_guarded : (x e : End) → checked x ≡ Is e → ranged e ≡ true
unfolding checked
with_guarded x e =
    by_cond (λ (f : MaybeEnd). f ≡ Is e → ranged e ≡ true) (ranged x)
    (λ t h. rw (← ap (end_in e) h) t)
    (λ _ h. let z : ◌≡◌ {A = ℕ} 0 1 = cc in absurd (omega arith))

-- ---- an end out of an end

module _ (e : End) (h : ranged e ≡ true) where
  abbrev known : Ranged e
  known = ranged_is e h

  pub tick_guarded : ranged (ticked_due e) ≡ true
  unfolding ticked_due
  tick_guarded = is_ranged (ticked_due e) (made_ranged e tick _ ticks tt known)

  pub report_guarded : (r : Report) → ranged (reported_due r e) ≡ true
  unfolding reported_due
  report_guarded r = is_ranged (reported_due r e) (made_ranged e (report r) _ (reports r) tt known)

  -- `take`, for what `hear` gives of a frame of octets: nothing else gives what is heard
  pub take_guarded : (f : List ℕ) → Octets f → (m : Heard) → said_by (decode f) ≡ SaidIs m
      → ranged (taken_whole m e).end ≡ true
  unfolding taken_whole taken_due
  take_guarded f o m s = by_answer (decode f) refl
    where
      heard_said : Said → Heard
      heard_said (Refusal n) = m
      heard_said (SaidIs x) = x

      by_answer : (a : Answer) → decode f ≡ a → ranged (taken_whole m e).end ≡ true
      by_answer (refused k) d =
          let r : said_by (refused k) ≡ SaidIs m = ap said_by (sym d) ∙ s in
          let z : ◌≡◌ {A = ℕ} 0 1 = cc in
          absurd (omega arith)
      by_answer (accepted x) d =
          let r : said_by (accepted x) ≡ SaidIs m = ap said_by (sym d) ∙ s in
          let is : heard_of x ≡ m = ap heard_said r in
          rw (← is) (is_ranged (taken_whole (heard_of x) e).end (made_ranged e (receive f) _ (hears f x d) (octets_fit (receive f) o) known))

  pub pay_guarded : ranged (after_sending e) ≡ true
  pay_guarded = by_cond (λ (x : End). ranged x ≡ true) (sends e) (λ _. is_ranged (sent e) (sent_ranged e known)) (λ _. h)

  -- a request that is decided as the machine's are, and makes of the end what one of those makes
  decided_guarded : (q : Request) (octets : ℕ) (permitted measured : Bool) (lent : ℕ)
      → (permitted ≡ true → (asked_of q e).permitted ≡ true)
      → ranged (decided (answer_to octets permitted measured lent e) e (asked_of q e).next).end ≡ true
  unfolding decided
  decided_guarded q octets permitted measured lent p =
      let n = answer_to octets permitted measured lent e in
      by_cond (λ (x : End). ranged x ≡ true) (eqb n 0)
      (λ t.
      let k = passes octets permitted measured lent e (eqb-true n 0 t) in
      is_ranged (granted e (asked_of q e).next) (asked_ranged q e k.any (p k.permitted) known))
      (λ _. h)

  pub start_guarded : (lent : ℕ) → ranged (granted_start lent e).end ≡ true
  unfolding granted_start
  start_guarded lent = decided_guarded start shortest_frame (may_start e.settings.configuration e.peer.held e.role) true lent (λ p. p)

  pub stop_guarded : (lent : ℕ) → ranged (granted_stop lent e).end ≡ true
  unfolding granted_stop
  stop_guarded lent = decided_guarded stop shortest_frame (may_stop e.settings.configuration e.role) true lent (λ p. p)

  pub grant_frame_guarded : (octets : ℕ) (permitted : Bool) (lent : ℕ) → ranged (granted_frame octets permitted lent e).end ≡ true
  unfolding granted_frame
  grant_frame_guarded octets permitted lent = decided_guarded (tell 0 []) octets permitted true lent (λ _. refl)

  pub grant_number_guarded : (octets lent : ℕ) → ranged (granted_number octets lent e).end ≡ true
  unfolding granted_number
  grant_number_guarded octets lent = decided_guarded (notify []) octets true true lent (λ _. refl)

  pub grant_response_guarded : (octets lent : ℕ) → ranged (granted_response octets lent e).end ≡ true
  unfolding granted_response
  grant_response_guarded octets lent = decided_guarded (respond [] [] []) octets (response_allowed e) false lent (λ p. p)
