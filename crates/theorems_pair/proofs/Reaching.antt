-- Each end of two that are joined is, after any happenings, an end of `theorems_reach`: calls made it of a fresh one. So what
-- is shown there of every run of one end, and in `theorems_archive` of its octets, holds of both.
use mathlib.Core.Path.{◌≡◌, refl, ap}
use mathlib.Core.List.{List, [], ◌∷◌}
use Prim.Native.Nat.{ℕ}
use lib.Dec.{eqb}
use Rattle.octets.proofs.Bools.{by_cond}
use Rattle.link_peer.specs.declared.Settings.{Settings}
use Rattle.link_end.specs.declared.End.{End}
use Rattle.theorems_reach.specs.Machine.{tick, report, receive, request, Call, outcome_of}
use Rattle.theorems_reach.specs.Runs.{after}
use Rattle.theorems_pair.specs.System.{Side, near, far, other, World, put, called, Act, ticks, reports, requests, arrives, Happening, frame_at, delivered, happens, run, begin}

module _ (settings : Side → Settings) where
  abbrev Reached : World → Type 0
  Reached w = (s : Side) → (cs : List Call) × (w.ends s ≡ after (settings s) cs)

  -- one end is put anew
  anew : (t : Side) (c : Call) (w : World) → Reached w → (s : Side)
      → (cs : List Call) × (put t (outcome_of c (w.ends t)).end w.ends s ≡ after (settings s) cs)
  anew near c w h near = (c ∷ (h near).0, ap (λ (e : End). (outcome_of c e).end) (h near).1)
  anew near c w h far = h far
  anew far c w h near = h near
  anew far c w h far = (c ∷ (h far).0, ap (λ (e : End). (outcome_of c e).end) (h far).1)

  called_reached : (t : Side) (c : Call) (w : World) → Reached w → Reached (called t c w)
  called_reached t c w h = by_cond Reached (eqb (outcome_of c (w.ends t)).answer 0) (λ _. anew t c w h) (λ _. h)

  delivered_reached : (t : Side) (out f : List ℕ) (w : World) → Reached w → Reached (delivered t out f w)
  delivered_reached t out [] w h = h
  delivered_reached t out (x ∷ f) w h = called_reached t (record { input = receive (x ∷ f); out = out }) w h

  happens_reached : (t : Side) (out : List ℕ) (a : Act) (w : World) → Reached w → Reached (happens t out a w)
  happens_reached t out ticks w h = called_reached t (record { input = tick; out = out }) w h
  happens_reached t out (reports r) w h = called_reached t (record { input = report r; out = out }) w h
  happens_reached t out (requests q) w h = called_reached t (record { input = request q; out = out }) w h
  happens_reached t out (arrives n) w h = delivered_reached t out (frame_at (other t) n w.past) w h

  runs_reached : (hs : List Happening) (w : World) → Reached w → Reached (run w hs)
  runs_reached [] w h = h
  runs_reached (x ∷ hs) w h = runs_reached hs (happens x.side x.out x.act w) (happens_reached x.side x.out x.act w h)

  pub run_reached : (hs : List Happening) (s : Side) → (cs : List Call) × ((run (begin settings) hs).ends s ≡ after (settings s) cs)
  run_reached hs = runs_reached hs (begin settings) (λ s. ([], refl))
