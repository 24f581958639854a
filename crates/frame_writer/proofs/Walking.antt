-- Walks over parts, whatever the parts are: parts that were written one after another are met, and parts that were met are
-- written again.
use Prim.Native.Nat.{ℕ, zero, suc, ◌+◌, ◌<◌, ◌≤◌}
use mathlib.Core.Path.{◌≡◌, refl, sym, ap, ◌∙◌}
use mathlib.Core.List.{List, [], ◌∷◌, ◌++◌, append_assoc}
use mathlib.Core.Bool.{Bool, true}
use native.Mathlib.Omega.{arith}
use native.Mathlib.Nat.{add-zero}
use lib.ListN.{length, get_or, drop, replicate, length-append}
use lib.Seq.{get_or-drop}
use Rattle.frame_tlvs.specs.Walk.{Next, stop, broken, skip, has, Walk, ends, part, on_next, walk, met, skipped_in}
use Rattle.octets.specs.Octets.{Octets}
use Rattle.octets.specs.Tests.{every}
use Rattle.frame_writer.specs.Encode.{joined}
use Rattle.octets.proofs.Bools.{and_l, and_r}
use Rattle.octets.proofs.Numbers.{past}

-- what is told of a part that is met, with the octet after it, and what is known where something is skipped
abbrev pub Each : {P : Type 0} → (P → ℕ → Type 0) → Type 0 → Next P → Type 0
Each told skipped stop = Unit
Each told skipped broken = Unit
Each told skipped (skip n) = skipped
Each told skipped (has p n) = told p n

-- a part that is met at an octet: its octets stand there, and it passes a test
abbrev pub Shown : {P : Type 0} → (P → List ℕ) → (P → Bool) → List ℕ → ℕ → P → ℕ → Type 0
Shown octets test s at p n = (drop at s ≡ octets p ++ drop n s) × (test p ≡ true)

-- How a kind of parts, those that pass a test, stands in a list: where the octets of one stand it is met, at a 0 or at the
-- list's end the walk stops, and where one is met its octets stand.
pub record Codes {P : Type 0} (octets : P → List ℕ) (test : P → Bool) (skipped : Type 0) (s : List ℕ) (next : ℕ → Next P) : Type 0 where
  pub some : (p : P) → test p ≡ true → 0 < length (octets p)
  pub meets : (at : ℕ) (p : P) (y : List ℕ) → test p ≡ true → drop at s ≡ octets p ++ y → next at ≡ has p (at + length (octets p))
  pub stops : (at : ℕ) → get_or s at 0 ≡ 0 → next at ≡ stop
  pub shows : Octets s → (at : ℕ) → Each (Shown octets test s at) skipped (next at)

-- the walk that meets some parts and then ends
abbrev pub these : {P : Type 0} → List P → Walk P
these [] = ends
these (p ∷ ps) = part p (these ps)

-- nothing is skipped on such a walk
pub these_known : {P : Type 0} (ps : List P) → skipped_in (these ps) ≡ 0
these_known [] = refl
these_known (p ∷ ps) = these_known ps

-- a list begins with x
abbrev pub Begins : List ℕ → List ℕ → Type 0
Begins s x = (z : List ℕ) × (s ≡ x ++ z)

-- after the parts 0 is read, of the padding or past the end
first_zero : (n : ℕ) → ◌≡◌ {A = ℕ} (get_or (replicate n 0) 0 0) 0
first_zero zero = refl
first_zero (suc n) = refl

-- every part met on a walk passes a test that each step's part passes
module _ {P : Type 0} (next : ℕ → Next P) (told : ℕ → P → ℕ → Type 0) (skipped : Type 0) (each : (at : ℕ) → Each (told at) skipped (next at))
    (test : P → Bool) (passes : (at : ℕ) (p : P) (n : ℕ) → told at p n → test p ≡ true) where
  -- one step
  further : (at : ℕ) (go : ℕ → Walk P) → ((n : ℕ) → every test (met (go n)) ≡ true) → (x : Next P) → Each (told at) skipped x
      → every test (met (on_next x go)) ≡ true
  further at go h stop e = refl
  further at go h broken e = refl
  further at go h (skip n) e = h n
  further at go h (has p n) e = rw (passes at p n e, h n)

  -- from any octet on
  pub walk_passes : (steps at : ℕ) → every test (met (walk next steps at)) ≡ true
  unfolding walk
  walk_passes zero at = refl
  walk_passes (suc steps) at = further at (λ n. walk next steps n) (λ n. walk_passes steps n) (next at) (each at)

module _ {P : Type 0} {octets : P → List ℕ} {test : P → Bool} {skipped : Type 0} {s : List ℕ} {next : ℕ → Next P} (codes : Codes octets test skipped s next) where
  -- ---- what was written is read

  -- there are no more parts than octets
  few : (ps : List P) → every test ps ≡ true → length ps ≤ length (joined octets ps)
  few [] t = omega arith
  few (p ∷ ps) t =
      let a : test p ≡ true = search and_l in
      let b : every test ps ≡ true = search and_r in
      omega (arith, length-append (octets p) (joined octets ps), codes.some p a, few ps b)

  -- the walk from an octet where the parts that are left stand
  from : (padding steps at : ℕ) (ps : List P) → every test ps ≡ true → length ps ≤ steps → drop at s ≡ joined octets ps ++ replicate padding 0
      → walk next steps at ≡ these ps
  unfolding walk
  from padding zero at [] t l h = refl
  from padding zero at (p ∷ ps) t l h = absurd (omega arith)
  from padding (suc steps) at [] t l h =
      let first : get_or s (at + 0) 0 ≡ 0 = sym (get_or-drop at s 0 0) ∙ ap (λ (x : List ℕ). get_or x 0 0) h ∙ first_zero padding in
      rw (codes.stops at (rw add-zero at first))
  from padding (suc steps) at (p ∷ ps) t l h =
      let a : test p ≡ true = search and_l in
      let b : every test ps ≡ true = search and_r in
      let y = joined octets ps ++ replicate padding 0 in
      let h' = h ∙ append_assoc (octets p) (joined octets ps) (replicate padding 0) in
      rw (codes.meets at p y a h')
      (ap (part p) (from padding steps (at + length (octets p)) ps b (omega arith) (past s at (length (octets p)) (octets p) y refl h')))

  -- the octets of parts, with padding or nothing after them, are walked over as those parts
  pub walk_read : (ps : List P) (padding : ℕ) → every test ps ≡ true → s ≡ joined octets ps ++ replicate padding 0 → walk next (length s) 0 ≡ these ps
  walk_read ps padding t h =
      from padding (length s) 0 ps t (omega (arith, few ps t, length-append (joined octets ps) (replicate padding 0), ap length h)) h

  -- ---- what is read is written again

  module _ (o : Octets s) where
    -- what was met from an octet on, with nothing skipped, stands there
    abbrev Stand : ℕ → Walk P → Type 0
    Stand at w = (skipped → skipped_in w ≡ 0) → Begins (drop at s) (joined octets (met w))

    -- one step
    onward : (at : ℕ) (go : ℕ → Walk P) → ((n : ℕ) → Stand n (go n)) → (x : Next P) → Each (Shown octets test s at) skipped x → Stand at (on_next x go)
    onward at go h stop e k = (drop at s, refl)
    onward at go h broken e k = (drop at s, refl)
    onward at go h (skip n) e k = let none = k e in absurd (omega arith)
    onward at go h (has p n) e k =
        let r = h n k in
        (r.0, e.0 ∙ ap (λ (x : List ℕ). octets p ++ x) r.1 ∙ sym (append_assoc (octets p) (joined octets (met (go n))) r.0))

    -- from any octet on
    stand : (steps at : ℕ) → Stand at (walk next steps at)
    unfolding walk
    stand zero at k = (drop at s, refl)
    stand (suc steps) at k = onward at (λ n. walk next steps n) (λ n. stand steps n) (next at) (codes.shows o at) k

    -- the parts that were met, with nothing skipped, stand one after another
    pub walk_again : (skipped → skipped_in (walk next (length s) 0) ≡ 0) → Begins s (joined octets (met (walk next (length s) 0)))
    walk_again k = stand (length s) 0 k

    -- they pass the test
    pub walk_fits : every test (met (walk next (length s) 0)) ≡ true
    walk_fits = walk_passes next (Shown octets test s) skipped (codes.shows o) test (λ at p n h. h.1) (length s) 0
