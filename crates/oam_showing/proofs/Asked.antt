-- The descriptors of a Variable Request one after another: what stands at an octet of its body, and what is left from there on; and
-- what is shown of a frame by its judgement and its code.
use Prim.Native.Nat.{ℕ, zero, suc, ◌+◌, ◌-◌, ◌*◌, ◌<◌, ◌≤◌}
use mathlib.Core.Path.{◌≡◌, refl, sym, ap, ◌∙◌}
use mathlib.Core.Bool.{true, false, cond}
use mathlib.Core.List.{List, [], ◌∷◌}
use native.Mathlib.Numerals.{add-one}
use native.Mathlib.Omega.{arith}
use borrow.Author.Tests.{ltb-true, ltb-false, lt-ltb, le-ltb, lt-leb, eqb-true}
use lib.Dec.{ltb, leb, eqb}
use lib.ListN.{length, get_or, set, drop}
use lib.Seq.{sets}
use Rattle.octets.specs.Octets.{num}
use Rattle.octets.specs.Layout.{body_start}
use Rattle.octets.proofs.Bools.{whether}
use Rattle.frame_tlvs.specs.Walk.{Next, Walk, on_next, walk, met}
use Rattle.frame_body.specs.Variables.{descriptor_step, descriptor_next, descriptor_walk}
use Rattle.frame_body.specs.Variables.{DescriptorStep}
use Rattle.frame_body.specs.Variables.{DescriptorEnd as End, DescriptorBroken as Broken, Has}
use Rattle.frame_body.proofs.Wholes.{Described, descriptor_within}
use Rattle.frame_body.proofs.Places.{unrolled}
use Rattle.frame.specs.Frame.{Body, information, notification, request, response, loopback, organization, code_of, judgement_of}
use Rattle.frame.specs.Steps.{Stepped}
use Rattle.frame.specs.Judgement.{Refused, Accepted}
use Rattle.frame.proofs.Stepping.{shown}
use Rattle.frame.proofs.Judging.{judged_refused, judged_accepted}
use Rattle.oam_showing.specs.Showing.{Shown, shows}
use Rattle.oam_showing.specs.Asking.{descriptors_of, descriptors_answer, descriptors_shown, descriptors_in}
use Rattle.oam_showing.proofs.ReadAll.{message_length}

module _ (s : List ℕ) where
  abbrev next : ℕ → Next ℕ
  next at = descriptor_next (descriptor_step s at)

  -- the descriptors of a body from octet `at` on
  abbrev pub asked : ℕ → List ℕ
  asked at = met (walk next (length s) at)

  pub all_asked : descriptors_in s ≡ asked 0
  unfolding descriptor_walk
  all_asked = refl

  -- each has three octets of the body
  three_onward : (at : ℕ) (go : ℕ → Walk ℕ) → ((n : ℕ) → n ≤ length s → n + 3 * length (met (go n)) ≤ length s) → at ≤ length s
      → (x : DescriptorStep) → Described at (length s) x → at + 3 * length (met (on_next (descriptor_next x) go)) ≤ length s
  three_onward at go h k End w = omega (arith, k)
  three_onward at go h k Broken w = omega (arith, k)
  three_onward at go h k (Has d n) w = omega (arith, w.0, h n w.1)

  three_each : (steps at : ℕ) → at ≤ length s → at + 3 * length (met (walk next steps at)) ≤ length s
  unfolding walk
  three_each zero at k = omega (arith, k)
  three_each (suc steps) at k = three_onward at (λ n. walk next steps n) (λ n. three_each steps n) k (descriptor_step s at) (descriptor_within s at)

  pub room_asked : 3 * length (descriptors_in s) ≤ length s
  room_asked = omega (arith, ap length all_asked, three_each (length s) 0 (omega arith))

  module _ (at : ℕ) where
    onward : asked at ≡ met (on_next (next at) (λ n. walk next (length s) n))
    onward = ap met ((unrolled s).descriptors at)

    -- where a branch is 0, or fewer than three octets are left, no more follow
    pub none_asked : get_or s at 0 ≡ 0 → asked at ≡ []
    unfolding descriptor_step
    none_asked z = onward ∙ whether (leb (length s) at) (λ a. rw a) (λ a. rw (a, z))

    pub past_asked : length s ≤ at + 2 → asked at ≡ []
    unfolding descriptor_step
    past_asked h =
        let t : ltb (length s - at) 3 ≡ true = lt-ltb (length s - at) 3 (omega (arith, h)) in
        onward ∙ whether (leb (length s) at) (λ a. rw a) (λ a. whether (eqb (get_or s at 0) 0) (λ b. rw (a, b)) (λ b. rw (a, b, t)))

    -- else there is one, and then those after it
    pub next_asked : at + 2 < length s → eqb (get_or s at 0) 0 ≡ false → asked at ≡ num 3 s at ∷ asked (at + 3)
    unfolding descriptor_step
    next_asked h b =
        let a : leb (length s) at ≡ false = lt-leb (length s) at (omega (arith, h)) in
        let t : ltb (length s - at) 3 ≡ false = le-ltb (length s - at) 3 (omega (arith, h)) in
        onward ∙ rw (a, b, t)

    -- where some are left, one stands there
    pub one_asked : 0 < length (asked at) → (at + 2 < length s) × (asked at ≡ num 3 s at ∷ asked (at + 3))
    one_asked k =
        whether (ltb (at + 2) (length s))
        (λ t. let h = ltb-true (at + 2) (length s) t in (h, whether (eqb (get_or s at 0) 0) (λ z. nothing (none_asked (eqb-true (get_or s at 0) 0 z))) (λ b. next_asked h b)))
        (λ f. nothing (past_asked (ltb-false (at + 2) (length s) f)))
      where
        nothing : {A : Type 0} → asked at ≡ [] → A
        nothing e = let z : length (asked at) ≡ 0 = ap length e in absurd (omega (arith, k, z))

    -- it is stored, and then those after it
    pub store_asked : (lent : List ℕ) (i : ℕ) → 0 < length (asked at) → sets lent i (asked at) ≡ sets (set lent i (num 3 s at)) (i + 1) (asked (at + 3))
    store_asked lent i k = rw (add-one i) (ap (sets lent i) (one_asked k).1)

-- ---- what is shown of a frame, by its judgement

module _ (f : List ℕ) (room : ℕ) where
  pub asking_refused : (n : ℕ) → judgement_of f ≡ Refused n → descriptors_shown f room ≡ shows n []
  unfolding descriptors_shown
  asking_refused n j = ap (descriptors_answer room) (judged_refused f n j)

  -- of an accepted one the descriptors that stand in its body, where its code is 2
  abbrev pub by_code : ℕ → Shown
  by_code code = cond (eqb code 2) (descriptors_of room (request (descriptors_in (drop body_start f)))) (shows 10 [])

  by_body : (b : Body) → Stepped f b → descriptors_of room b ≡ by_code (code_of b)
  by_body (information ps) h = refl
  by_body (notification n es) h = refl
  by_body (request ds) h = ap (λ (xs : List ℕ). descriptors_of room (request xs)) h
  by_body (response cs) h = refl
  by_body (loopback n) h = refl
  by_body (organization oui x) h = refl

  pub asking_accepted : (at skipped : ℕ) → judgement_of f ≡ Accepted at skipped → descriptors_shown f room ≡ by_code (get_or f 17 0)
  unfolding descriptors_shown
  asking_accepted at skipped j =
      let (m, is) = judged_accepted f at skipped j in
      let s = shown f m is.decoded in
      ap (descriptors_answer room) is.decoded ∙ by_body m.body s.body ∙ ap by_code (sym s.code)

-- an accepted frame's length
pub judged_length : (f : List ℕ) (at skipped : ℕ) → judgement_of f ≡ Accepted at skipped → (60 ≤ length f) × (length f ≤ 1514)
judged_length f at skipped j = let is = judged_accepted f at skipped j in message_length f is.0 is.1.decoded
