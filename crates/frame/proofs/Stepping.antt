-- What the answer to a frame says, by the frame's octets: one of the numbers 1 to 8, or the header that stands there and
-- exactly the parts that a caller meets who takes the steps of the body from its start.
use Prim.Native.Nat.{ℕ, ◌≤◌}
use mathlib.Core.Path.{◌≡◌, refl, ap, subst}
use mathlib.Core.List.{List, ◌∷◌}
use mathlib.Core.Bool.{Bool, true, false, not, ◌||◌}
use native.Mathlib.Omega.{arith}
use borrow.Author.Tests.{eqb-true, eqb-false}
use lib.ListN.{length, get_or, drop}
use lib.Dec.{ltb, eqb}
use Rattle.octets.specs.Octets.{num}
use Rattle.octets.specs.Layout.{shortest_frame, longest_frame, destination, length_type, subtype, body_start, events_start, data_start}
use Rattle.frame_tlvs.specs.Walk.{Walk, ends, breaks, over, part, met, Parsed, refused as unread, parts, also, listed, skipped_in}
use Rattle.frame_body.specs.Information.{information_walk, information_parts}
use Rattle.frame_body.specs.declared.InformationPart.{InformationPart}
use Rattle.frame_body.specs.declared.InformationPart.TheVariants.{Local as local, Remote as remote}
use Rattle.frame_tlvs.specs.Events.{event_walk}
use Rattle.frame_body.specs.Variables.{descriptor_walk, container_walk}
use Rattle.frame.specs.Frame.{Body, Message, code_of, Answer, refused, accepted, information, notification, request, response, loopback, organization, says, says_all, header_answer, body_answer, decode}
use Rattle.frame.specs.Steps.{Stepped, skipped_by}
use Rattle.octets.proofs.Bools.{by_cond}

-- the number of a frame's refusal
abbrev Given : ℕ → Type 0
Given n = (1 ≤ n) × (n ≤ 8)

-- what is made of the parts that were met: such a number, or just those
abbrev Parses : {P : Type 0} → List P → Parsed P → Type 0
Parses met (unread n) = Given n
Parses met (parts ps) = ps ≡ met

parses_also : {P : Type 0} (p : P) (met : List P) (x : Parsed P) → Parses met x → Parses (p ∷ met) (also p x)
parses_also p met (unread n) h = h
parses_also p met (parts ps) h = ap (λ qs. p ∷ qs) h

parses_listed : {P : Type 0} (w : Walk P) → Parses (met w) (listed w)
parses_listed ends = refl
parses_listed breaks = (omega arith, omega arith)
parses_listed (over w) = parses_listed w
parses_listed (part p w) = parses_also p (met w) (listed w) (parses_listed w)

parses_information : (l r : Bool) (w : Walk InformationPart) → Parses (met w) (information_parts l r w)
parses_information l r ends = refl
parses_information l r breaks = (omega arith, omega arith)
parses_information l r (over w) = parses_information l r w
parses_information true r (part (local i) w) = (omega arith, omega arith)
parses_information false r (part (local i) w) = parses_also (local i) (met w) (information_parts true r w) (parses_information true r w)
parses_information l true (part (remote i) w) = (omega arith, omega arith)
parses_information l false (part (remote i) w) = parses_also (remote i) (met w) (information_parts l true w) (parses_information l true w)

-- a message that is shown: what stands in the header, which passed its tests, and the parts that the steps give
pub record Shown (f : List ℕ) (m : Message) : Type 0 where
  pub passed : header_answer f ≡ 0
  pub source : num 6 f 6 ≡ m.source
  pub flags : num 2 f 15 ≡ m.flags
  pub code : get_or f 17 0 ≡ code_of m.body
  pub body : Stepped f m.body
  pub skipped : m.skipped ≡ skipped_by f m.body

module _ (f : List ℕ) where
  abbrev Tells : Answer → Type 0
  Tells (refused n) = Given n
  Tells (accepted m) = Shown f m

  header_tells : (header_answer f ≡ 0 → ⊥) → Given (header_answer f)
  unfolding header_answer
  header_tells =
      let P : ℕ → Type 0 = λ (n : ℕ). (n ≡ 0 → ⊥) → Given n in
      by_cond P (ltb (length f) shortest_frame || ltb longest_frame (length f)) (λ _ _. (omega arith, omega arith)) (λ _.
      by_cond P (not (eqb (num 6 f 0) destination)) (λ _ _. (omega arith, omega arith)) (λ _.
      by_cond P (not (eqb (num 2 f 12) length_type)) (λ _ _. (omega arith, omega arith)) (λ _.
      by_cond P (not (eqb (get_or f 14 0) subtype)) (λ _ _. (omega arith, omega arith)) (λ _ z. absurd (z refl)))))

  module _ (h : header_answer f ≡ 0) where
    tells : (skipped : ℕ) (b : Body) → eqb (get_or f 17 0) (code_of b) ≡ true → Stepped f b → skipped ≡ skipped_by f b → Tells (says f skipped b)
    tells skipped b t s k =
        record { passed = h; source = refl; flags = refl; code = eqb-true (get_or f 17 0) (code_of b) t; body = s; skipped = k }

    tells_all : {P : Type 0} (skipped : ℕ) (make : List P → Body) (w : Walk P) (x : Parsed P) → Parses (met w) x
        → ((ps : List P) → eqb (get_or f 17 0) (code_of (make ps)) ≡ true) → ((ps : List P) → ps ≡ met w → Stepped f (make ps))
        → ((ps : List P) → skipped ≡ skipped_by f (make ps)) → Tells (says_all f skipped make x)
    tells_all skipped make w (unread n) p t s k = p
    tells_all skipped make w (parts ps) p t s k = tells skipped (make ps) (t ps) (s ps p) (k ps)

    body_tells : Tells (body_answer f (get_or f 17 0))
    unfolding body_answer
    body_tells =
        let code = get_or f 17 0 in
        let command = get_or f body_start 0 in
        let i = information_walk (drop body_start f) in
        let e = event_walk (drop events_start f) in
        let d = descriptor_walk (drop body_start f) in
        let c = container_walk (drop body_start f) in
        by_cond Tells (eqb code 0) (λ t. tells_all (skipped_in i) information i (information_parts false false i) (parses_information false false i) (λ _. t) (λ _ s. s) (λ _. refl)) (λ _.
        by_cond Tells (eqb code 1) (λ t. tells_all (skipped_in e) (notification (num 2 f body_start)) e (listed e) (parses_listed e) (λ _. t) (λ _ s. (refl, s)) (λ _. refl)) (λ _.
        by_cond Tells (eqb code 2) (λ t. tells_all 0 request d (listed d) (parses_listed d) (λ _. t) (λ _ s. s) (λ _. refl)) (λ _.
        by_cond Tells (eqb code 3) (λ t. tells_all 0 response c (listed c) (parses_listed c) (λ _. t) (λ _ s. s) (λ _. refl)) (λ _.
        by_cond Tells (eqb code 4) (λ t. by_cond Tells (eqb command 1 || eqb command 2) (λ _. tells 0 (loopback command) t refl refl) (λ _. (omega arith, omega arith))) (λ _.
        by_cond Tells (eqb code 0xfe) (λ t. tells 0 (organization (num 3 f body_start) (drop data_start f)) t (refl, refl) refl) (λ _. (omega arith, omega arith)))))))

  answer_tells : Tells (decode f)
  unfolding decode
  answer_tells =
      by_cond Tells (eqb (header_answer f) 0) (λ h. body_tells (eqb-true (header_answer f) 0 h)) (λ h. header_tells (eqb-false (header_answer f) 0 h))

  pub shown : (m : Message) → decode f ≡ accepted m → Shown f m
  shown m e = subst Tells e answer_tells

  -- taking the steps of a body from its start gives exactly the parts of the message that the frame says
  pub steps_give_parts : (m : Message) → decode f ≡ accepted m → Stepped f m.body
  steps_give_parts m e = (shown m e).body

  -- a message tells how many TLVs the walk over its body skips, 0 where it has none
  pub decode_counts : (m : Message) → decode f ≡ accepted m → m.skipped ≡ skipped_by f m.body
  decode_counts m e = (shown m e).skipped

  -- a refused frame is answered one of the paper's numbers 1 to 8
  pub refused_number : (n : ℕ) → decode f ≡ refused n → (1 ≤ n) × (n ≤ 8)
  refused_number n e = subst Tells e answer_tells
