-- The descriptors of a Variable Request and the containers of a Variable Response, written and read.
use Prim.Native.Nat.{ℕ, ◌+◌, ◌-◌, ◌/◌, ◌%◌, ◌^◌, ◌<◌, ◌≤◌}
use mathlib.Core.Path.{◌≡◌, refl, sym, ap, subst, ◌∙◌}
use mathlib.Core.List.{List, [], ◌++◌, append-nil}
use mathlib.Core.Bool.{true}
use native.Mathlib.Omega.{arith}
use native.Mathlib.Nat.{add-zero}
use borrow.Author.Tests.{ltb-true, ltb-false, leb-true, leb-false, lt-ltb, le-leb, lt-leb, le-ltb, eqb-true, eqb-false, ne_eqb}
use lib.ListN.{length, get_or, take, drop, length-drop, length-append, take-append-drop}
use lib.Seq.{get_or-drop, length-take-le, take_at, drop-drop}
use lib.Dec.{ltb, leb, eqb}
use Rattle.octets.specs.Octets.{Octets, num, oct}
use Rattle.octets.proofs.Bools.{by_cond, and_l, and_r}
use Rattle.octets.proofs.Numbers.{num_one, num_lt, length-oct, past, number_read, number_again}
use Rattle.octets.proofs.Stores.{empty}
use Rattle.frame_tlvs.specs.Walk.{Next, has, met}
use Rattle.frame_tlvs.proofs.Walks.{Rest, Then, turn}
use Rattle.frame_body.specs.Variables.{descriptor_step, width_of, container_from, container_step, value_of, Container, value, indication, descriptor_next, container_next, container_walk}
use Rattle.frame_body.specs.Variables.{DescriptorStep, DescriptorEnd, DescriptorBroken, Has, ContainerStep, End, Broken, Value, Indication, as_container_step, placed_content}
use Rattle.frame_body.specs.declared.Container.{Container as FoundContainer}
use Rattle.frame_body.specs.declared.Content.{Content}
use Rattle.frame_body.specs.declared.Content.TheVariants.{Value as FoundValue, Indication as FoundIndication}
use Rattle.frame_tlvs.specs.declared.Placed.{Placed}
use Rattle.std.specs.Prelude.{Some, Ok}
use Rattle.frame_body.proofs.Wholes.{Contained, container_within}
use Rattle.frame_body.proofs.Places.{container_leads}
use Rattle.octets.specs.Tests.{every}
use Rattle.frame_variables.specs.Descriptors.{plain_descriptor}
use Rattle.frame_variables.specs.Answers.{container_length, containers_length}
use Rattle.frame_writer.specs.Encode.{container_octets, joined}
use Rattle.frame_writer.specs.Plain.{plain_container}
use Rattle.frame_writer.specs.Responses.{containers_of, all_containers}
use Rattle.frame_writer.proofs.Lengths.{length_container, length_containers}
use Rattle.frame_writer.proofs.Walking.{Each, Shown, Codes, walk_again, walk_fits}

-- ---- widths

-- the width of a value comes back from its octet, and a width octet without bit 7 from its width
width_again : (n : ℕ) → 1 ≤ n → n ≤ 128 → width_of (n % 128) ≡ n
width_again n a b = by_cond (λ (x : ℕ). x ≡ n) (eqb (n % 128) 0) (λ t. omega (arith, eqb-true (n % 128) 0 t)) (λ f. omega (arith, eqb-false (n % 128) 0 f))

width_octet_lem : (w : ℕ) → w < 128 → (1 ≤ width_of w) × (width_of w ≤ 128) × (width_of w % 128 ≡ w)
width_octet_lem w h =
    by_cond (λ (x : ℕ). (1 ≤ x) × (x ≤ 128) × (x % 128 ≡ w)) (eqb w 0)
    (λ t. (omega arith, omega arith, sym (eqb-true w 0 t)))
    (λ f. (omega (arith, eqb-false w 0 f), omega arith, omega arith))

-- a container has some octets
container_some : (c : Container) → 0 < container_length c
container_some (value d x) = omega arith
container_some (indication d o) = omega arith

module _ (s : List ℕ) where
  -- ---- descriptors

  abbrev next : ℕ → Next ℕ
  next at = descriptor_next (descriptor_step s at)

  -- the step where a descriptor was written
  step_read : (at d : ℕ) (y : List ℕ) → plain_descriptor d ≡ true → drop at s ≡ oct 3 d ++ y → descriptor_step s at ≡ Has d (at + 3)
  unfolding descriptor_step
  step_read at d y h e =
      let low : leb 65536 d ≡ true = search and_l in
      let high : ltb d (256 ^ 3) ≡ true = search and_r in
      let l = leb-true 65536 d low in
      let u = ltb-true d (256 ^ 3) high in
      let long : length s - at ≡ 3 + length y = sym (length-drop at s) ∙ ap length e ∙ omega arith in
      let first : get_or s (at + 0) 0 ≡ d / 256 / 256 % 256 = sym (get_or-drop at s 0 0) ∙ ap (λ (x : List ℕ). get_or x 0 0) e in
      let branch = rw add-zero at first in
      rw (
        lt-leb (length s) at (omega arith),
        ne_eqb (get_or s at 0) 0 (λ z. omega arith),
        le-ltb (length s - at) 3 (omega arith),
        number_read 3 d s at y u e,
      )

  -- what is read at a step
  shows : Octets s → (at : ℕ) → Each (Shown (oct 3) plain_descriptor s at) ⊥ (next at)
  unfolding descriptor_step
  shows o at =
      let P : DescriptorStep → Type 0 = λ x. Each (Shown (oct 3) plain_descriptor s at) ⊥ (descriptor_next x) in
      by_cond P (leb (length s) at) (λ _. tt) (λ a.
      by_cond P (eqb (get_or s at 0) 0) (λ _. tt) (λ b.
      by_cond P (ltb (length s - at) 3) (λ _. tt) (λ c.
      let branch = eqb-false (get_or s at 0) 0 b in
      let low : 65536 ≤ num 3 s at = rw add-zero (omega arith) in (
        number_again s o 3 at (omega (arith, leb-false, ltb-false)),
        rw (le-leb 65536 (num 3 s at) low, lt-ltb (num 3 s at) (256 ^ 3) (num_lt 3 s at o)),
      ))))

  -- at a 0, or at the list's end, there is none
  ended : (at : ℕ) → get_or s at 0 ≡ 0 → descriptor_step s at ≡ DescriptorEnd
  unfolding descriptor_step
  ended at h = by_cond (λ (x : DescriptorStep). x ≡ DescriptorEnd) (leb (length s) at) (λ _. refl) (λ _. rw h)

  -- descriptors are met where they were written, and stand where they are met; nothing is ever skipped
  pub descriptor_codes : Codes (oct 3) plain_descriptor ⊥ s next
  descriptor_codes =
      record {
        some = λ d _. omega (arith, length-oct 3 d);
        meets = λ at d y h e. ap descriptor_next (step_read at d y h e);
        stops = λ at h. ap descriptor_next (ended at h);
        shows = shows;
      }

  -- ---- containers

  abbrev next_container : ℕ → Next Container
  next_container at = container_next s (container_step s at)

  -- the width octet after a descriptor
  width_read : (at d o : ℕ) (y : List ℕ) → o < 256 → drop at s ≡ oct 3 d ++ (oct 1 o ++ y)
      → (get_or s (at + 3) 0 ≡ o) × (drop (at + 4) s ≡ y) × (length s ≡ at + 4 + length y)
  width_read at d o y h e =
      let after : drop (at + 3) s ≡ oct 1 o ++ y = past s at 3 (oct 3 d) (oct 1 o ++ y) (length-oct 3 d) e in
      let long : length s - at ≡ 4 + length y = sym (length-drop at s) ∙ ap length e ∙ omega arith in
      (sym (num_one s (at + 3)) ∙ number_read 1 o s (at + 3) y h after, past s at 4 (oct 3 d ++ oct 1 o) y refl e, omega arith)

  -- the step where a container was written
  container_read : (at : ℕ) (c : Container) (y : List ℕ) → plain_container c ≡ true → drop at s ≡ container_octets c ++ y
      → next_container at ≡ has c (at + length (container_octets c))
  unfolding container_step
  container_read at (value d x) y h e =
      let descriptor : plain_descriptor d ≡ true = search and_l in
      let some : leb 1 (length x) ≡ true = search (and_l, and_r) in
      let few : leb (length x) 128 ≡ true = search (and_l, and_r) in
      let n = length x in
      let o = n % 128 in
      let r = width_read at d o (x ++ y) (omega arith) e in
      let there = r.2 ∙ ap (λ (k : ℕ). at + 4 + k) (length-append x y) in
      let four : at + 3 + 1 ≡ at + 4 = omega arith in
      let start : at + 4 + n - n ≡ at + 4 = omega arith in
      let step : container_step s at ≡ Value d n (at + 4 + n) =
      ap (container_from s) (step_read at d (oct 1 o ++ (x ++ y)) descriptor e)
      ∙ rw (
        lt-leb (length s) (at + 3) (omega arith),
        r.0,
        lt-leb 128 o (omega arith),
        width_again n (leb-true 1 n some) (leb-true n 128 few),
        four,
        le-ltb (length s - (at + 4)) n (omega arith),
      ) in
      let octets : take n (drop (at + 4 + n - n) s) ≡ x = rw (start, r.1) (take_at x y n refl) in
      let end : at + 4 + n ≡ at + length (container_octets (value d x)) = omega (arith, length_container (value d x)) in
      ap (container_next s) step ∙ (λ i. has (value d (octets i)) (end i))
  container_read at (indication d o) y h e =
      let descriptor : plain_descriptor d ≡ true = search and_l in
      let low : leb 128 o ≡ true = search (and_l, and_r) in
      let high : leb o 255 ≡ true = search (and_l, and_r) in
      let r = width_read at d o y (omega (arith, leb-true o 255 high)) e in
      let end : at + 3 + 1 ≡ at + length (container_octets (indication d o)) = omega (arith, length_container (indication d o)) in
      let step : container_step s at ≡ Indication d o (at + 3 + 1) =
      ap (container_from s) (step_read at d (oct 1 o ++ y) descriptor e) ∙ rw (lt-leb (length s) (at + 3) (omega (arith, r.2)), r.0, low) in
      ap (container_next s) step ∙ (λ i. has (indication d o) (end i))

  -- what is read at a step
  contains : Octets s → (at : ℕ) (x : DescriptorStep) → Each (Shown (oct 3) plain_descriptor s at) ⊥ (descriptor_next x)
      → Each (Shown container_octets plain_container s at) ⊥ (container_next s (container_from s x))
  contains o at DescriptorEnd h = tt
  contains o at DescriptorBroken h = tt
  contains o at (Has d from) h =
      let P : ContainerStep → Type 0 = λ x. Each (Shown container_octets plain_container s at) ⊥ (container_next s x) in
      let w = get_or s from 0 in
      let k = width_of w in
      by_cond P (leb (length s) from) (λ _. tt) (λ a.
      let width : drop from s ≡ oct 1 w ++ drop (from + 1) s =
      number_again s o 1 from (omega (arith, leb-false (length s) from a)) ∙ ap (λ (n : ℕ). oct 1 n ++ drop (from + 1) s) (num_one s from) in
      by_cond P (leb 128 w)
      (λ t. (h.0 ∙ ap (λ (y : List ℕ). oct 3 d ++ y) width, rw (h.1, t, le-leb w 255 (omega (arith, o from)))))
      (λ f.
      by_cond P (ltb (length s - (from + 1)) k) (λ _. tt) (λ b.
      let v = value_of s (Value d k (from + 1 + k)) in
      let r = width_octet_lem w (leb-false 128 w f) in
      let start : from + 1 + k - k ≡ from + 1 = omega arith in
      let long : length v ≡ k = rw start (length-take-le k (drop (from + 1) s) (omega (arith, length-drop (from + 1) s, ltb-false (length s - (from + 1)) k b))) in
      let octet : length v % 128 ≡ w = ap (λ (n : ℕ). n % 128) long ∙ r.2 in
      let octets : drop (from + 1) s ≡ v ++ drop (from + 1 + k) s =
      rw start (sym (take-append-drop k (drop (from + 1) s)) ∙ ap (λ (y : List ℕ). take k (drop (from + 1) s) ++ y) (drop-drop k (from + 1) s)) in (
        h.0 ∙ ap (λ (y : List ℕ). oct 3 d ++ y) (width ∙ λ i. oct 1 (sym octet i) ++ octets i),
        rw (h.1, long, le-leb 1 k r.0, le-leb k 128 r.1),
      ))))

  -- containers are met where they were written, and stand where they are met; nothing is ever skipped
  pub container_codes : Codes container_octets plain_container ⊥ s next_container
  unfolding container_step
  container_codes =
      record {
        some = λ c _. omega (arith, length_container c, container_some c);
        meets = container_read;
        stops = λ at h. ap (λ (x : DescriptorStep). container_next s (container_from s x)) (ended at h);
        shows = λ o at. contains o at (descriptor_step s at) (shows o at);
      }

  module _ (o : Octets s) where
    -- the containers that stand in some octets are in plain form
    pub containers_fit : every plain_container (containers_of s) ≡ true
    unfolding container_walk
    containers_fit = walk_fits container_codes o

    -- octets that are all containers are those of the containers
    pub containers_are : all_containers s ≡ true → joined container_octets (containers_of s) ≡ s
    unfolding container_walk all_containers
    containers_are h =
        let cs = containers_of s in
        let r = walk_again container_codes o (λ z. absurd z) in
        let none : r.0 ≡ [] =
        empty r.0 (omega (arith, ap length r.1, length-append (joined container_octets cs) r.0, length_containers cs, eqb-true (containers_length cs) (length s) h)) in
        sym (r.1 ∙ ap (λ (y : List ℕ). joined container_octets cs ++ y) none ∙ append-nil (joined container_octets cs))

-- ---- the octets of the containers, as a loop counts them that takes their steps

-- what holds at octet `at`: so many octets, and those of the containers from there on, are those of all
abbrev pub Measured : List ℕ → ℕ → Type 0
Measured s at = Rest (λ n. container_next s (container_step s n)) (length s) (containers_length (containers_of s)) (λ w. at + containers_length (met w)) at

-- what then is known by the step that is taken there
abbrev pub Measures : List ℕ → ℕ → ContainerStep → Type 0
Measures s at End = at ≡ containers_length (containers_of s)
Measures s at Broken = at ≡ containers_length (containers_of s)
Measures s at (Value d w n) = (at < n) × (n ≤ length s) × Measured s n
Measures s at (Indication d o n) = (at < n) × (n ≤ length s) × Measured s n

module _ (s : List ℕ) where
  pub measured_none : Measured s 0
  unfolding container_walk
  measured_none = (length s, omega arith, omega arith)

  measure : (at : ℕ) (x : ContainerStep) → Contained at (length s) x
      → Then (λ n. container_next s (container_step s n)) (length s) (containers_length (containers_of s)) (λ w. at + containers_length (met w)) (container_next s x)
      → Measures s at x
  measure at End h t = omega arith
  measure at Broken h t = omega arith
  measure at (Value d w n) h (f, g, e) =
      let start : n - w ≡ at + 4 = omega arith in
      let long : length (take w (drop (n - w) s)) ≡ w = length-take-le w (drop (n - w) s) (omega (arith, length-drop (n - w) s)) in
      (omega arith, h.1, (f, g, omega arith))
  measure at (Indication d o n) h (f, g, e) = (omega arith, h.1, (f, g, omega arith))

  -- one turn of the loop: what is told by the step that is taken there
  pub measured_on : (at : ℕ) {x : ContainerStep} → Measured s at → x ≡ container_step s at → Measures s at x
  measured_on at h e =
      subst (Measures s at) (sym e)
      (measure at (container_step s at) (container_within s at)
      (turn (λ n. container_next s (container_step s n)) (length s) (container_leads s) (containers_length (containers_of s)) (λ w. at + containers_length (met w)) at h))

  -- and by a container that is met there, be it a value or an indication
  pub measured_past : (at : ℕ) (p : Placed FoundContainer) → Measured s at → as_container_step (Some (Ok p)) ≡ container_step s at
      → (at < p.end) × (p.end ≤ length s) × Measured s p.end
  measured_past at p h e = by p.part.content (measured_on at h e)
    where
      by : (content : Content) → Measures s at (placed_content p.part.descriptor content p.end) → (at < p.end) × (p.end ≤ length s) × Measured s p.end
      by (FoundValue width) m = m
      by (FoundIndication octet) m = m
