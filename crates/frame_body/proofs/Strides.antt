-- Laws of the loops over a list of descriptors or containers: what holds at each turn, and what a turn comes to. They are taken by
-- strides: a part that is cut off shows by the octet after it, which lies past the body's end.
use Prim.Native.Nat.{ℕ, zero, suc, ◌+◌, ◌-◌, ◌*◌, ◌<◌, ◌≤◌}
use mathlib.Core.Path.{◌≡◌, refl, sym, ap, subst, ◌∙◌}
use mathlib.Core.Bool.{Bool, true, false, cond}
use mathlib.Core.List.{List, []}
use Rattle.std.proofs.Common.{drop, ◌/◌}
use Rattle.std.specs.Simd.{first_chunks}
use Rattle.std.proofs.lemmas.List.{get_or-take, get_or-drop}
use mathlib.Core.Logic.{◌⊎◌, inl, inr}
use native.Mathlib.Omega.{arith}
use borrow.Author.Tests.{ltb-true, eqb-true, leb-true, leb-false, lt-ltb, le-ltb, le-leb, lt-leb, eq-eqb}
use lib.ListN.{length, get_or}
use lib.Dec.{ltb, leb, eqb}
use Rattle.octets.specs.Octets.{num}
use Rattle.octets.proofs.Bools.{whether, by_cond}
use Rattle.frame_tlvs.specs.Walk.{Next, stop, broken, has, whole}
use Rattle.frame_tlvs.proofs.Walks.{Ahead, Rest, Then, Leads, turn}
use Rattle.frame_body.specs.Variables.{Container, descriptor_step, descriptor_next, descriptor_walk, width_of, value_octets, container_from, container_step, container_next, container_walk}
use Rattle.frame_body.specs.Lists.{whole_list}
use Rattle.frame_body.specs.Variables.{DescriptorStep}
use Rattle.frame_body.specs.Variables.{DescriptorEnd, DescriptorBroken, Has}
use Rattle.frame_body.specs.Variables.{Broken, Value, Indication}
use Rattle.frame_body.specs.Lists.{ListKind}
use Rattle.frame_body.specs.Lists.{Descriptors, Containers}
use Rattle.frame_body.proofs.Places.{descriptor_leads, container_leads}

-- the parts of each kind of list, and what stands at an octet as a step of the walk over them
abbrev Part : ListKind → Type 0
Part Descriptors = ℕ
Part Containers = Container

abbrev next : (list : ListKind) → List ℕ → ℕ → Next (Part list)
next Descriptors s at = descriptor_next (descriptor_step s at)
next Containers s at = container_next s (container_step s at)

leads : (list : ListKind) (s : List ℕ) → Leads (λ at. next list s at) (length s)
leads Descriptors s = descriptor_leads s
leads Containers s = container_leads s

-- what holds at each turn of a loop, and what one turn comes to
abbrev Going : ListKind → List ℕ → ℕ → Type 0
Going list s at = Rest (λ n. next list s n) (length s) (whole_list list s) whole at

abbrev Gone : (list : ListKind) → List ℕ → ℕ → Next (Part list) → Type 0
Gone list s at x = Then (λ n. next list s n) (length s) (whole_list list s) whole x × Ahead at (length s) x

start : (list : ListKind) (s : List ℕ) → Going list s 0
unfolding descriptor_walk container_walk
start Descriptors s = (length s, omega arith, refl)
start Containers s = (length s, omega arith, refl)

-- where a stride comes to: the walk goes on there, or a part was cut off
abbrev pub Strode : ListKind → List ℕ → ℕ → Type 0
Strode list s at = ((at ≤ length s) × Going list s at) ⊎ ((length s < at) × (whole_list list s ≡ false))

module _ (list : ListKind) (s : List ℕ) where
  one_turn : (at : ℕ) → Going list s at → Gone list s at (next list s at)
  one_turn at h = (turn (λ n. next list s n) (length s) (leads list s) (whole_list list s) whole at h, (leads list s).ahead at)

  pub begun : Strode list s 0
  begun = inl (omega arith, start list s)

  going : (at : ℕ) → Strode list s at → at < length s → Going list s at
  going at (inl w) h = w.1
  going at (inr w) h = absurd (omega arith)

  -- where a stride ends the list, breaks it or leads on
  ending : (at : ℕ) → Going list s at → next list s at ≡ stop → true ≡ whole_list list s
  ending at g e = (subst (Gone list s at) e (one_turn at g)).0

  breaking : (at : ℕ) → Going list s at → next list s at ≡ broken → false ≡ whole_list list s
  breaking at g e = (subst (Gone list s at) e (one_turn at g)).0

  leading : (at n : ℕ) (p : Part list) → Going list s at → next list s at ≡ has p n → Strode list s n
  leading at n p g e = let w : Gone list s at (has p n) = subst (Gone list s at) e (one_turn at g) in inl (w.1.1, w.0)

  passing : (at n : ℕ) → Going list s at → next list s at ≡ broken → length s < n → Strode list s n
  passing at n g e h = inr (h, sym (breaking at g e))

  -- the body's end is reached, or passed
  pub arrived : (at : ℕ) → Strode list s at → length s ≤ at → leb at (length s) ≡ whole_list list s
  arrived at (inl w) h = le-leb at (length s) w.0 ∙ ending at w.1 ((leads list s).end at h)
  arrived at (inr w) h = lt-leb at (length s) w.0 ∙ sym w.1

module _ (s : List ℕ) (at : ℕ) where
  -- ---- descriptors

  pub no_branch : at < length s → get_or s at 0 ≡ 0 → descriptor_step s at ≡ DescriptorEnd
  unfolding descriptor_step
  no_branch h z = simp (lt-leb _ _ h, eq-eqb _ _ z)

  cut_descriptor : at < length s → eqb (get_or s at 0) 0 ≡ false → length s < at + 3 → descriptor_step s at ≡ DescriptorBroken
  unfolding descriptor_step
  cut_descriptor h b k =
      let t : ltb (length s - at) 3 ≡ true = lt-ltb (length s - at) 3 (omega arith) in
      simp (lt-leb _ _ h, b, t)

  full_descriptor : eqb (get_or s at 0) 0 ≡ false → at + 3 ≤ length s → descriptor_step s at ≡ Has (num 3 s at) (at + 3)
  unfolding descriptor_step
  full_descriptor b k =
      let h : leb (length s) at ≡ false = lt-leb (length s) at (omega arith) in
      let t : ltb (length s - at) 3 ≡ false = le-ltb (length s - at) 3 (omega arith) in
      simp (h, b, t)

  pub descriptors_end : Strode Descriptors s at → at < length s → get_or s at 0 ≡ 0 → true ≡ whole_list Descriptors s
  descriptors_end w h z = ending Descriptors s at (going Descriptors s at w h) (ap descriptor_next (no_branch h z))

  pub descriptor_stride : Strode Descriptors s at → at < length s → eqb (get_or s at 0) 0 ≡ false → Strode Descriptors s (at + 3)
  descriptor_stride w h b =
      let g = going Descriptors s at w h in
      whether (leb (at + 3) (length s))
      (λ t. leading Descriptors s at (at + 3) (num 3 s at) g (ap descriptor_next (full_descriptor b (leb-true _ _ t))))
      (λ f. let k : length s < at + 3 = leb-false _ _ f in passing Descriptors s at (at + 3) g (ap descriptor_next (cut_descriptor h b k)) k)

  -- what is left where fewer than three octets are
  pub descriptors_rest : Strode Descriptors s at → at < length s → length s < at + 3 → eqb (get_or s at 0) 0 ≡ whole_list Descriptors s
  descriptors_rest w h k =
      whether (eqb (get_or s at 0) 0) (λ z. z ∙ descriptors_end w h (eqb-true (get_or s at 0) 0 z)) (λ b. b ∙ cut_off (descriptor_stride w h b))
    where
      cut_off : Strode Descriptors s (at + 3) → false ≡ whole_list Descriptors s
      cut_off (inl w) = absurd (omega (arith, w.0))
      cut_off (inr w) = sym w.1

  -- ---- containers

  pub containers_end : Strode Containers s at → at < length s → get_or s at 0 ≡ 0 → true ≡ whole_list Containers s
  unfolding container_step
  containers_end w h z = ending Containers s at (going Containers s at w h) (ap (λ (x : DescriptorStep). container_next s (container_from s x)) (no_branch h z))

  pub cut_container : at < length s → eqb (get_or s at 0) 0 ≡ false → length s < at + 4 → container_step s at ≡ Broken
  unfolding container_step
  cut_container h b k =
      whether (leb (at + 3) (length s))
      (λ t. let e : leb (length s) (at + 3) ≡ true = le-leb (length s) (at + 3) (omega arith) in ap (container_from s) (full_descriptor b (leb-true _ _ t)) ∙ simp (e))
      (λ f. ap (container_from s) (cut_descriptor h b (leb-false _ _ f)))

  pub containers_break : Strode Containers s at → at < length s → eqb (get_or s at 0) 0 ≡ false → length s < at + 4 → false ≡ whole_list Containers s
  containers_break w h b k = breaking Containers s at (going Containers s at w h) (ap (container_next s) (cut_container h b k))

  -- a container whose width octet is there
  pub full_container : eqb (get_or s at 0) 0 ≡ false → at + 4 ≤ length s
      → let o = get_or s (at + 3) 0 in
      container_step s at
      ≡ cond (leb 128 o) (Indication (num 3 s at) o (at + 4))
      (cond (ltb (length s - (at + 4)) (width_of o)) Broken (Value (num 3 s at) (width_of o) (at + 4 + width_of o)))
  unfolding container_step
  full_container b k =
      let there : leb (length s) (at + 3) ≡ false = lt-leb (length s) (at + 3) (omega arith) in
      let four : at + 3 + 1 ≡ at + 4 = omega arith in
      ap (container_from s) (full_descriptor b (omega arith)) ∙ simp (there, four)

  pub container_stride : (v : ℕ) → Strode Containers s at → eqb (get_or s at 0) 0 ≡ false → at + 4 ≤ length s → v ≡ value_octets (get_or s (at + 3) 0) → Strode Containers s (at + 4 + v)
  container_stride v w b k e =
      let g = going Containers s at w (omega arith) in
      let o = get_or s (at + 3) 0 in
      let d = num 3 s at in
      whether (leb 128 o)
      (λ t.
      let none : v ≡ 0 = e ∙ ap (λ (y : Bool). cond y 0 (width_of o)) t in
      let n : at + 4 ≡ at + 4 + v = omega arith in
      let step : container_step s at ≡ Indication d o (at + 4 + v) = full_container b k ∙ simp (t, ← n) in
      leading Containers s at (at + 4 + v) _ g (ap (container_next s) step))
      (λ f.
      let octets : v ≡ width_of o = e ∙ ap (λ (y : Bool). cond y 0 (width_of o)) f in
      whether (ltb (length s - (at + 4)) v)
      (λ t2.
      let step : container_step s at ≡ Broken = full_container b k ∙ simp (f, ← octets, t2) in
      passing Containers s at (at + 4 + v) g (ap (container_next s) step) (omega (arith, ltb-true)))
      (λ f2.
      let step : container_step s at ≡ Value d v (at + 4 + v) = full_container b k ∙ simp (f, ← octets, f2) in
      leading Containers s at (at + 4 + v) _ g (ap (container_next s) step)))

-- a value has at most 128 octets
pub value_upto : (v octet : ℕ) → v ≡ value_octets octet → v ≤ 128
value_upto v octet e =
    let P : ℕ → Type 0 = λ n. v ≡ n → v ≤ 128 in
    by_cond P (leb 128 octet) (λ _ h. omega arith) (λ f. by_cond P (eqb octet 0) (λ _ h. omega arith) (λ _ h. omega (arith, leb-false))) e

-- the branches of a body's descriptors, three octets each
chunk_at : (k i : ℕ) (s : List ℕ) → i < k → get_or (get_or (first_chunks 3 k s) i []) 0 0 ≡ get_or s (3 * i) 0
chunk_at zero i s h = absurd (omega arith)
chunk_at (suc k) zero s h = get_or-take 3 s 0 0 (omega arith)
chunk_at (suc k) (suc i) s h =
    let on : 3 + 3 * i ≡ 3 * suc i = omega arith in
    chunk_at k i (drop 3 s) (omega arith) ∙ get_or-drop 3 s (3 * i) 0 ∙ ap (λ (n : ℕ). get_or s n 0) on

module _ (s : List ℕ) (ds : List (List ℕ)) (chunks : ds ≡ first_chunks 3 (length s / 3) s) (i : ℕ) (h : i < length s / 3) where
  pub branch_at : get_or (get_or ds i []) 0 0 ≡ get_or s (3 * i) 0
  branch_at = ap (λ (l : List (List ℕ)). get_or (get_or l i []) 0 0) chunks ∙ chunk_at (length s / 3) i s h
