-- What stands at an octet of a frame is what stands at the same place of its body, which begins k octets later.
use Prim.Native.Nat.{ℕ, zero, suc, ◌+◌, ◌-◌}
use mathlib.Core.Path.{◌≡◌, refl, sym, ap, ◌∙◌}
use mathlib.Core.List.{List, [], ◌∷◌}
use native.Mathlib.Nat.{add_assoc}
use native.Mathlib.Omega.{arith}
use borrow.Author.Tests.{leb-true, leb-false, le-leb, lt-leb}
use lib.Dec.{ltb, leb, eqb}
use lib.ListN.{length, get_or, drop, length-drop}
use lib.Seq.{get_or-drop, drop-drop}
use Rattle.octets.specs.Octets.{num, fields_at}
use Rattle.octets.proofs.Bools.{whether}
use Rattle.frame_tlvs.specs.Walk.{Next, stop, broken, skip, has, over, part, on_next, walk}
use Rattle.frame_tlvs.specs.Tlvs.{tlv_at, row, known, marked, mark_at}
use Rattle.frame_body.specs.Information.{information_widths, information_of as information_from, information_at, step_of as information_of, information_step, next_of as information_next_of}
use Rattle.frame_tlvs.specs.Events.{event_of, event_at, step_of as events_of, event_step, next_of as event_next_of}
use Rattle.frame_body.specs.Variables.{descriptor_step, descriptor_next, width_of, container_from, container_step, container_next}
use Rattle.frame_tlvs.specs.declared.Event.{Event}
use Rattle.frame_tlvs.specs.Tlvs.{Tlv}
use Rattle.frame_tlvs.specs.Tlvs.{TlvEnd, TlvBroken, At}
use Rattle.frame_tlvs.specs.Tlvs.{Mark}
use Rattle.frame_tlvs.specs.Tlvs.{End as MarkEnd, Broken as MarkBroken, Unknown, Known}
use Rattle.frame_tlvs.specs.declared.Kind.{Kind}
use Rattle.frame_tlvs.specs.declared.Kind.TheVariants.{Information, Events}
use Rattle.frame_body.specs.Variables.{DescriptorStep}
use Rattle.frame_body.specs.Variables.{DescriptorEnd, DescriptorBroken, Has}
use Rattle.frame_body.specs.Variables.{ContainerStep}
use Rattle.frame_body.specs.Variables.{End, Broken, Value, Indication}
use Rattle.frame_body.proofs.Wholes.{Contained, container_within}

-- the same part, with k octets before it
abbrev pub moved : {P : Type 0} → ℕ → Next P → Next P
moved k stop = stop
moved k broken = broken
moved k (skip n) = skip (k + n)
moved k (has p n) = has p (k + n)

-- steps that are moved give the same walk
module _ {P : Type 0} (k : ℕ) (whole body : ℕ → Next P) (same : (at : ℕ) → whole (k + at) ≡ moved k (body at)) where
  onward : (steps : ℕ) → ((n : ℕ) → walk whole steps (k + n) ≡ walk body steps n) → (x : Next P)
      → on_next (moved k x) (λ n. walk whole steps n) ≡ on_next x (λ n. walk body steps n)
  onward steps h stop = refl
  onward steps h broken = refl
  onward steps h (skip n) = ap over (h n)
  onward steps h (has p n) = ap (part p) (h n)

  pub walk_moved : (steps at : ℕ) → walk whole steps (k + at) ≡ walk body steps at
  unfolding walk
  walk_moved zero at = refl
  walk_moved (suc steps) at = rw (same at) (onward steps (λ n. walk_moved steps n) (body at))

module _ (k : ℕ) (f : List ℕ) where
  -- ---- octets and numbers

  first_moved : (at : ℕ) → get_or f (k + at) 0 ≡ get_or (drop k f) at 0
  first_moved at = sym (get_or-drop k f at 0)

  octet_moved : (at i : ℕ) → get_or f (k + at + i) 0 ≡ get_or (drop k f) (at + i) 0
  octet_moved at i = rw add_assoc (first_moved (at + i))

  number_moved : (width at : ℕ) → num width f (k + at) ≡ num width (drop k f) at
  number_moved zero at = refl
  number_moved (suc width) at = rw (number_moved width at, octet_moved at width)

  number_after : (width at i : ℕ) → num width f (k + at + i) ≡ num width (drop k f) (at + i)
  number_after width at i = rw add_assoc (number_moved width (at + i))

  end_moved : (at : ℕ) → leb (length f) (k + at) ≡ leb (length (drop k f)) at
  end_moved at =
      whether (leb (length (drop k f)) at)
      (λ h. le-leb (length f) (k + at) (omega (arith, leb-true (length (drop k f)) at h, length-drop k f)) ∙ sym h)
      (λ h. lt-leb (length f) (k + at) (omega (arith, leb-false (length (drop k f)) at h, length-drop k f)) ∙ sym h)

  rest_moved : (at : ℕ) → length f - (k + at) ≡ length (drop k f) - at
  rest_moved at = omega (arith, length-drop k f)

  -- ---- TLVs

  abbrev moved_tlv : Tlv → Tlv
  moved_tlv TlvEnd = TlvEnd
  moved_tlv TlvBroken = TlvBroken
  moved_tlv (At t n next) = At t n (k + next)

  abbrev moved_mark : Mark → Mark
  moved_mark MarkEnd = MarkEnd
  moved_mark MarkBroken = MarkBroken
  moved_mark (Unknown next) = Unknown (k + next)
  moved_mark (Known t next) = Known t (k + next)

  tlv_moved : (at : ℕ) → tlv_at f (k + at) ≡ moved_tlv (tlv_at (drop k f) at)
  unfolding tlv_at
  tlv_moved at =
      let s = drop k f in
      let n = get_or s (at + 1) 0 in
      rw (end_moved at, first_moved at, rest_moved at, octet_moved at 1, add_assoc k at n)
      (whether (leb (length s) at) (λ a. rw a) (λ a.
      whether (eqb (get_or s at 0) 0) (λ b. rw (a, b)) (λ b.
      whether (ltb (length s - at) 2) (λ c. rw (a, b, c)) (λ c.
      whether (ltb n 2) (λ d. rw (a, b, c, d)) (λ d.
      whether (ltb (length s - at) n) (λ e. rw (a, b, c, d, e)) (λ e. rw (a, b, c, d, e)))))))

  marked_moved : (kind : Kind) (x : Tlv) → marked kind (moved_tlv x) ≡ moved_mark (marked kind x)
  marked_moved kind TlvEnd = refl
  marked_moved kind TlvBroken = refl
  marked_moved kind (At t n next) =
      whether (eqb (known kind t) 0) (λ a. rw a) (λ a.
      whether (eqb n (known kind t)) (λ b. rw (a, b)) (λ b. rw (a, b)))

  mark_moved : (kind : Kind) (at : ℕ) → mark_at kind f (k + at) ≡ moved_mark (mark_at kind (drop k f) at)
  unfolding mark_at
  mark_moved kind at = ap (marked kind) (tlv_moved at) ∙ marked_moved kind (tlv_at (drop k f) at)

  -- ---- Information and events

  values_moved : (ws : List ℕ) (at i : ℕ) → fields_at ws f (k + at + i) ≡ fields_at ws (drop k f) (at + i)
  values_moved [] at i = refl
  values_moved (w ∷ ws) at i = rw (number_after w at i, add_assoc (k + at) i w, values_moved ws at (i + w), add_assoc at i w)

  fields_moved : (at : ℕ) → information_at f (k + at) ≡ information_at (drop k f) at
  unfolding information_at
  fields_moved at = ap information_from (values_moved information_widths at 2)

  pub information_moved : (at : ℕ) → information_next_of (information_step f (k + at)) ≡ moved k (information_next_of (information_step (drop k f) at))
  unfolding information_step
  information_moved at =
      ap (λ (x : Mark). information_next_of (information_of f (k + at) x)) (mark_moved Information at) ∙ by_mark (mark_at Information (drop k f) at)
    where
      by_mark : (x : Mark) → information_next_of (information_of f (k + at) (moved_mark x)) ≡ moved k (information_next_of (information_of (drop k f) at x))
      by_mark MarkEnd = refl
      by_mark MarkBroken = refl
      by_mark (Unknown next) = refl
      by_mark (Known t next) = whether (eqb t 1) (λ a. rw (a, fields_moved at)) (λ a. rw (a, fields_moved at))

  event_at_lem : (at t : ℕ) → event_at f (k + at) t ≡ event_at (drop k f) at t
  unfolding event_at
  event_at_lem at t = ap (event_of t) (values_moved (row t) at 2)

  pub event_moved : (at : ℕ) → event_next_of (event_step f (k + at)) ≡ moved k (event_next_of (event_step (drop k f) at))
  unfolding event_step
  event_moved at =
      ap (λ (x : Mark). event_next_of (events_of f (k + at) x)) (mark_moved Events at) ∙ by_mark (mark_at Events (drop k f) at)
    where
      by_mark : (x : Mark) → event_next_of (events_of f (k + at) (moved_mark x)) ≡ moved k (event_next_of (events_of (drop k f) at x))
      by_mark MarkEnd = refl
      by_mark MarkBroken = refl
      by_mark (Unknown next) = refl
      by_mark (Known t next) = ap (λ (e : Event). has e (k + next)) (event_at_lem at t)

  -- ---- descriptors and containers

  abbrev moved_descriptor : DescriptorStep → DescriptorStep
  moved_descriptor DescriptorEnd = DescriptorEnd
  moved_descriptor DescriptorBroken = DescriptorBroken
  moved_descriptor (Has descriptor next) = Has descriptor (k + next)

  abbrev moved_container : ContainerStep → ContainerStep
  moved_container End = End
  moved_container Broken = Broken
  moved_container (Value descriptor width next) = Value descriptor width (k + next)
  moved_container (Indication descriptor octet next) = Indication descriptor octet (k + next)

  descriptor_step_lem : (at : ℕ) → descriptor_step f (k + at) ≡ moved_descriptor (descriptor_step (drop k f) at)
  unfolding descriptor_step
  descriptor_step_lem at =
      let s = drop k f in
      rw (end_moved at, first_moved at, rest_moved at, number_moved 3 at, add_assoc k at 3)
      (whether (leb (length s) at) (λ a. rw a) (λ a.
      whether (eqb (get_or s at 0) 0) (λ b. rw (a, b)) (λ b.
      whether (ltb (length s - at) 3) (λ c. rw (a, b, c)) (λ c. rw (a, b, c)))))

  pub descriptor_moved : (at : ℕ) → descriptor_next (descriptor_step f (k + at)) ≡ moved k (descriptor_next (descriptor_step (drop k f) at))
  descriptor_moved at = ap descriptor_next (descriptor_step_lem at) ∙ by_step (descriptor_step (drop k f) at)
    where
      by_step : (x : DescriptorStep) → descriptor_next (moved_descriptor x) ≡ moved k (descriptor_next x)
      by_step DescriptorEnd = refl
      by_step DescriptorBroken = refl
      by_step (Has descriptor next) = refl

  container_from_lem : (x : DescriptorStep) → container_from f (moved_descriptor x) ≡ moved_container (container_from (drop k f) x)
  container_from_lem DescriptorEnd = refl
  container_from_lem DescriptorBroken = refl
  container_from_lem (Has descriptor from) =
      let s = drop k f in
      let o = get_or s from 0 in
      let w = width_of o in
      let after : k + from + 1 ≡ k + (from + 1) = omega arith in
      let end : k + (from + 1) + w ≡ k + (from + 1 + w) = omega arith in
      rw (end_moved from, first_moved from, after, rest_moved (from + 1), end)
      (whether (leb (length s) from) (λ a. rw a) (λ a.
      whether (leb 128 o) (λ b. rw (a, b)) (λ b.
      whether (ltb (length s - (from + 1)) w) (λ c. rw (a, b, c)) (λ c. rw (a, b, c)))))

  container_step_lem : (at : ℕ) → container_step f (k + at) ≡ moved_container (container_step (drop k f) at)
  unfolding container_step
  container_step_lem at = ap (container_from f) (descriptor_step_lem at) ∙ container_from_lem (descriptor_step (drop k f) at)

  pub container_moved : (at : ℕ) → container_next f (container_step f (k + at)) ≡ moved k (container_next (drop k f) (container_step (drop k f) at))
  container_moved at = ap (container_next f) (container_step_lem at) ∙ by_step (container_step (drop k f) at) (container_within (drop k f) at)
    where
      by_step : (x : ContainerStep) → Contained at (length (drop k f)) x → container_next f (moved_container x) ≡ moved k (container_next (drop k f) x)
      by_step End h = refl
      by_step Broken h = refl
      by_step (Value descriptor width next) h =
          let e : k + next - width ≡ k + (next - width) = omega arith in
          rw (e, drop-drop (next - width) k f)
      by_step (Indication descriptor octet next) h = refl
