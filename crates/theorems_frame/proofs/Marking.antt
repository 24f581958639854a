-- TLVs of any kind: one that was written is marked where it stands, and one that is marked is written again.
use Prim.Native.Nat.{ℕ, ◌+◌, ◌-◌, ◌%◌, ◌<◌}
use mathlib.Core.Path.{◌≡◌, refl, sym, ap, ◌∙◌}
use mathlib.Core.List.{List, [], ◌∷◌, ◌++◌}
use mathlib.Core.Bool.{true}
use native.Mathlib.Omega.{arith}
use native.Mathlib.Nat.{add-zero, add_assoc, mod-eq_of_lt}
use borrow.Author.Tests.{eqb-true, le-ltb, lt-leb, eq-eqb, ne_eqb}
use lib.ListN.{length, get_or, drop, length-append, length-drop}
use lib.Seq.{get_or-drop}
use lib.Dec.{ltb, leb, eqb}
use Rattle.octets.specs.Octets.{Octets, num, total, fields_at, octs, fit}
use Rattle.frame_tlvs.specs.Tlvs.{tlv_at, known, marked, mark_at, Tlv, TlvEnd, TlvBroken, At, Mark, End, Broken, Unknown, Known}
use Rattle.frame_tlvs.specs.declared.Kind.{Kind}
use Rattle.octets.proofs.Bools.{by_cond}
use Rattle.frame_tlvs.proofs.Marks.{Marked, mark_within}
use Rattle.octets.proofs.Numbers.{length-octs, past, fields_read, fields_again}

-- at a 0, or at the body's end, nothing is marked
pub mark_stop : (kind : Kind) (s : List ℕ) (at : ℕ) → get_or s at 0 ≡ 0 → mark_at kind s at ≡ End
unfolding mark_at tlv_at
mark_stop kind s at h = ap (marked kind) (by_cond (λ (x : Tlv). x ≡ TlvEnd) (leb (length s) at) (λ _. refl) (λ _. rw h))

-- the octets of a TLV, by the widths and values after its type and length
abbrev pub tlv_octets : Kind → ℕ → List ℕ → List ℕ → List ℕ
tlv_octets kind t ws vs = octs (1 ∷ 1 ∷ ws) (t ∷ known kind t ∷ vs)

-- ---- a TLV that was written

-- it is marked with its type, and its values are read after its type and length
pub tlv_read : (kind : Kind) (t : ℕ) (ws vs s : List ℕ) (at : ℕ) (y : List ℕ) → 0 < t → t < 256 → known kind t < 256 → known kind t ≡ 2 + total ws
    → length ws ≡ length vs → fit ws vs ≡ true → drop at s ≡ tlv_octets kind t ws vs ++ y
    → (mark_at kind s at ≡ Known t (at + known kind t)) × (fields_at ws s (at + 2) ≡ vs)
unfolding mark_at tlv_at
tlv_read kind t ws vs s at y z u v k l f h =
    let n = known kind t in
    let left : length s - at ≡ 2 + total ws + length y =
    sym (length-drop at s) ∙ ap length h ∙ omega (arith, length-append (octs ws vs) y, length-octs ws vs (omega arith)) in
    let octet : (i x : ℕ) → get_or (tlv_octets kind t ws vs ++ y) i 0 ≡ x % 256 → x < 256 → get_or s (at + i) 0 ≡ x =
    λ i x e b. sym (get_or-drop at s i 0) ∙ ap (λ (r : List ℕ). get_or r i 0) h ∙ e ∙ mod-eq_of_lt b in
    let first : get_or s at 0 ≡ t = rw add-zero at (octet 0 t refl u) in (
      simp (
        lt-leb (length s) at (omega arith),
        first,
        ne_eqb t 0 (λ e. omega arith),
        le-ltb (length s - at) 2 (omega arith),
        octet 1 n refl v,
        le-ltb n 2 (omega arith),
        le-ltb (length s - at) n (omega arith),
        ne_eqb n 0 (λ e. omega arith),
        eq-eqb n n refl,
      ),
      fields_read ws vs s (at + 2) y l f (past s at 2 (t % 256 ∷ n % 256 ∷ []) (octs ws vs ++ y) refl h),
    )

-- ---- a TLV that is marked

-- its first two octets are its type and its length
abbrev Typed : List ℕ → ℕ → Tlv → Type 0
Typed s at TlvEnd = Unit
Typed s at TlvBroken = Unit
Typed s at (At t n next) = (get_or s at 0 ≡ t) × (get_or s (at + 1) 0 ≡ n)

-- what `tlv_at` finds is typed so
typed : (s : List ℕ) (at : ℕ) → Typed s at (tlv_at s at)
unfolding tlv_at
typed s at =
    let P = Typed s at in
    by_cond P (leb (length s) at) (λ _. tt) (λ _.
    by_cond P (eqb (get_or s at 0) 0) (λ _. tt) (λ _.
    by_cond P (ltb (length s - at) 2) (λ _. tt) (λ _.
    by_cond P (ltb (get_or s (at + 1) 0) 2) (λ _. tt) (λ _.
    by_cond P (ltb (length s - at) (get_or s (at + 1) 0)) (λ _. tt) (λ _. (refl, refl))))))

-- what is told of a known TLV
abbrev pub OnKnown : (ℕ → ℕ → Type 0) → Mark → Type 0
OnKnown told End = Unit
OnKnown told Broken = Unit
OnKnown told (Unknown n) = Unit
OnKnown told (Known t n) = told t n

-- its octets stand there: by any widths that make up its length, and by the values that are read there
abbrev pub Stands : Kind → List ℕ → ℕ → ℕ → ℕ → Type 0
Stands kind s at t n = (ws : List ℕ) → known kind t ≡ 2 + total ws → drop at s ≡ tlv_octets kind t ws (fields_at ws s (at + 2)) ++ drop n s

module _ (kind : Kind) (s : List ℕ) (at : ℕ) (o : Octets s) where
  abbrev Again : Mark → Type 0
  Again mark = Marked kind at (length s) mark → OnKnown (Stands kind s at) mark

  -- by what stands at the octet
  again : (x : Tlv) → Typed s at x → Again (marked kind x)
  again TlvEnd h = λ _. tt
  again TlvBroken h = λ _. tt
  again (At t n next) h =
      by_cond Again (eqb (known kind t) 0) (λ _ _. tt) (λ _.
      by_cond Again (eqb n (known kind t))
      (λ e m ws k.
      let e' = eqb-true n (known kind t) e in
      let long : next ≡ at + total (1 ∷ 1 ∷ ws) = omega arith in
      let first : num 1 s at ≡ t = rw add-zero (omega arith) in
      let second : num 1 s (at + 1) ≡ known kind t = rw add-zero (omega arith) in
      rw (long, ← second, ← first, ← add_assoc at 1 1) (fields_again s o (1 ∷ 1 ∷ ws) at (omega arith)))
      (λ _ _. tt))

  -- where a known TLV is marked its octets stand
  pub mark_again : OnKnown (Stands kind s at) (mark_at kind s at)
  unfolding mark_at
  mark_again = again (tlv_at s at) (typed s at) (mark_within kind s at)
