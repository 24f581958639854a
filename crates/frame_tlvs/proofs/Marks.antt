-- Laws of what stands at an octet of a body of TLVs.
use Prim.Native.Nat.{ℕ, zero, suc, ◌+◌, ◌-◌, ◌<◌, ◌≤◌}
use mathlib.Core.Path.{◌≡◌, refl, sym, ap, ◌∙◌, subst}
use mathlib.Core.Bool.{Bool, false, cond, ◌||◌}
use mathlib.Core.List.{List}
use native.Mathlib.Omega.{arith}
use borrow.Author.Tests.{ltb-true, ltb-false, leb-false, eqb-true, eqb-false, eq-eqb, ne_eqb, lt-leb, le-leb, le-ltb}
use lib.ListN.{length, get_or, replicate}
use lib.Dec.{ltb, leb, eqb}
use Rattle.octets.specs.Octets.{total}
use Rattle.frame_tlvs.specs.Tlvs.{Tlv, TlvEnd, TlvBroken, At, tlv_at, row, Mark, End, Broken, Unknown, Known, information_length, event_widths, event_length, known, marked, mark_at, unknown_mark, known_mark}
use Rattle.frame_tlvs.specs.declared.Kind.{Kind}
use Rattle.frame_tlvs.specs.declared.Kind.TheVariants.{Information, Events}
use Rattle.octets.proofs.Bools.{by_cond}
use Rattle.frame_tlvs.proofs.Rows.{four}

-- a TLV has a type and its two octets, and lies within the body
abbrev pub Within : ℕ → ℕ → Tlv → Type 0
Within at len TlvEnd = Unit
Within at len TlvBroken = Unit
Within at len (At t n next) = (0 < t) × (2 ≤ n) × (next ≡ at + n) × (next ≤ len)

pub tlv_within : (s : List ℕ) (at : ℕ) → Within at (length s) (tlv_at s at)
unfolding tlv_at
tlv_within s at =
    let P = Within at (length s) in
    by_cond P (leb (length s) at) (λ _. tt) (λ a.
    by_cond P (eqb (get_or s at 0) 0) (λ _. tt) (λ b.
    by_cond P (ltb (length s - at) 2) (λ _. tt) (λ _.
    by_cond P (ltb (get_or s (at + 1) 0) 2) (λ _. tt) (λ d.
    by_cond P (ltb (length s - at) (get_or s (at + 1) 0)) (λ _. tt) (λ e.
    let b' = eqb-false (get_or s at 0) 0 b in
    (omega arith, omega (arith, ltb-false), refl, omega (arith, leb-false, ltb-false)))))))

-- what a mark says of where it stands: what it marks leads on within the body, and a known TLV has its known length
abbrev pub Marked : Kind → ℕ → ℕ → Mark → Type 0
Marked kind at len End = Unit
Marked kind at len Broken = Unit
Marked kind at len (Unknown n) = (at < n) × (n ≤ len)
Marked kind at len (Known t n) = (at < n) × (n ≤ len) × (n ≡ at + known kind t) × (0 < t) × (0 < known kind t)

of_tlv : (kind : Kind) (at len : ℕ) (tlv : Tlv) → Within at len tlv → Marked kind at len (marked kind tlv)
of_tlv kind at len TlvEnd h = tt
of_tlv kind at len TlvBroken h = tt
of_tlv kind at len (At t n next) h =
    let k = known kind t in
    by_cond (Marked kind at len) (eqb k 0) (λ _. (omega arith, omega arith)) (λ z.
    by_cond (Marked kind at len) (eqb n k)
    (λ e. let e' = eqb-true n k e in let z' = eqb-false k 0 z in (omega arith, omega arith, omega arith, omega arith, omega arith))
    (λ _. tt))

pub mark_within : (kind : Kind) (s : List ℕ) (at : ℕ) → Marked kind at (length s) (mark_at kind s at)
unfolding mark_at
mark_within kind s at = of_tlv kind at (length s) (tlv_at s at) (tlv_within s at)

pub mark_end : (kind : Kind) (s : List ℕ) (at : ℕ) → length s ≤ at → mark_at kind s at ≡ End
unfolding mark_at tlv_at
mark_end kind s at h = simp (le-leb _ _ h)

-- a known Information TLV has 16 octets
pub information_16 : (t : ℕ) → 0 < information_length t → information_length t ≡ 16
information_16 t = by_cond (λ (n : ℕ). 0 < n → n ≡ 16) (eqb t 1 || eqb t 2) (λ _ _. refl) (λ _ h. absurd (omega arith))

-- a known event TLV has a row of the table
pub record Tabled (t n : ℕ) : Type 0 where
  pub upto : t ≤ 4
  pub long : n ≡ 2 + total (row t)

pub event_tabled : (t : ℕ) → 0 < event_length t → Tabled t (event_length t)
unfolding event_length
event_tabled t =
    let P : ℕ → Type 0 = λ (n : ℕ). 0 < n → Tabled t n in
    by_cond P (eqb t 0) (λ _ h. absurd (omega arith)) (λ _.
    by_cond P (ltb 4 t) (λ _ h. absurd (omega arith)) (λ u _. record { upto = omega (arith, ltb-false); long = refl }))

pub event_lies : (s : List ℕ) (at t n : ℕ) → Known t n ≡ mark_at Events s at → (0 < t) × (t ≤ 4) × (at + 2 + total (row t) ≤ length s)
event_lies s at t n e =
    let m : Marked Events at (length s) (Known t n) = subst (Marked Events at (length s)) (sym e) (mark_within Events s at) in
    let k = event_tabled t m.4 in
    (m.3, k.upto, omega (arith, m.1, m.2, k.long))

-- ---- by the type first, as the code goes

-- of a type that is not known only where its TLV ends is marked
pub unknown_mark_lem : (kind : Kind) (s : List ℕ) (at : ℕ) → known kind (get_or s at 0) ≡ 0 → unknown_mark (tlv_at s at) ≡ mark_at kind s at
unfolding mark_at tlv_at
unknown_mark_lem kind s at e =
    let P : Tlv → Type 0 = λ (x : Tlv). unknown_mark x ≡ marked kind x in
    by_cond P (leb (length s) at) (λ _. refl) (λ _.
    by_cond P (eqb (get_or s at 0) 0) (λ _. refl) (λ _.
    by_cond P (ltb (length s - at) 2) (λ _. refl) (λ _.
    by_cond P (ltb (get_or s (at + 1) 0) 2) (λ _. refl) (λ _.
    by_cond P (ltb (length s - at) (get_or s (at + 1) 0)) (λ _. refl) (λ _. rw e)))))

-- a known type stands at an octet, and a length after it
module _ (kind : Kind) (s : List ℕ) (at t expected : ℕ) (inside : at < length s) (here : get_or s at 0 ≡ t) (some : 0 < t) (own : known kind t ≡ expected) (least : 2 ≤ expected) where
  abbrev n : ℕ
  n = get_or s (at + 1) 0

  unended : eqb (get_or s at 0) 0 ≡ false
  unended = ne_eqb (get_or s at 0) 0 (λ z. absurd (omega arith))

  -- what a TLV that lies within the body is marked as
  lying : marked kind (At (get_or s at 0) n (at + n)) ≡ cond (eqb n expected) (Known (get_or s at 0) (at + n)) Broken
  lying = rw (ap (known kind) here ∙ own, ne_eqb expected 0 (λ z. absurd (omega arith)))

  -- another length than the known one is broken, wherever the TLV would end
  other_length : (n ≤ length s - at → eqb n expected ≡ false) → Broken ≡ mark_at kind s at
  unfolding mark_at tlv_at
  other_length h =
      let P : Tlv → Type 0 = λ (x : Tlv). Broken ≡ marked kind x in
      rw (lt-leb (length s) at inside, unended)
      (by_cond P (ltb (length s - at) 2) (λ _. refl) (λ _.
      by_cond P (ltb n 2) (λ _. refl) (λ _.
      by_cond P (ltb (length s - at) n) (λ _. refl) (λ f.
      sym (lying ∙ ap (λ (b : Bool). cond b (Known (get_or s at 0) (at + n)) Broken) (h (ltb-false (length s - at) n f)))))))

  -- the known length, of octets that are there
  own_length_lem : at + expected ≤ length s → n ≡ expected → Known (get_or s at 0) (at + expected) ≡ mark_at kind s at
  unfolding mark_at tlv_at
  own_length_lem h e =
      let whole : ltb (length s - at) n ≡ false = le-ltb (length s - at) n (omega (arith, e)) in
      rw (lt-leb (length s) at inside, unended, le-ltb (length s - at) 2 (omega arith), le-ltb n 2 (omega (arith, e)), whole)
      (sym (lying ∙ rw (e, eq-eqb expected expected refl)))

  pub known_mark_lem : known_mark s at expected ≡ mark_at kind s at
  known_mark_lem =
      let P : Mark → Type 0 = λ (m : Mark). m ≡ mark_at kind s at in
      by_cond P (ltb (length s) (at + expected))
      (λ short. other_length (λ h. ne_eqb n expected (λ e. absurd (omega (arith, ltb-true (length s) (at + expected) short)))))
      (λ fits.
      by_cond P (eqb n expected)
      (λ same. own_length_lem (ltb-false (length s) (at + expected) fits) (eqb-true n expected same))
      (λ differs. other_length (λ _. differs)))

-- the two known Information TLVs, and the others
pub information_known : (s : List ℕ) (at t : ℕ) → at < length s → get_or s at 0 ≡ t → 0 < t → t < 3 → known_mark s at 16 ≡ mark_at Information s at
information_known s at zero inside here least most = absurd (omega arith)
information_known s at (suc zero) inside here least most = known_mark_lem Information s at 1 16 inside here least refl (omega arith)
information_known s at (suc (suc zero)) inside here least most = known_mark_lem Information s at 2 16 inside here least refl (omega arith)
information_known s at (suc (suc (suc t))) inside here least most = absurd (omega arith)

pub information_unknown : (t : ℕ) → (t ≡ 1 → ⊥) → (t ≡ 2 → ⊥) → information_length t ≡ 0
information_unknown t a b = simp (ne_eqb t 1 a, ne_eqb t 2 b)

-- the lengths of the table are small, as `known_mark` asks of what stands at an octet
pub event_sized : {at len : ℕ} → at < len → (t n : ℕ) → 0 < t → t ≤ 4 → n ≡ event_length t → (at < len) × (2 ≤ n) × (n ≤ 40)
unfolding event_length row
event_sized inside t n least most e =
    let sum = four (λ (ws : List ℕ). total ws ≤ 38) (omega arith) (omega arith) (omega arith) (omega arith) t least most in
    let long : event_length t ≡ 2 + total (row t) = rw (ne_eqb t 0 (λ z. absurd (omega arith)), le-ltb 4 t most) in
    (inside, omega (arith, e, long), omega (arith, e, long, sum))

pub event_known : (s : List ℕ) (at t n : ℕ) → at < length s → get_or s at 0 ≡ t → 0 < t → t ≤ 4 → n ≡ event_length t → known_mark s at n ≡ mark_at Events s at
event_known s at t n inside here least most e = known_mark_lem Events s at t n inside here least (sym e) (event_sized inside t n least most e).1

-- a type that is none of the table's is below its first or above its last
pub not_in_table : (A : Type 0) (none row : A) (t : ℕ) → (t ≡ 1 → ⊥) → (t ≡ 2 → ⊥) → (t ≡ 3 → ⊥) → (t ≡ 4 → ⊥)
    → cond (eqb t 0) none (cond (ltb 4 t) none row) ≡ none
not_in_table A none row t a b c d =
    let P : A → Type 0 = λ (n : A). n ≡ none in
    by_cond P (eqb t 0) (λ _. refl) (λ z.
    by_cond P (ltb 4 t) (λ _. refl) (λ u. absurd (let some = eqb-false t 0 z in omega (arith, ltb-false 4 t u))))

-- so it has no length there, and no widths
pub event_unknown : (t : ℕ) → (t ≡ 1 → ⊥) → (t ≡ 2 → ⊥) → (t ≡ 3 → ⊥) → (t ≡ 4 → ⊥) → event_length t ≡ 0
unfolding event_length
event_unknown t = not_in_table ℕ 0 (2 + total (row t)) t

pub no_widths : (t : ℕ) → (t ≡ 1 → ⊥) → (t ≡ 2 → ⊥) → (t ≡ 3 → ⊥) → (t ≡ 4 → ⊥) → event_widths t ≡ replicate 6 0
unfolding event_widths
no_widths t = not_in_table (List ℕ) (replicate 6 0) (row t) t
