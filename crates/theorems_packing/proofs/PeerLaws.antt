-- The two laws of what is kept of a peer in octets.
use Rattle.std.specs.Prelude.{Option, None, Some, ℕ}
use Prim.Native.Nat.{ℕ, zero, suc, ◌+◌, ◌^◌, ◌<◌}
use mathlib.Core.Path.{◌≡◌, refl, sym, ap, ◌∙◌}
use mathlib.Core.List.{List, [], ◌∷◌, ◌++◌}
use mathlib.Core.Bool.{true}
use native.Mathlib.Omega.{arith}
use borrow.Author.Tests.{leb-true, eqb-true, lt-ltb}
use lib.Dec.{ltb, leb, eqb}
use lib.ListN.{length, get_or, take, drop, replicate}
use lib.Seq.{get_or-take, get_or-drop}
use Rattle.frame_body.specs.declared.Information.{Information}
use Rattle.octets.specs.Octets.{Octets, num, total, fields_at, octs, fit, zeros}
use Rattle.octets.specs.Bits.{bit_of}
use Rattle.octets.proofs.Numbers.{octet_at}
use Rattle.frame_body.specs.Information.{information_widths, information_values}
use Rattle.octets.proofs.Bools.{and_l, and_r, one_of}
use Rattle.link_peer.specs.Peers.{is_held, record_says, record_of}
use Rattle.link_end.specs.declared.Peer.{Peer}
use Rattle.link_end.specs.Ranges.{record_fits, last_fits}
use Rattle.oam_packing.specs.Parts.{part_of, held_or_zero}
use Rattle.oam_packing.specs.Peers.{record_numbers, record_with, known, last_number, last_of, last_widths, last_numbers, last_with, peer_widths, peer_length, peer_lengths, peer_numbers, peer_with, peer_octets, peer_from, is_peer}
use Rattle.octets.proofs.Masks.{bit_fits}
use Rattle.theorems_packing.proofs.Fielding.{part_back, part_again}

-- ---- a peer's octets are read as the peer

fit_append : (ws us vs xs : List ℕ) → length ws ≡ length vs → fit ws vs ≡ true → fit us xs ≡ true → fit (ws ++ us) (vs ++ xs) ≡ true
fit_append [] us [] xs l f g = g
fit_append [] us (v ∷ vs) xs l f g = absurd (omega arith)
fit_append (w ∷ ws) us [] xs l f g = absurd (omega arith)
fit_append (w ∷ ws) us (v ∷ vs) xs l f g =
    rw (and_l (ltb v (256 ^ w)) (fit ws vs) f) (fit_append ws us vs xs (omega arith) (and_r (ltb v (256 ^ w)) (fit ws vs) f) g)

record_fits_lem : (r : Option Information) → record_fits r ≡ true → fit information_widths (information_values (record_says r)) ≡ true
unfolding record_fits
record_fits_lem None h = refl
record_fits_lem (Some i) h = h

last_fits_lem : (l : Option ℕ) → last_fits l ≡ true → fit last_widths (last_numbers l) ≡ true
unfolding last_fits
last_fits_lem None h = refl
last_fits_lem (Some n) h = rw h

peer_fit : (p : Peer) → leb p.kept 2 ≡ true → record_fits p.held ≡ true → last_fits p.last ≡ true → fit peer_widths (peer_numbers p) ≡ true
peer_fit p k h l =
    let kept = lt-ltb p.kept (256 ^ 1) (omega (arith, leb-true p.kept 2 k)) in
    rw (kept, bit_fits (is_held p.held))
    (fit_append information_widths last_widths (information_values (record_says p.held)) (last_numbers p.last) refl (record_fits_lem p.held h) (last_fits_lem p.last l))

record_back : (r : Option Information) → record_of (eqb (bit_of (is_held r)) 1) (record_says r) ≡ r
record_back None = refl
record_back (Some i) = refl

last_back : (l : Option ℕ) → last_of (eqb (bit_of (known l)) 1) (last_number l) ≡ l
last_back None = refl
last_back (Some n) = refl

pub peer_back : (p : Peer) → leb p.kept 2 ≡ true → record_fits p.held ≡ true → last_fits p.last ≡ true → peer_from (peer_octets p) ≡ p
unfolding peer_from peer_octets
peer_back p k h l =
    part_back peer_widths peer_numbers peer_with p refl (peer_fit p k h l)
    (λ i. record { kept = p.kept; held = record_back p.held i; last = last_back p.last i })

-- what is held says so, and what is not is 0
is_by : (k : ℕ) (r : Option Information) (l : Option ℕ) → is_peer (octs peer_widths (k ∷ record_numbers r ++ last_numbers l)) ≡ true
unfolding is_peer held_or_zero
is_by k None None = refl
is_by k None (Some n) = refl
is_by k (Some i) None = refl
is_by k (Some i) (Some n) = refl

pub peer_is : (p : Peer) → is_peer (peer_octets p) ≡ true
unfolding peer_octets
peer_is p = is_by p.kept p.held p.last

-- ---- octets are those of the peer that is read from them

zero_at : (x : List ℕ) → zeros x ≡ true → (i : ℕ) → get_or x i 0 ≡ 0
zero_at [] h i = refl
zero_at (b ∷ x) h zero = eqb-true b 0 (and_l (eqb b 0) (zeros x) h)
zero_at (b ∷ x) h (suc i) = zero_at x (and_r (eqb b 0) (zeros x) h) i

-- zeros from an octet on
abbrev Zeros : List ℕ → ℕ → ℕ → Type 0
Zeros s at n = (i : ℕ) → i < n → get_or s (at + i) 0 ≡ 0

number_zero : (w : ℕ) (s : List ℕ) (at : ℕ) → Zeros s at w → num w s at ≡ 0
number_zero zero s at z = refl
number_zero (suc w) s at z = rw (number_zero w s at (λ i h. z i (omega arith)), z w (omega arith))

fields_zero : (ws : List ℕ) (s : List ℕ) (at : ℕ) → Zeros s at (total ws) → fields_at ws s at ≡ replicate (length ws) 0
fields_zero [] s at z = refl
fields_zero (w ∷ ws) s at z =
    let others : Zeros s (at + w) (total ws) = λ i h. octet_at s (at + w + i) (at + (w + i)) (omega arith) ∙ z (w + i) (omega arith) in
    rw (number_zero w s at (λ i h. z i (omega arith)), fields_zero ws s (at + w) others)

-- Of something that may be held the numbers are again those that are read: where it is held by its own numbers, else because
-- all of them are 0.
module _ {H : Type 0} (numbers : H → List ℕ) (with : List ℕ → H) (ws s : List ℕ) (at : ℕ) where
  pub held_again : (numbers (with (replicate (suc (length ws)) 0)) ≡ replicate (suc (length ws)) 0)
      → (num 1 s at ≡ 1 → numbers (with (fields_at (1 ∷ ws) s at)) ≡ fields_at (1 ∷ ws) s at)
      → held_or_zero (take (total (1 ∷ ws)) (drop at s)) ≡ true
      → numbers (with (fields_at (1 ∷ ws) s at)) ≡ fields_at (1 ∷ ws) s at
  unfolding held_or_zero
  held_again none some h =
      let n = total (1 ∷ ws) in
      let x = take n (drop at s) in
      let here : (i : ℕ) → i < n → get_or x i 0 ≡ get_or s (at + i) 0 = λ i k. get_or-take n (drop at s) i 0 k ∙ get_or-drop at s i 0 in
      one_of (eqb (get_or x 0 0) 1) (zeros x)
      (λ t. let e : get_or s (at + 0) 0 ≡ 1 = sym (here 0 (omega arith)) ∙ eqb-true (get_or x 0 0) 1 t in some (rw e))
      (λ t.
      let z = fields_zero (1 ∷ ws) s at (λ i k. sym (here i k) ∙ zero_at x t i) in
      ap (λ (v : List ℕ). numbers (with v)) z ∙ none ∙ sym z)
      h

pub peer_again : (x : List ℕ) → Octets x → length x ≡ peer_length → is_peer x ≡ true → peer_octets (peer_from x) ≡ x
unfolding peer_from peer_octets is_peer
peer_again x o l h =
    let of_record = held_or_zero (part_of peer_lengths 1 x) in
    let of_last = held_or_zero (part_of peer_lengths 2 x) in
    let the_record = held_again record_numbers record_with information_widths x 1 refl (λ e. rw e) (and_l of_record of_last h) in
    let the_last = held_again last_numbers last_with (2 ∷ []) x 16 refl (λ e. rw e) (and_r of_record of_last h) in
    part_again peer_widths peer_numbers peer_with x o l (λ i. num 1 x 0 ∷ (the_record i ++ the_last i))
