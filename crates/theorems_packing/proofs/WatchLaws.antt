-- The laws of a watch in octets: a window's two, for any widths, and those of the stamp beside them.
use Prim.Native.Nat.{ℕ, ◌/◌, ◌^◌, ◌<◌}
use mathlib.Core.Path.{◌≡◌, refl, ◌∙◌}
use mathlib.Core.List.{List, [], ◌∷◌}
use mathlib.Core.Bool.{Bool, true}
use native.Mathlib.Nat.{zero-add}
use native.Mathlib.Omega.{arith}
use borrow.Author.Tests.{ltb-true, leb-true, lt-ltb}
use lib.Dec.{ltb, leb, eqb}
use lib.ListN.{length, get_or}
use Rattle.octets.specs.Octets.{Octets, total, fields_at, octs}
use Rattle.octets.specs.Bits.{bit_of}
use Rattle.octets.proofs.Bools.{and_l, and_r}
use Rattle.octets.proofs.Masks.{bit_fits, bit_back}
use Rattle.link_limit.specs.Limit.{second_ticks}
use Rattle.link_windows.specs.declared.Watch.{Watch}
use Rattle.link_windows.specs.declared.Window.{Window}
use Rattle.link_windows.specs.Watches.{watch_of}
use Rattle.link_windows.specs.Ranges.{frames_proper, seconds_proper, proper}
use Rattle.link_windows.proofs.Settings.{frames_set, seconds_set_lem}
use Rattle.oam_packing.specs.Parts.{together, is_bit}
use Rattle.oam_packing.specs.Watches.{window_numbers, window_with, frames_octets, seconds_octets, frames_from, seconds_from, stamp_widths, stamp_octets, watch_lengths, watch_length, watch_parts, watch_octets, watch_part, watch_from, is_watch}
use Rattle.oam_packing.proofs.Joining.{watch_parts_long}
use Rattle.theorems_packing.proofs.Bits.{bit_is, bit_again}
use Rattle.theorems_packing.proofs.Parting.{part_at, parts_again, parts_octets}
use Rattle.theorems_packing.proofs.Fielding.{part_back, part_again}

-- ---- a window, in any six widths: the two windows differ in nothing else

module _ (a b c d e f : ℕ) where
  abbrev six : List ℕ
  six = a ∷ b ∷ c ∷ d ∷ e ∷ f ∷ []

  window_back : (w : Window)
      → w.length < 256 ^ a → w.threshold < 256 ^ b → w.at < 256 ^ c → w.errors < 256 ^ d → w.total < 256 ^ e → w.events < 256 ^ f
      → window_with (fields_at six (octs six (window_numbers w)) 0) ≡ w
  window_back w l h t r s n =
      part_back six window_numbers window_with w refl
      (rw (
        lt-ltb w.length (256 ^ a) l,
        lt-ltb w.threshold (256 ^ b) h,
        lt-ltb w.at (256 ^ c) t,
        lt-ltb w.errors (256 ^ d) r,
        lt-ltb w.total (256 ^ e) s,
        lt-ltb w.events (256 ^ f) n,
      ))
      refl

  window_again : (x : List ℕ) → Octets x → length x ≡ total six → octs six (window_numbers (window_with (fields_at six x 0))) ≡ x
  window_again x o l = part_again six window_numbers window_with x o l refl

-- ---- the two windows of a proper watch: their numbers fit

frames_back_lem : (w : Window) → frames_proper w ≡ true → frames_from (frames_octets w) ≡ w
unfolding frames_from frames_octets frames_proper
frames_back_lem w h =
    let s = frames_set w.length w.threshold (search and_l) in
    let at : ltb w.at w.length ≡ true = search (and_l, and_r) in
    let errors : ltb w.errors (2 ^ 32) ≡ true = search (and_l, and_r) in
    let all : ltb w.total (2 ^ 64) ≡ true = search (and_l, and_r) in
    let events : ltb w.events (2 ^ 32) ≡ true = search (and_l, and_r) in
    window_back 2 4 2 4 8 4 w
    (omega arith)
    (omega arith)
    (omega (arith, ltb-true w.at w.length at))
    (ltb-true w.errors (2 ^ 32) errors)
    (ltb-true w.total (2 ^ 64) all)
    (ltb-true w.events (2 ^ 32) events)

-- there are no more errored seconds than whole ones, so that two octets hold them
seconds_back : (w : Window) → seconds_proper w ≡ true → seconds_from (seconds_octets w) ≡ w
unfolding seconds_from seconds_octets seconds_proper
seconds_back w h =
    let s = seconds_set_lem w.length w.threshold (search and_l) in
    let at : ltb w.at w.length ≡ true = search (and_l, and_r) in
    let errors : leb w.errors (w.at / second_ticks) ≡ true = search (and_l, and_r) in
    let all : ltb w.total (2 ^ 32) ≡ true = search (and_l, and_r) in
    let events : ltb w.events (2 ^ 32) ≡ true = search (and_l, and_r) in
    let t = ltb-true w.at w.length at in
    window_back 2 2 2 2 4 4 w
    (omega arith)
    (omega arith)
    (omega arith)
    (omega (arith, leb-true w.errors (w.at / second_ticks) errors))
    (ltb-true w.total (2 ^ 32) all)
    (ltb-true w.events (2 ^ 32) events)

-- ---- the stamp and the bit, as one part

abbrev stamp_numbers : ℕ × Bool → List ℕ
stamp_numbers p = p.0 ∷ bit_of p.1 ∷ []

abbrev stamp_with : List ℕ → ℕ × Bool
stamp_with n = (get_or n 0 0, eqb (get_or n 1 0) 1)

stamp_back : (stamp : ℕ) (bad : Bool) → ltb stamp (2 ^ 16) ≡ true → stamp_with (fields_at stamp_widths (stamp_octets stamp bad) 0) ≡ (stamp, bad)
unfolding stamp_octets
stamp_back stamp bad h =
    part_back stamp_widths stamp_numbers stamp_with (stamp, bad) refl (rw (h, bit_fits bad)) (λ i. (stamp, bit_back bad i))

stamp_again : (x : List ℕ) → Octets x → length x ≡ total stamp_widths → is_bit (get_or x 2 0) ≡ true
    → octs stamp_widths (stamp_numbers (stamp_with (fields_at stamp_widths x 0))) ≡ x
stamp_again x o l h = part_again stamp_widths stamp_numbers stamp_with x o l (simp (zero-add, bit_again (get_or x 2 0) h))

-- ---- a watch

watch_part_lem : (w : Watch) (k : ℕ) → watch_part k (watch_octets w) ≡ get_or (watch_parts w) k []
unfolding watch_octets
watch_part_lem w k = part_at watch_lengths (watch_parts w) k (watch_parts_long w)

-- the octets of a proper one are read as it
pub watch_back : (w : Watch) → proper w ≡ true → watch_from (watch_octets w) ≡ w
unfolding watch_from proper
watch_back w h =
    let at = watch_part_lem w in
    let frames : frames_proper w.frames ≡ true = search and_l in
    let seconds : seconds_proper w.seconds ≡ true = search (and_l, and_r) in
    let stamp : ltb w.stamp (2 ^ 16) ≡ true = search (and_l, and_r) in
    let f = frames_back_lem w.frames frames in
    let s = seconds_back w.seconds seconds in
    let p = stamp_back w.stamp w.bad stamp in
    rw (at 0, at 1, at 2) (λ i. watch_of (f i) (s i) (p i).0 (p i).1)

-- those of any are some watch's
pub watch_is : (w : Watch) → is_watch (watch_octets w) ≡ true
unfolding stamp_octets
watch_is w = rw (watch_part_lem w 2) (bit_is w.bad)

-- and octets that are some watch's are those of the one that is read
pub watch_again : (x : List ℕ) → Octets x → length x ≡ watch_length → is_watch x ≡ true → watch_octets (watch_from x) ≡ x
unfolding watch_octets watch_from frames_octets frames_from seconds_octets seconds_from stamp_octets
watch_again x o l h =
    let at : (k : ℕ) → _ = parts_octets watch_lengths x 0 o (omega (arith, l)) in
    let f = window_again 2 4 2 4 8 4 (watch_part 0 x) (at 0).0 (at 0).1 in
    let s = window_again 2 2 2 2 4 4 (watch_part 1 x) (at 1).0 (at 1).1 in
    let p = stamp_again (watch_part 2 x) (at 2).0 (at 2).1 h in
    (λ i. together (f i ∷ s i ∷ p i ∷ [])) ∙ parts_again watch_lengths x l
