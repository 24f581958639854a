-- The values of a line: their digits, and how large they are.
use Prim.Native.Nat.{ℕ, suc, ◌+◌, ◌*◌, ◌^◌, ◌≤◌, ◌<◌}
use mathlib.Core.Path.{◌≡◌, refl, ap, ◌∙◌}
use mathlib.Core.List.{List, [], ◌∷◌, map}
use mathlib.Core.Bool.{Bool, true, false, ◌&&◌, and-eq-true_iff}
use native.Mathlib.Omega.{arith}
use borrow.Author.Tests.{lt-ltb, ltb-true, leb-true}
use lib.Dec.{ltb, leb}
use lib.ListN.{length, get_or, length-append}
use lib.Seq.{drop-cons}
use Rattle.octets.specs.Octets.{total, fit}
use Rattle.frame_tlvs.specs.Tlvs.{row}
use Rattle.frame_tlvs.proofs.Rows.{four}
use Rattle.frame_writer.specs.Encode.{event_values}
use Rattle.frame_writer.specs.Plain.{between, every}
use Rattle.frame_writer.specs.Writing.{event_from, plain_seven}
use Rattle.octets.proofs.Bools.{never}
use Rattle.frame_writer.proofs.Sevens.{Seven, six_values}
use Rattle.text.specs.Decimal.{decimal, field}
use Rattle.text.proofs.Decimals.{field_at_most}
use Rattle.text_eventlog.specs.Digits.{value_of, is_decimal}
use Rattle.text_eventlog.specs.Line.{last_position, in_range_up_to, in_range, parting, fields}
use Rattle.text_eventlog.proofs.Ranges.{in_range_seven}
use Rattle.theorems_log.specs.Longest.{longest_line}
use Rattle.theorems_log.proofs.Digits.{digits_back, digits_of}

abbrev pub small : ℕ → Bool
small v = ltb v (2 ^ 64)

-- what the digits of values say
pub digits_say : (vs : List ℕ) → every small vs ≡ true → (every is_decimal (map decimal vs) ≡ true) × (map value_of (map decimal vs) ≡ vs)
digits_say [] h = (refl, refl)
digits_say (v ∷ vs) h =
    let p = (and-eq-true_iff (small v) (every small vs)).0 h in
    let d = digits_of v (ltb-true v (2 ^ 64) p.0) in
    let r = digits_say vs p.1 in
    (rw d.0 r.0, rw (d.1, r.1))

-- the digits of what decimal fields say
pub say_digits : (fs : List (List ℕ)) → every is_decimal fs ≡ true → map decimal (map value_of fs) ≡ fs
say_digits [] h = refl
say_digits (f ∷ fs) h =
    let p = (and-eq-true_iff (is_decimal f) (every is_decimal fs)).0 h in
    rw (digits_back f p.0, say_digits fs p.1)

-- ---- how large the values are

-- what it says that a line's values are in range
pub record Ranged (number position : ℕ) (event : List ℕ) : Type 0 where
  pub short : number < 256 ^ 2
  pub least : 1 ≤ position
  pub most : position ≤ last_position
  pub seven : Seven event

pub ranged : (number position : ℕ) (event : List ℕ) → in_range number position event ≡ true → Ranged number position event
unfolding in_range_up_to
ranged number position event h =
    let p = (and-eq-true_iff (ltb number (256 ^ 2)) (between 1 last_position position && plain_seven event)).0 h in
    let q = (and-eq-true_iff (between 1 last_position position) (plain_seven event)).0 p.1 in
    let r = (and-eq-true_iff (leb 1 position) (leb position last_position)).0 q.0 in
    record {
      short = ltb-true number (256 ^ 2) p.0;
      least = leb-true 1 position r.0;
      most = leb-true position last_position r.1;
      seven = in_range_seven number position event h;
    }

-- each value is below the bound beside it
abbrev below : List ℕ → List ℕ → Bool
below [] vs = true
below (b ∷ bs) [] = true
below (b ∷ bs) (v ∷ vs) = ltb v b && below bs vs

-- what fits each width is below the bound beside it
abbrev narrow : List ℕ → List ℕ → Bool
narrow [] ws = true
narrow (b ∷ bs) [] = false
narrow (b ∷ bs) (w ∷ ws) = leb (256 ^ w) b && narrow bs ws

fit-below : (bs ws vs : List ℕ) → narrow bs ws ≡ true → fit ws vs ≡ true → below bs vs ≡ true
fit-below [] ws vs n h = refl
fit-below (b ∷ bs) [] vs n h = never n
fit-below (b ∷ bs) (w ∷ ws) [] n h = refl
fit-below (b ∷ bs) (w ∷ ws) (v ∷ vs) n h =
    let p = (and-eq-true_iff (leb (256 ^ w) b) (narrow bs ws)).0 n in
    let q = (and-eq-true_iff (ltb v (256 ^ w)) (fit ws vs)).0 h in
    let l : v < b = omega (arith, ltb-true v (256 ^ w) q.0, leb-true (256 ^ w) b p.0) in
    rw (lt-ltb v b l, fit-below bs ws vs p.1 q.1)

-- the values of an event are below bounds that hold for each row of the table
event_below : (bs : List ℕ) → narrow bs (row 1) ≡ true → narrow bs (row 2) ≡ true → narrow bs (row 3) ≡ true → narrow bs (row 4) ≡ true
    → (event : List ℕ) → Seven event → below bs (event_values (event_from event)) ≡ true
event_below bs a b c d event s =
    let rows = four (λ (ws : List ℕ). narrow bs ws ≡ true) a b c d (get_or event 0 0) s.least s.most in
    fit-below bs (row (get_or event 0 0)) (event_values (event_from event)) rows s.fits

-- an event is its type and its six values
event_cells : (event : List ℕ) → length event ≡ 7 → event ≡ get_or event 0 0 ∷ event_values (event_from event)
event_cells event l = drop-cons event 0 0 (omega arith) ∙ ap (λ (x : List ℕ). get_or event 0 0 ∷ x) (six_values event l)

-- each field's octets are the digits that its bound allows, and one
places : ℕ → ℕ
places k = 10 ^ suc k

at_most : (ks vs : List ℕ) → length vs ≤ length ks → below (map places ks) vs ≡ true → length (fields vs) ≤ total ks + 2 * length ks
unfolding places
at_most [] [] l h = omega arith
at_most [] (v ∷ vs) l h = absurd (omega arith)
at_most (k ∷ ks) [] l h = omega arith
at_most (k ∷ ks) (v ∷ vs) l h =
    let p = (and-eq-true_iff (ltb v (10 ^ suc k)) (below (map places ks) vs)).0 h in
    omega (
      arith,
      length-append (field v (parting vs)) (fields vs),
      field_at_most k v (parting vs) (ltb-true v (10 ^ suc k) p.0),
      at_most ks vs (omega arith) p.1,
    )

module _ (number position : ℕ) (event : List ℕ) (r : Ranged number position event) where
  -- every value of a line is within 64 bits
  pub all_small : every small (number ∷ position ∷ event) ≡ true
  unfolding row
  all_small =
      rw (
        event_cells event r.seven.long,
        lt-ltb number (2 ^ 64) (omega (arith, r.short)),
        lt-ltb position (2 ^ 64) (omega (arith, r.most)),
        lt-ltb (get_or event 0 0) (2 ^ 64) (omega (arith, r.seven.most)),
      )
      (event_below (2 ^ 64 ∷ 2 ^ 64 ∷ 2 ^ 64 ∷ 2 ^ 64 ∷ 2 ^ 64 ∷ 2 ^ 64 ∷ []) refl refl refl refl event r.seven)

  -- digits by field: 5, 2 and 1; of the six values at most 5, 20, 20, 20, 20 and 10
  pub all_short : length (fields (number ∷ position ∷ event)) ≤ longest_line
  unfolding row places
  all_short =
      rw (event_cells event r.seven.long)
      (at_most (4 ∷ 1 ∷ 0 ∷ 4 ∷ 19 ∷ 19 ∷ 19 ∷ 19 ∷ 9 ∷ []) (number ∷ position ∷ get_or event 0 0 ∷ event_values (event_from event)) (omega arith)
      (rw (
        lt-ltb number (10 ^ 5) (omega (arith, r.short)),
        lt-ltb position (10 ^ 2) (omega (arith, r.most)),
        lt-ltb (get_or event 0 0) 10 (omega (arith, r.seven.most)),
      )
      (event_below (10 ^ 5 ∷ 10 ^ 20 ∷ 10 ^ 20 ∷ 10 ^ 20 ∷ 10 ^ 20 ∷ 10 ^ 10 ∷ []) refl refl refl refl event r.seven)))
