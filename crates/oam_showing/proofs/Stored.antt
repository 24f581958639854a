-- Laws of rows: how they are stored number by number, what a walk is whose parts are made into rows, and one turn of the loop
-- that stores them.
use Prim.Native.Nat.{ℕ, zero, suc, ◌+◌, ◌-◌, ◌*◌, ◌/◌, ◌^◌, ◌<◌, ◌≤◌}
use mathlib.Core.Path.{◌≡◌, refl, sym, ap, subst, ◌∙◌}
use mathlib.Core.List.{List, [], ◌∷◌, map, flatten, append-nil}
use native.Mathlib.Nat.{add-zero, zero-add}
use native.Mathlib.Omega.{arith}
use borrow.Author.Tests.{ltb-true, ltb-false, lt-ltb}
use lib.Dec.{ltb, eqb}
use lib.ListN.{length, get_or, set, take, drop, length-drop, drop_of_length-le}
use lib.Seq.{sets, length-sets, take-nil, drop-nil, length-take-le}
use Rattle.frame_tlvs.specs.Walk.{Next, stop, broken, skip, has, Walk, ends, part, on_next, walk, beside}
use Rattle.frame_tlvs.specs.Counting.{more}
use Rattle.frame_tlvs.specs.declared.Cursor.{Cursor}
use Rattle.frame_tlvs.specs.Events.{event_step, next_of as event_next_of}
use Rattle.frame_body.specs.declared.InformationPart.{InformationPart}
use Rattle.frame_body.specs.declared.InformationPart.TheVariants.{Local as local, Remote as remote}
use Rattle.frame_body.specs.Information.{information_step, next_of as information_next_of}
use Rattle.frame_body.specs.Variables.{Container, value, indication, descriptor_step, descriptor_next, ContainerStep, Value, placed_content, as_container_step, container_step, container_next}
use Rattle.oam_showing.specs.Parts.{Placed, before, placed, row_numbers, row, information_row, event_row, descriptor_row, container_row, stored_rows}
use Rattle.oam_showing.specs.Storing.{mapped, awaiting, content_row_of, content_row, part_next, container_row_at, row_at, numbered, rows_from, row_stored, stood_of, next_count, next_stored, StoringRow}
use Rattle.std.specs.Prelude.{Option, None, Some, Result, Ok, Err}
use Rattle.octets.specs.declared.refusal.Refusal.{Refusal}
use Rattle.frame_tlvs.specs.declared.Placed.{Placed as FoundPlaced}
use Rattle.frame_body.specs.declared.Container.{Container as FoundContainer}
use Rattle.frame_body.specs.declared.Content.{Content}
use Rattle.frame_body.specs.declared.Content.TheVariants.{Value as FoundValue, Indication as FoundIndication}
use Rattle.octets.proofs.Bools.{by_cond, whether}
use Rattle.frame_tlvs.proofs.Walks.{Ahead, Rest, Then, Leads, turn}
use Rattle.frame_tlvs.proofs.Rows.{six_cells}
use Rattle.frame_body.proofs.Wholes.{Contained, container_within}
use Rattle.frame_body.proofs.Judging.{information_leads}
use Rattle.frame_tlvs.proofs.Items.{event_leads}
use Rattle.frame_body.proofs.Places.{descriptor_leads, container_leads}
use Rattle.octets.proofs.Stores.{sets-append, sets_next}

-- ---- numbers stored one by one

-- the first n of some numbers, each at its index
abbrev firsts : ℕ → List ℕ → ℕ → List ℕ → List ℕ
firsts zero lent to numbers = lent
firsts (suc n) lent to numbers = set (firsts n lent to numbers) (to + n) (get_or numbers n 0)

then_rest : (n : ℕ) (lent : List ℕ) (to : ℕ) (numbers : List ℕ) → n ≤ length numbers
    → sets lent to numbers ≡ sets (firsts n lent to numbers) (to + n) (drop n numbers)
then_rest zero lent to numbers h = rw add-zero
then_rest (suc n) lent to numbers h =
    let e : to + (n + 1) ≡ to + suc n = omega arith in
    let d : n + 1 ≡ suc n = omega arith in
    then_rest n lent to numbers (omega (arith, h)) ∙ (rw (e, d) at (sets_next (firsts n lent to numbers) to numbers n (omega (arith, h))))

-- all of them
pub one_by_one : (n : ℕ) (lent : List ℕ) (to : ℕ) (numbers : List ℕ) → length numbers ≡ n → firsts n lent to numbers ≡ sets lent to numbers
one_by_one n lent to numbers e =
    sym (then_rest n lent to numbers (omega (arith, e)) ∙ ap (λ (xs : List ℕ). sets (firsts n lent to numbers) (to + n) xs) (drop_of_length-le numbers {i = n} (omega (arith, e))))

-- seven numbers leave no room for zeros
pub full_row : (kind next skipped : ℕ) (numbers : List ℕ) → length numbers ≡ 7
    → kind ∷ next ∷ skipped ∷ get_or numbers 0 0 ∷ get_or numbers 1 0 ∷ get_or numbers 2 0 ∷ get_or numbers 3 0 ∷ get_or numbers 4 0 ∷ get_or numbers 5 0 ∷ get_or numbers 6 0 ∷ [] ≡ row kind next skipped numbers
full_row kind next skipped [] h = absurd (omega arith)
full_row kind next skipped (a ∷ rest) h =
    let six : length rest ≡ 6 = omega arith in
    rw six (ap (λ (xs : List ℕ). kind ∷ next ∷ skipped ∷ a ∷ xs) (sym (six_cells rest six) ∙ sym (append-nil rest)))

-- ---- what a function stores of what stands at a cursor

-- nothing but what is said of it
pub as_it_stood : {c : Cursor} {count first : ℕ} {next : Next (ℕ → List ℕ)} {entry : List ℕ}
    → StoringRow c first next count entry (stood_of c next) (next_count count next) (next_stored c.skipped count first next entry)
as_it_stood = record { stands = refl; counted = refl; stored = refl }

-- ---- rows that are stored leave the lent numbers as many as they were

length-row_stored : (count first : ℕ) (row lent : List ℕ) → length (row_stored count first row lent) ≡ length lent
length-row_stored count first row lent =
    by_cond (λ l. length l ≡ length lent) (ltb count first) (λ _. refl) (λ _.
    by_cond (λ l. length l ≡ length lent) (ltb (count - first) (length lent / row_numbers)) (λ _. length-sets lent ((count - first) * row_numbers) row) (λ _. refl))

-- ---- a container as the code finds it

-- a value lies within the frame, and has as many octets as its width says
pub value_width : (f : List ℕ) (at descriptor width next : ℕ) → container_step f at ≡ Value descriptor width next
    → (width ≤ next) × (length (take width (drop (next - width) f)) ≡ width)
value_width f at descriptor width next e =
    let h = subst (Contained at (length f)) e (container_within f at) in
    let w : width ≤ next = omega (arith, h.0) in
    (w, length-take-le width (drop (next - width) f) (omega (arith, w, h.1, length-drop (next - width) f)))

content_found : (f : List ℕ) (at : ℕ) (descriptor : ℕ) (content : Content) (end : ℕ) → placed_content descriptor content end ≡ container_step f at
    → has (content_row_of descriptor content end) end ≡ mapped (awaiting container_row) (placed (container_next f (placed_content descriptor content end)))
content_found f at descriptor (FoundValue width) end e =
    ap (λ (octets : ℕ). has (λ skipped. row 36 end skipped (descriptor ∷ (end - octets) ∷ octets ∷ [])) end)
    (sym (value_width f at descriptor width end (sym e)).1)
content_found f at descriptor (FoundIndication octet) end e = refl

found : (f : List ℕ) (at : ℕ) (x : Option (Result (FoundPlaced FoundContainer) Refusal)) → as_container_step x ≡ container_step f at
    → part_next content_row x ≡ mapped (awaiting container_row) (placed (container_next f (as_container_step x)))
found f at None e = refl
found f at (Some (Err r)) e = refl
found f at (Some (Ok p)) e = content_found f at p.part.descriptor p.part.content p.end e

pub container_found : (f : List ℕ) (at : ℕ) (x : Option (Result (FoundPlaced FoundContainer) Refusal)) → as_container_step x ≡ container_step f at
    → part_next content_row x ≡ container_row_at f at
container_found f at x e = found f at x e ∙ ap (λ (c : ContainerStep). mapped (awaiting container_row) (placed (container_next f c))) e

-- ---- a walk whose parts are made into something else

module _ {P Q R : Type 0} (make : P → Q) (next : ℕ → Next P) (made : ℕ → Next Q) (same : (at : ℕ) → mapped make (next at) ≡ made at)
    (of_made : Q × ℕ → R) (of_part : P × ℕ → R) (agree : (p : P) (skipped : ℕ) → of_made (make p, skipped) ≡ of_part (p, skipped)) where
  onward : (go : ℕ → Walk P) (gone : ℕ → Walk Q) → ((n skipped : ℕ) → map of_made (beside skipped (gone n)) ≡ map of_part (beside skipped (go n)))
      → (skipped : ℕ) (x : Next P) → map of_made (beside skipped (on_next (mapped make x) gone)) ≡ map of_part (beside skipped (on_next x go))
  onward go gone h skipped stop = refl
  onward go gone h skipped broken = refl
  onward go gone h skipped (skip n) = h n (skipped + 1)
  onward go gone h skipped (has p n) = λ i. agree p skipped i ∷ h n skipped i

  -- it has what is made of the parts, beside the same numbers
  pub beside_mapped : (steps at skipped : ℕ) → map of_made (beside skipped (walk made steps at)) ≡ map of_part (beside skipped (walk next steps at))
  unfolding walk
  beside_mapped zero at skipped = refl
  beside_mapped (suc steps) at skipped =
      rw (← same at) (onward (λ n. walk next steps n) (λ n. walk made steps n) (λ n. beside_mapped steps n) skipped (next at))

-- ---- what stands at an octet as a row

-- a row has its count of numbers, whichever number it awaits
abbrev Filled : Next (ℕ → List ℕ) → Type 0
Filled stop = Unit
Filled broken = Unit
Filled (skip n) = Unit
Filled (has row n) = (skipped : ℕ) → length (row skipped) ≡ row_numbers

-- it ends with the frame, leads on, and is a row
pub record Sound (at len : ℕ) (x : Next (ℕ → List ℕ)) : Type 0 where
  pub end : len ≤ at → x ≡ stop
  pub ahead : Ahead at len x
  pub filled : Filled x

module _ {P : Type 0} (row : Placed P × ℕ → List ℕ) (next : ℕ → Next P) (len : ℕ) (leads : Leads next len) (fills : (p : P) (n skipped : ℕ) → length (row (before p n, skipped)) ≡ row_numbers) where
  ahead_row : (at : ℕ) (x : Next P) → Ahead at len x → Ahead at len (mapped (awaiting row) (placed x))
  ahead_row at stop h = tt
  ahead_row at broken h = tt
  ahead_row at (skip n) h = h
  ahead_row at (has p n) h = h

  filled_row : (x : Next P) → Filled (mapped (awaiting row) (placed x))
  filled_row stop = tt
  filled_row broken = tt
  filled_row (skip n) = tt
  filled_row (has p n) = fills p n

  sound_row : (at : ℕ) → Sound at len (mapped (awaiting row) (placed (next at)))
  sound_row at =
      record {
        end = λ h. ap (λ (x : Next P). mapped (awaiting row) (placed x)) (leads.end at h);
        ahead = ahead_row at (next at) (leads.ahead at);
        filled = filled_row (next at);
      }

information_fills : (p : InformationPart) (n skipped : ℕ) → length (information_row (before p n, skipped)) ≡ row_numbers
information_fills (local i) n skipped = refl
information_fills (remote i) n skipped = refl

container_fills : (p : Container) (n skipped : ℕ) → length (container_row (before p n, skipped)) ≡ row_numbers
container_fills (value d x) n skipped = refl
container_fills (indication d o) n skipped = refl

sound : (code : ℕ) (f : List ℕ) (at : ℕ) → Sound at (length f) (row_at code f at)
sound code f at =
    let P = Sound at (length f) in
    by_cond P (eqb code 0) (λ _. sound_row information_row (λ n. information_next_of (information_step f n)) (length f) (information_leads f) information_fills at) (λ _.
    by_cond P (eqb code 1) (λ _. sound_row event_row (λ n. event_next_of (event_step f n)) (length f) (event_leads f) (λ _ _ _. refl) at) (λ _.
    by_cond P (eqb code 2) (λ _. sound_row descriptor_row (λ n. descriptor_next (descriptor_step f n)) (length f) (descriptor_leads f) (λ _ _ _. refl) at) (λ _.
    by_cond P (eqb code 3) (λ _. sound_row container_row (λ n. container_next f (container_step f n)) (length f) (container_leads f) container_fills at) (λ _.
    record { end = λ _. refl; ahead = tt; filled = tt }))))

row_leads : (code : ℕ) (f : List ℕ) → Leads (λ at. row_at code f at) (length f)
row_leads code f = record { end = λ at. (sound code f at).end; ahead = λ at. (sound code f at).ahead }

-- ---- the loop that stores rows

module _ (first room : ℕ) where
  -- after a count of parts, what is left to store of the rows that follow, and where
  abbrev left : ℕ → List (List ℕ) → List ℕ
  left count rows = flatten (take (room / row_numbers - (count - first)) (drop (first - count) rows))

  abbrev to : ℕ → ℕ
  to count = (count - first) * row_numbers

  none_left : (count : ℕ) → left count [] ≡ []
  unfolding flatten
  none_left count = rw (drop-nil (first - count), take-nil (room / row_numbers - (count - first)))

  store_next : (count : ℕ) (row : List ℕ) (rows : List (List ℕ)) (lent : List ℕ) → length lent ≡ room → length row ≡ row_numbers
      → sets lent (to count) (left count (row ∷ rows)) ≡ sets (row_stored count first row lent) (to (count + 1)) (left (count + 1) rows)
  unfolding flatten
  store_next count row rows lent e filled =
      rw e (
      whether (ltb count first) (λ a.
      let h = ltb-true count first a in
      let p : first - count ≡ suc (first - (count + 1)) = omega (arith, h) in
      let z : count - first ≡ 0 = omega (arith, h) in
      let y : count + 1 - first ≡ 0 = omega (arith, h) in
      rw (a, p, z, y)) (λ a.
      let h = ltb-false count first a in
      let p : first - count ≡ 0 = omega (arith, h) in
      let q : first - (count + 1) ≡ 0 = omega (arith, h) in
      whether (ltb (count - first) (room / row_numbers)) (λ b.
      let k = ltb-true (count - first) (room / row_numbers) b in
      let s : room / row_numbers - (count - first) ≡ suc (room / row_numbers - (count + 1 - first)) = omega (arith, h, k) in
      let t : to (count + 1) ≡ to count + row_numbers = omega (arith, h) in
      rw (a, b, p, q, s, t) (sets-append lent (to count) row (flatten (take (room / row_numbers - (count + 1 - first)) rows)) ∙ rw filled)) (λ b.
      let k = ltb-false (count - first) (room / row_numbers) b in
      let s : room / row_numbers - (count - first) ≡ 0 = omega (arith, h, k) in
      let t : room / row_numbers - (count + 1 - first) ≡ 0 = omega (arith, h, k) in
      rw (a, b, s, t))))

module _ (code : ℕ) (f : List ℕ) (from first : ℕ) (lent : List ℕ) where
  -- what the loop comes to: the count of rows, and the lent numbers
  abbrev answer : ℕ × List ℕ
  answer = (length (rows_from code f from), sets lent 0 (stored_rows first (length lent) (rows_from code f from)))

  -- what it makes of the walk that is left, so many skipped before it
  abbrev fold : ℕ → ℕ → List ℕ → Walk (ℕ → List ℕ) → ℕ × List ℕ
  fold skipped count now w =
      let rows = numbered (beside skipped w) in
      (count + length rows, sets now (to first (length lent) count) (left first (length lent) count rows))

  -- What holds at each turn of the loop, and what one turn comes to. As each TLV has octets, no more were skipped than lie before
  -- the cursor.
  abbrev pub Going : List ℕ → Cursor → ℕ → Type 0
  Going now c count = (c.skipped ≤ c.at) × Rest (λ n. row_at code f n) (length f) answer (fold c.skipped count now) c.at

  abbrev pub Gone : Cursor → ℕ → ℕ → List ℕ → Option Cursor → Type 0
  Gone c count count' now None = (count', now) ≡ answer
  Gone c count count' now (Some after) = Going now after count' × (c.at < after.at) × (after.at ≤ length f) × (count' ≤ count + 1) × (length now ≡ length lent)

  pub start : Going lent (record { at = from; skipped = 0 }) 0
  start =
      (omega arith, (length f, omega arith, λ i. (zero-add (length (rows_from code f from)) i, stored i)))
    where
      stored : sets lent (to first (length lent) 0) (left first (length lent) 0 (rows_from code f from)) ≡ sets lent 0 (stored_rows first (length lent) (rows_from code f from))
      stored =
          let z : 0 - first ≡ 0 = omega arith in
          let p : first - 0 ≡ first = omega arith in
          let r : length lent / row_numbers - 0 ≡ length lent / row_numbers = omega arith in
          rw (z, p, r)

  ended : (now : List ℕ) (skipped count : ℕ) → (count, now) ≡ fold skipped count now ends
  ended now skipped count = λ i. (sym (add-zero count) i, ap (λ (xs : List ℕ). sets now (to first (length lent) count) xs) (sym (none_left first (length lent) count)) i)

  counted : (now : List ℕ) (row : ℕ → List ℕ) (skipped count : ℕ) (w : Walk (ℕ → List ℕ)) → length now ≡ length lent → length (row skipped) ≡ row_numbers
      → fold skipped count now (part row w) ≡ fold skipped (count + 1) (row_stored count first (row skipped) now) w
  counted now row skipped count w l filled =
      let rows = numbered (beside skipped w) in
      let e : count + suc (length rows) ≡ count + 1 + length rows = omega arith in
      λ i. (e i, store_next first (length lent) count (row skipped) rows now l filled i)

  module _ (short : length f < 2 ^ 64) (now : List ℕ) (c : Cursor) (count : ℕ) (l : length now ≡ length lent) where
    -- one more is counted, where the octet ahead lies within the frame
    one_more : (n : ℕ) → c.skipped ≤ c.at → c.at < n → n ≤ length f → more c.skipped ≡ c.skipped + 1
    one_more n a b d = rw (lt-ltb c.skipped (2 ^ 64 - 1) (omega (arith, short, a, b, d)))

    gone : (x : Next (ℕ → List ℕ)) → Ahead c.at (length f) x → Filled x → c.skipped ≤ c.at
        → Then (λ n. row_at code f n) (length f) answer (fold c.skipped count now) x
        → Gone c count (next_count count x) (next_stored c.skipped count first x now) (stood_of c x)
    gone stop a r s h = ended now c.skipped count ∙ h
    gone broken a r s h = ended now c.skipped count ∙ h
    gone (skip n) a r s (g, h, e) =
        let m = one_more n s a.0 a.1 in ((omega (arith, m, s, a.0), (g, h, rw m e)), a.0, a.1, omega arith, l)
    gone (has row n) a r s (g, h, e) =
        ((omega (arith, s, a.0), (g, h, sym (counted now row c.skipped count (walk (λ m. row_at code f m) g n) l (r c.skipped)) ∙ e)), a.0, a.1, omega arith, length-row_stored count first (row c.skipped) now ∙ l)

    pub one_turn : {count' : ℕ} {stood : Option Cursor} {exit : List ℕ} → Going now c count
        → StoringRow c first (row_at code f c.at) count now stood count' exit → Gone c count count' exit stood
    one_turn (s, h) r =
        rw (r.stands, r.counted, r.stored)
        (gone (row_at code f c.at) (sound code f c.at).ahead (sound code f c.at).filled s
        (turn (λ n. row_at code f n) (length f) (row_leads code f) answer (fold c.skipped count now) c.at h))
