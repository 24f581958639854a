-- The rows of a file's records: 18 is in the last one, and there exactly where the file ends inside a record; 16 is in none.
use Prim.Native.Nat.{ℕ, zero, suc, ◌≤◌, ◌<◌}
use mathlib.Core.Path.{◌≡◌, refl, sym, ap, ◌∙◌}
use mathlib.Core.Bool.{Bool, true, false, not}
use mathlib.Core.List.{List, [], ◌∷◌, ◌++◌, append-nil, append_assoc, map}
use native.Mathlib.Omega.{arith}
use borrow.Author.Tests.{ne_eqb, leb-true, le-leb}
use lib.Dec.{ltb}
use lib.ListN.{length, take, drop, length-append, length-drop, take-append-drop}
use lib.Seq.{take_at, drop_at, get_or-take, length-take-le, drop-append-le}
use Rattle.octets.proofs.Bools.{whether, by_cond}
use Rattle.octets.proofs.Stores.{empty}
use Rattle.frame.specs.Frame.{Answer, refused, accepted, decode}
use Rattle.frame.proofs.Stepping.{refused_number}
use Rattle.text.proofs.Bounds.{by_bound}
use Rattle.text_listing.specs.Rows.{entry_of, row_of, header}
use Rattle.text_listing.specs.declared.row.Entry.{Entry}
use Rattle.text_listing.specs.declared.row.Entry.TheVariants.{Refused}
use Rattle.text_captures.specs.Captures.{is_little, is_capture, stored_of, original_of, record_size, is_whole, record_entry, entries_up_to, entries, numbered, capture_listing}
use Rattle.theorems_captures.specs.Records.{IsRecord, AreRecords, joined, records_in, EndsAtRecord, entries_in, is_refusal, without, OnlyLast}
use Rattle.theorems_captures.proofs.Numbers.{number_same, same_before}

-- ---- one record after another

module _ (little : Bool) where
  -- there are all octets of a whole record
  whole_size : (s : List ℕ) → is_whole little s ≡ true → record_size little s ≤ length s
  unfolding is_whole
  whole_size s is = leb-true (record_size little s) (length s) is

  -- more turns than there are octets say no more
  enough_turns : (m k : ℕ) (s : List ℕ) → length s ≤ m → length s ≤ k → entries_up_to m little s ≡ entries_up_to k little s
  unfolding entries_up_to
  enough_turns zero zero s h g = refl
  enough_turns zero (suc k) [] h g = refl
  enough_turns zero (suc k) (c ∷ s) h g = absurd (omega arith)
  enough_turns (suc m) zero [] h g = refl
  enough_turns (suc m) zero (c ∷ s) h g = absurd (omega arith)
  enough_turns (suc m) (suc k) [] h g = refl
  enough_turns (suc m) (suc k) (c ∷ s) h g =
      let left = length-drop (record_size little (c ∷ s)) (c ∷ s) in
      rw (enough_turns m k (drop (record_size little (c ∷ s)) (c ∷ s)) (omega arith) (omega arith))

  -- the first record, and the others
  first_entry : (s : List ℕ) → is_whole little s ≡ true → entries little s ≡ record_entry little s ∷ entries little (drop (record_size little s) s)
  unfolding entries entries_up_to
  first_entry [] is = absurd (omega (arith, whole_size [] is))
  first_entry (c ∷ s) is =
      let rest = drop (record_size little (c ∷ s)) (c ∷ s) in
      rw (is, enough_turns (length s) (length rest) rest (omega (arith, length-drop (record_size little (c ∷ s)) (c ∷ s))) (omega arith))

  -- no whole record: the file ends inside one
  pub inside_entry : (s : List ℕ) → 0 < length s → is_whole little s ≡ false → entries little s ≡ Refused 18 ∷ []
  unfolding entries entries_up_to
  inside_entry [] some not = absurd (omega arith)
  inside_entry (c ∷ s) some not = rw not

  -- no octet is left
  pub no_entry : entries little [] ≡ []
  unfolding entries entries_up_to
  no_entry = refl

  -- a record with others after it
  module _ (s rest : List ℕ) (is : IsRecord little s) where
    long_enough : 16 ≤ length s
    long_enough = omega (arith, is)

    size_before : record_size little (s ++ rest) ≡ record_size little s
    size_before = rw (number_same 16 (s ++ rest) s (same_before s rest 16 long_enough) little 8 (omega arith))

    whole_before : is_whole little (s ++ rest) ≡ true
    unfolding is_whole
    whole_before = le-leb (record_size little (s ++ rest)) (length (s ++ rest)) (omega (arith, is, size_before, length-append s rest))

    entry_before : record_entry little (s ++ rest) ≡ record_entry little s
    unfolding record_entry
    entry_before =
        let same = same_before s rest 16 long_enough in
        let stored = number_same 16 (s ++ rest) s same little 8 (omega arith) in
        let original = number_same 16 (s ++ rest) s same little 12 (omega arith) in
        let many : length (drop 16 s) ≡ stored_of little s = omega (arith, length-drop 16 s, is) in
        let octets : take (stored_of little s) (drop 16 s) ≡ drop 16 s = ap (take (stored_of little s)) (sym (append-nil (drop 16 s))) ∙ take_at (drop 16 s) [] (stored_of little s) many in
        rw (stored, original, drop-append-le 16 s rest long_enough, take_at (drop 16 s) rest (stored_of little s) many, octets)

    pub record_before : entries little (s ++ rest) ≡ record_entry little s ∷ entries little rest
    record_before = first_entry (s ++ rest) whole_before ∙ rw (entry_before, size_before, drop_at s rest (record_size little s) is)

  records_before : (parts : List (List ℕ)) (rest : List ℕ) → AreRecords little parts → entries little (joined parts ++ rest) ≡ map (record_entry little) parts ++ entries little rest
  records_before [] rest are = refl
  records_before (s ∷ parts) rest are =
      rw (append_assoc s (joined parts) rest) (record_before s (joined parts ++ rest) are.0 ∙ ap (λ (x : List Entry). record_entry little s ∷ x) (records_before parts rest are.1))

  -- ---- any octets are records, and what is left of a last one

  record Split (s : List ℕ) : Type 0 where
    pub parts : List (List ℕ)
    pub tail : List ℕ
    pub records : AreRecords little parts
    pub whole : joined parts ++ tail ≡ s
    pub inside : 0 < length tail → is_whole little tail ≡ false

  first_record : (s : List ℕ) → is_whole little s ≡ true → IsRecord little (take (record_size little s) s)
  first_record s is =
      let part = take (record_size little s) s in
      let many : length part ≡ record_size little s = length-take-le (record_size little s) s (whole_size s is) in
      let stored : stored_of little part ≡ stored_of little s = number_same 16 part s (λ i h. get_or-take (record_size little s) s i 0 (omega arith)) little 8 (omega arith) in
      many ∙ rw stored

  split : (most : ℕ) (s : List ℕ) → length s ≤ most → Split s
  split zero s h = record { parts = []; tail = s; records = tt; whole = refl; inside = λ some. absurd (omega arith) }
  split (suc most) s h =
      whether (is_whole little s)
      (λ is.
      let next = split most (drop (record_size little s) s) (omega (arith, length-drop (record_size little s) s)) in
      record {
        parts = take (record_size little s) s ∷ next.parts;
        tail = next.tail;
        records = (first_record s is, next.records);
        whole = append_assoc (take (record_size little s) s) (joined next.parts) next.tail ∙ rw next.whole (take-append-drop (record_size little s) s);
        inside = next.inside;
      })
      (λ not. record { parts = []; tail = s; records = tt; whole = refl; inside = λ _. not })

-- ---- what the entries of records are not

-- the frame's reader answers 1 to 8
frame_answer : (f : List ℕ) (answer : ℕ) → 8 < answer → is_refusal answer (entry_of (decode f)) ≡ false
frame_answer f answer h = go (decode f) refl
  where
    go : (a : Answer) → decode f ≡ a → is_refusal answer (entry_of a) ≡ false
    go (accepted m) e = refl
    go (refused n) e = ne_eqb n answer (λ same. absurd (omega (arith, refused_number f n e)))

record_answer : (little : Bool) (s : List ℕ) (answer : ℕ) → 8 < answer → (17 ≡ answer → ⊥) → is_refusal answer (record_entry little s) ≡ false
unfolding record_entry
record_answer little s answer h other =
    by_cond (λ (entry : Entry). is_refusal answer entry ≡ false) (ltb (stored_of little s) (original_of little s)) (λ _. ne_eqb 17 answer other) (λ _. frame_answer _ answer h)

no_record_answers : (little : Bool) (parts : List (List ℕ)) (answer : ℕ) → 8 < answer → (17 ≡ answer → ⊥) → without answer (map (record_entry little) parts) ≡ true
no_record_answers little [] answer h other = refl
no_record_answers little (s ∷ parts) answer h other = rw (record_answer little s answer h other, no_record_answers little parts answer h other)

no_16_up_to : (most : ℕ) (little : Bool) (s : List ℕ) → without 16 (entries_up_to most little s) ≡ true
unfolding entries_up_to
no_16_up_to zero little s = refl
no_16_up_to (suc most) little [] = refl
no_16_up_to (suc most) little (c ∷ s) =
    by_cond (λ (rows : List Entry). without 16 rows ≡ true) (is_whole little (c ∷ s))
    (λ _. rw (record_answer little (c ∷ s) 16 (omega arith) (λ e. absurd (omega (arith, e))), no_16_up_to most little (drop (record_size little (c ∷ s)) (c ∷ s))))
    (λ _. refl)

-- ---- the theorems

module _ (input : List ℕ) where
  -- 16 means the listing's header and one row, and no other row is 16
  pub line_0_only : is_capture input ≡ false → capture_listing input ≡ header ++ row_of 0 (Refused 16)
  unfolding capture_listing
  line_0_only not = rw not

  pub no_16 : is_capture input ≡ true → (capture_listing input ≡ header ++ numbered 1 (entries_in input)) × (without 16 (entries_in input) ≡ true)
  unfolding capture_listing entries
  no_16 is = (rw is, no_16_up_to (length (records_in input)) (is_little input) (records_in input))

  -- 18 is in no row where the input ends at a record's end
  pub no_18 : EndsAtRecord input → without 18 (entries_in input) ≡ true
  no_18 ends =
      let little = is_little input in
      let rows : entries_in input ≡ map (record_entry little) ends.parts =
      ap (entries little) (sym (append-nil (joined ends.parts) ∙ ends.whole)) ∙ records_before little ends.parts [] ends.records
      ∙ rw (no_entry little) (append-nil (map (record_entry little) ends.parts)) in
      rw rows (no_record_answers little ends.parts 18 (omega arith) (λ e. absurd (omega (arith, e))))

  -- where it does not, 18 is in the last row and in no other
  pub last_is_18 : (EndsAtRecord input → ⊥) → OnlyLast 18 (entries_in input)
  last_is_18 elsewhere =
      let little = is_little input in
      let t = split little (length (records_in input)) (records_in input) (omega arith) in
      record {
        before = map (record_entry little) t.parts;
        others = no_record_answers little t.parts 18 (omega arith) (λ e. absurd (omega (arith, e)));
        all =
            ap (entries little) (sym t.whole) ∙ records_before little t.parts t.tail t.records
            ∙ by_bound 0 (length t.tail)
            (λ some. rw (inside_entry little t.tail some (t.inside some)))
            (λ none.
            absurd
            (elsewhere (record { parts = t.parts; records = t.records; whole = sym (append-nil (joined t.parts)) ∙ rw (empty t.tail (omega arith)) at t.whole })));
      }
