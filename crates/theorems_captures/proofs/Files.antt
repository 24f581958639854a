-- A file lists as the records that it was written of, in either byte order.
use Prim.Native.Nat.{ℕ, zero, suc, ◌+◌, ◌/◌, ◌^◌, ◌≤◌, ◌<◌}
use mathlib.Core.Path.{◌≡◌, refl, sym, ap, ◌∙◌}
use mathlib.Core.Bool.{Bool, true, false}
use mathlib.Core.List.{List, [], ◌∷◌, ◌++◌, append-nil, append_assoc}
use native.Mathlib.Omega.{arith}
use borrow.Author.Tests.{le-leb, lt-leb}
use lib.ListN.{length, get_or, take, drop, length-append}
use lib.Seq.{take_at, get_or-drop, get_or-take, length-take-le}
use Rattle.octets.proofs.Numbers.{past, number_read, length-oct}
use Rattle.text.proofs.Bounds.{by_bound}
use Rattle.text_listing.specs.Rows.{header}
use Rattle.text_listing.specs.declared.row.Entry.TheVariants.{Refused}
use Rattle.text_captures.specs.Captures.{num_little, number, magic, link_type, is_little, is_capture, stored_of, original_of, record_size, is_whole, record_entry, entries, numbered, capture_listing}
use Rattle.theorems_captures.specs.Files.{oct_little, four_octets, FileRecord, Fitting, AllFitting, record_octets, all_octets, file_with, file_of, ending_inside, entry_for, entries_for}
use Rattle.theorems_captures.specs.Records.{IsRecord}
use Rattle.theorems_captures.proofs.Records.{record_before, inside_entry, no_entry}
use Rattle.theorems_captures.proofs.Numbers.{number_same}

-- ---- numbers

length_little : (w v : ℕ) → length (oct_little w v) ≡ w
length_little zero v = refl
length_little (suc w) v = omega (arith, length_little w (v / 256))

length_four : (little : Bool) (v : ℕ) → length (four_octets little v) ≡ 4
unfolding four_octets
length_four true v = length_little 4 v
length_four false v = length-oct 4 v

longer_by_four : (little : Bool) (v : ℕ) (y : List ℕ) → length (four_octets little v ++ y) ≡ 4 + length y
longer_by_four little v y = omega (arith, length-append (four_octets little v) y, length_four little v)

-- where four octets of a number stand, it is read
little_read : (v : ℕ) (s : List ℕ) (at : ℕ) (y : List ℕ) → v < 2 ^ 32 → drop at s ≡ oct_little 4 v ++ y → num_little 4 s at ≡ v
little_read v s at y h e =
    let octet : (i : ℕ) → get_or s (at + i) 0 ≡ get_or (oct_little 4 v ++ y) i 0 = λ i. sym (get_or-drop at s i 0) ∙ ap (λ (l : List ℕ). get_or l i 0) e in
    rw (octet 0, octet 1, octet 2, octet 3) (omega arith)

four_read : (little : Bool) (v : ℕ) (s : List ℕ) (at : ℕ) (y : List ℕ) → v < 2 ^ 32 → drop at s ≡ four_octets little v ++ y → number little s at ≡ v
unfolding four_octets number
four_read true v s at y h e = little_read v s at y h e
four_read false v s at y h e = number_read 4 v s at y h e

-- ---- a record

module _ (little : Bool) (r : FileRecord) (fitting : Fitting r) where
  abbrev s : List ℕ
  s = record_octets little r

  abbrev four : ℕ → List ℕ
  four v = four_octets little v

  -- its lengths, and its octets
  at_4 : drop 4 s ≡ four r.fraction ++ (four (length r.octets) ++ (four r.original ++ r.octets))
  at_4 = past s 0 4 (four r.seconds) _ (length_four little r.seconds) refl

  at_8 : drop 8 s ≡ four (length r.octets) ++ (four r.original ++ r.octets)
  at_8 = past s 4 4 (four r.fraction) _ (length_four little r.fraction) at_4

  at_12 : drop 12 s ≡ four r.original ++ r.octets
  at_12 = past s 8 4 (four (length r.octets)) _ (length_four little (length r.octets)) at_8

  at_16 : drop 16 s ≡ r.octets
  at_16 = past s 12 4 (four r.original) _ (length_four little r.original) at_12

  stored_read : stored_of little s ≡ length r.octets
  stored_read = four_read little (length r.octets) s 8 _ fitting.0 at_8

  original_read : original_of little s ≡ r.original
  original_read = four_read little r.original s 12 _ fitting.1 at_12

  size : length s ≡ 16 + length r.octets
  size =
      let two = four (length r.octets) ++ (four r.original ++ r.octets) in
      omega (
        arith,
        longer_by_four little r.seconds (four r.fraction ++ two),
        longer_by_four little r.fraction two,
        longer_by_four little (length r.octets) (four r.original ++ r.octets),
        longer_by_four little r.original r.octets,
      )

  is_record : IsRecord little s
  is_record = size ∙ rw stored_read

  entry_read : record_entry little s ≡ entry_for r
  unfolding record_entry
  entry_read =
      let octets : take (length r.octets) r.octets ≡ r.octets = ap (take (length r.octets)) (sym (append-nil r.octets)) ∙ take_at r.octets [] (length r.octets) refl in
      rw (stored_read, original_read, at_16, octets)

all_read : (little : Bool) (rs : List FileRecord) (rest : List ℕ) → AllFitting rs → entries little (all_octets little rs ++ rest) ≡ entries_for rs ++ entries little rest
all_read little [] rest fitting = refl
all_read little (r ∷ rs) rest fitting =
    rw (append_assoc (record_octets little r) (all_octets little rs) rest)
    (record_before little (record_octets little r) (all_octets little rs ++ rest) (is_record little r fitting.0)
    ∙ rw (entry_read little r fitting.0, all_read little rs rest fitting.1))

-- the first octets of a record: the file ends inside it
module _ (little : Bool) (r : FileRecord) (count : ℕ) (fitting : Fitting r) (few : count < length (record_octets little r)) where
  abbrev part : List ℕ
  part = take count (record_octets little r)

  many : length part ≡ count
  many = length-take-le count (record_octets little r) (omega arith)

  not_whole : is_whole little part ≡ false
  unfolding is_whole
  not_whole =
      let s = record_octets little r in
      by_bound count 16
      (λ short. lt-leb (record_size little part) (length part) (omega (arith, many)))
      (λ enough.
      let stored : stored_of little part ≡ stored_of little s = number_same 16 part s (λ i h. get_or-take count s i 0 (omega arith)) little 8 (omega arith) in
      lt-leb (record_size little part) (length part) (omega (arith, many, stored, is_record little r fitting)))

  inside_read : 0 < count → entries little part ≡ Refused 18 ∷ []
  inside_read some = inside_entry little part (omega (arith, many)) not_whole

-- ---- a file

-- by its magic number a file tells its byte order
told : (little : Bool) (y : List ℕ) → is_little (four_octets little magic ++ y) ≡ little
unfolding is_little number four_octets
told true y = refl
told false y = refl

module _ (little : Bool) (between octets : List ℕ) (unread : length between ≡ 16) where
  abbrev file : List ℕ
  file = file_with little between octets

  after_between : drop 20 file ≡ four_octets little link_type ++ octets
  after_between = past file 4 16 between _ unread (past file 0 4 (four_octets little magic) _ (length_four little magic) refl)

  after_header : drop 24 file ≡ octets
  after_header = past file 20 4 (four_octets little link_type) _ (length_four little link_type) after_between

  is_capture_lem : is_capture file ≡ true
  unfolding is_capture
  is_capture_lem =
      let linked = four_octets little link_type ++ octets in
      let long : 24 ≤ length file = omega (arith, longer_by_four little magic (between ++ linked), length-append between linked, longer_by_four little link_type octets) in
      let magic_read = four_read little magic file 0 _ (omega arith) refl in
      let type_read = four_read little link_type file 20 _ (omega arith) after_between in
      rw (le-leb 24 (length file) long, told little (between ++ linked), magic_read, type_read)

  file_rows : capture_listing file ≡ header ++ numbered 1 (entries little octets)
  unfolding capture_listing
  file_rows = rw (is_capture_lem, told little (between ++ (four_octets little link_type ++ octets)), after_header)

-- ---- the theorems

module _ (little : Bool) (between : List ℕ) (rs : List FileRecord) (unread : length between ≡ 16) (fitting : AllFitting rs) where
  -- what was written is listed
  pub file_listed : capture_listing (file_of little between rs) ≡ header ++ numbered 1 (entries_for rs)
  file_listed =
      let rows : entries little (all_octets little rs) ≡ entries_for rs =
      ap (entries little) (sym (append-nil (all_octets little rs))) ∙ all_read little rs [] fitting ∙ rw (no_entry little) (append-nil (entries_for rs)) in
      file_rows little between (all_octets little rs) unread ∙ rw rows

  -- the file ends inside a further record
  pub inside_listed : (r : FileRecord) (count : ℕ) → Fitting r → 0 < count → count < length (record_octets little r)
      → capture_listing (ending_inside little between rs r count) ≡ header ++ numbered 1 (entries_for rs ++ (Refused 18 ∷ []))
  inside_listed r count one some few =
      file_rows little between (all_octets little rs ++ take count (record_octets little r)) unread
      ∙ rw (all_read little rs (take count (record_octets little r)) fitting, inside_read little r count one few some)

-- the same records in the other byte order give the same listing
module _ (between between' : List ℕ) (rs : List FileRecord) (unread : length between ≡ 16) (unread' : length between' ≡ 16) (fitting : AllFitting rs) where
  pub either_order : capture_listing (file_of true between rs) ≡ capture_listing (file_of false between' rs)
  either_order = file_listed true between rs unread fitting ∙ sym (file_listed false between' rs unread' fitting)

  -- also where the file ends inside a further one
  pub either_order_inside : (r : FileRecord) (count : ℕ) → Fitting r → 0 < count → count < 16 + length r.octets
      → capture_listing (ending_inside true between rs r count) ≡ capture_listing (ending_inside false between' rs r count)
  either_order_inside r count one some few =
      inside_listed true between rs unread fitting r count one some (omega (arith, size true r one))
      ∙ sym (inside_listed false between' rs unread' fitting r count one some (omega (arith, size false r one)))
