-- The theorems: however a capture file is cut into pieces, and whatever room each call has, the header, all that is said and what
-- the end says make up the listing of the file; and calls with room for a row take it all.
use Prim.Native.Nat.{ℕ, zero, suc, ◌+◌, ◌≤◌, ◌<◌}
use mathlib.Core.Path.{◌≡◌, refl, sym, ap, ◌∙◌}
use mathlib.Core.Bool.{Bool, true, false, cond}
use mathlib.Core.List.{List, [], ◌∷◌, ◌++◌, append-nil}
use native.Mathlib.Omega.{arith}
use borrow.Author.Tests.{ne_eqb, le-ltb, le-leb, lt-leb}
use lib.Dec.{eqb}
use lib.ListN.{length, take, drop, length-drop}
use lib.Seq.{sets, sets-eq, length-sets, take_at, length-take-le, drop-drop}
use Rattle.octets.proofs.Bools.{whether, by_cond}
use Rattle.frame.specs.Frame.{header_answer, decode}
use Rattle.text.specs.Pieces.{fed_from, Call, to_say, Within, Able}
use Rattle.text.proofs.Bounds.{by_bound}
use Rattle.text_listing.specs.Rows.{entry_of, row_of, row_room, header}
use Rattle.text_listing.specs.Listing.{following}
use Rattle.text_listing.specs.Taking.{held, length_entry}
use Rattle.text_listing.specs.declared.row.Entry.TheVariants.{Refused}
use Rattle.theorems_listing.proofs.Pieces.{said_whole, some_taken, taken_whole_lem as all_taken}
use Rattle.theorems_listing.proofs.Texts.{too_long}
use Rattle.text_captures.specs.declared.progress.Awaited.TheVariants.{RecordHeader}
use Rattle.text_captures.specs.declared.progress.Progress.{Progress}
use Rattle.std.specs.Prelude.{Some, None}
use Rattle.text_captures.specs.Captures.{is_little, is_capture, stored_of, original_of, record_size, is_whole, record_entry, entries_up_to, entries, numbered, capture_listing}
use Rattle.text_captures.specs.Feeding.{begun, is_last, awaiting_frame, awaiting_nothing, after_file_header, empty_entry, after_frame, after_record_header, row_said, last_row, State, captures}
use Rattle.theorems_captures.specs.Runs.{run}
use Rattle.theorems_captures.proofs.Numbers.{number_same, little_of_same, capture_same, same_stored}
use Rattle.theorems_captures.proofs.Sayings.{awaited_come, few_come, nothing_said}

-- ---- a record's octets, in a working frame that has room for any frame

module _ (f octets : List ℕ) (long : 1514 ≤ length f) where
  stored_whole : length_entry (sets f 0 octets) (length octets) ≡ entry_of (decode octets)
  stored_whole =
      let room = length-sets f 0 octets in
      by_bound 1514 (length octets)
      (λ h. rw (lt-leb (length octets) (held (sets f 0 octets)) (omega (arith, room)), lt-leb (length octets) 1514 h, too_long octets h))
      (λ h.
      rw (le-leb (length octets) (held (sets f 0 octets)) (omega (arith, room)))
      (ap (λ (x : List ℕ). entry_of (decode (take (length octets) x))) (sets-eq octets f 0 (omega arith)) ∙ rw (take_at octets (drop (0 + length octets) f) (length octets) refl)))

-- ---- records one after another

-- a record's header is awaited
abbrev before : ℕ → Bool → Progress
before n little = record { awaited = RecordHeader; number = n; little = little; filled = 0; stored = 0; original = 0 }

-- all that there is to say from there
abbrev say_from : ℕ → Bool → List ℕ → List ℕ → List ℕ
say_from n little f s = to_say captures (record { progress = before n little; frame = f }) s

module _ (n : ℕ) (little : Bool) (s : List ℕ) where
  abbrev stored : ℕ
  stored = stored_of little s

  abbrev original : ℕ
  original = original_of little s

  abbrev octets : List ℕ
  octets = take stored (drop 16 s)

  -- fewer octets than a header has
  header_short : (f : List ℕ) → 0 < length s → length s < 16 → say_from n little f s ≡ row_of n (Refused 18)
  header_short f some few = few_come s (before n little) f refl (omega arith) ∙ rw (ne_eqb (0 + length s) 0 (λ e. absurd (omega (arith, e))))

  module _ (f : List ℕ) (long : 1514 ≤ length f) (enough : 16 ≤ length s) where
    -- the working frame with the header in it
    abbrev f' : List ℕ
    f' = sets f 0 (take 16 s)

    still_long : 1514 ≤ length f'
    still_long = omega (arith, length-sets f 0 (take 16 s))

    header_come : say_from n little f s ≡ row_said n (after_record_header (before n little) f').said ++ to_say captures (record { progress = (after_record_header (before n little) f').progress; frame = f' }) (drop 16 s)
    header_come = awaited_come s (before n little) f 16 refl refl (omega arith) enough

    -- its numbers are the file's
    after_header : after_record_header (before n little) f'
        ≡ cond (eqb stored 0) (record { progress = before (following n) little; said = Some (empty_entry original) }) (record { progress = awaiting_frame (before n little) stored original; said = None })
    unfolding after_record_header
    after_header =
        let same = same_stored f s 16 (omega arith) enough in
        rw (le-ltb (length f') 16 (omega (arith, still_long)), number_same 16 f' s same little 8 (omega arith), number_same 16 f' s same little 12 (omega arith))

    -- no octet is stored: the row comes with the header
    none_stored : stored ≡ 0 → say_from n little f s ≡ row_of n (record_entry little s) ++ say_from (following n) little f' (drop 16 s)
    unfolding record_entry decode header_answer
    none_stored none = header_come ∙ rw (after_header, none)

    -- some are: the row comes with the last of them
    some_stored : 0 < stored → say_from n little f s ≡ to_say captures (record { progress = awaiting_frame (before n little) stored original; frame = f' }) (drop 16 s)
    some_stored some = header_come ∙ rw (after_header, ne_eqb stored 0 (λ e. absurd (omega (arith, e))))

    module _ (some : 0 < stored) where
      -- fewer than it says
      octets_short : length (drop 16 s) < stored → say_from n little f s ≡ row_of n (Refused 18)
      octets_short few = some_stored some ∙ few_come (drop 16 s) (awaiting_frame (before n little) stored original) f' refl (omega arith)

      all_stored : stored ≤ length (drop 16 s) → say_from n little f s ≡ row_of n (record_entry little s) ++ say_from (following n) little (sets f' 0 octets) (drop (16 + stored) s)
      unfolding after_frame record_entry
      all_stored all =
          let many : length octets ≡ stored = length-take-le stored (drop 16 s) all in
          let entry : length_entry (sets f' 0 octets) stored ≡ entry_of (decode octets) = rw many at (stored_whole f' octets still_long) in
          some_stored some ∙ awaited_come (drop 16 s) (awaiting_frame (before n little) stored original) f' stored refl (omega arith) some all
          ∙ rw (entry, drop-drop stored 16 s)

-- whether a record is whole, by how many octets there are
module _ (little : Bool) (s : List ℕ) where
  short_header : length s < 16 → is_whole little s ≡ false
  unfolding is_whole
  short_header few = lt-leb (record_size little s) (length s) (omega arith)

  short_octets : 16 ≤ length s → length (drop 16 s) < stored_of little s → is_whole little s ≡ false
  unfolding is_whole
  short_octets enough few = lt-leb (record_size little s) (length s) (omega (arith, length-drop 16 s))

  all_there : 16 ≤ length s → stored_of little s ≤ length (drop 16 s) → is_whole little s ≡ true
  unfolding is_whole
  all_there enough all = le-leb (record_size little s) (length s) (omega (arith, length-drop 16 s))

-- a whole record and what follows it, where that is said as it should be from any working frame
whole_said : (n : ℕ) (little : Bool) (f s : List ℕ) {rows : List ℕ} → 1514 ≤ length f → 16 ≤ length s → stored_of little s ≤ length (drop 16 s)
    → ((g : List ℕ) → 1514 ≤ length g → say_from (following n) little g (drop (record_size little s) s) ≡ rows)
    → say_from n little f s ≡ row_of n (record_entry little s) ++ rows
whole_said n little f s long enough all next =
    let header = sets f 0 (take 16 s) in
    let long' : 1514 ≤ length header = omega (arith, length-sets f 0 (take 16 s)) in
    by_bound 0 (stored_of little s)
    (λ some.
    let octets = take (stored_of little s) (drop 16 s) in
    all_stored n little s f long enough some all ∙ ap (λ (x : List ℕ). row_of n (record_entry little s) ++ x) (next (sets header 0 octets) (omega (arith, length-sets header 0 octets))))
    (λ none.
    let size : record_size little s ≡ 16 = omega arith in
    none_stored n little s f long enough (omega arith) ∙ ap (λ (x : List ℕ). row_of n (record_entry little s) ++ x) (rw size at (next header long')))

records_said : (most n : ℕ) (little : Bool) (f s : List ℕ) → 1514 ≤ length f → length s ≤ most → say_from n little f s ≡ numbered n (entries_up_to most little s)
unfolding to_say numbered entries_up_to
records_said zero n little f [] long h = refl
records_said zero n little f (c ∷ s) long h = absurd (omega arith)
records_said (suc most) n little f [] long h = refl
records_said (suc most) n little f (c ∷ rest) long h =
    let s = c ∷ rest in
    by_bound (length s) 16
    (λ few. header_short n little s f (omega arith) few ∙ rw (short_header little s few) (sym (append-nil _)))
    (λ enough.
    by_bound (length (drop 16 s)) (stored_of little s)
    (λ few. octets_short n little s f long enough (omega arith) few ∙ rw (short_octets little s enough few) (sym (append-nil _)))
    (λ all.
    whole_said n little f s long enough all
    (λ g k. records_said most (following n) little g (drop (record_size little s) s) k (omega (arith, length-drop (record_size little s) s)))
    ∙ rw (all_there little s enough all)))

-- ---- the file

-- what there is to say of a file, after the header of the listing
abbrev rows_of : List ℕ → List ℕ
rows_of input = cond (is_capture input) (numbered 1 (entries (is_little input) (drop 24 input))) (row_of 0 (Refused 16))

module _ (f input : List ℕ) (long : 1514 ≤ length f) where
  abbrev start : State
  start = record { progress = begun; frame = f }

  -- a file header that is short
  file_short : length input < 24 → to_say captures start input ≡ rows_of input
  unfolding is_capture
  file_short few = few_come input begun f refl (omega arith) ∙ rw (lt-leb 24 (length input) few)

  module _ (enough : 24 ≤ length input) where
    -- the working frame with the header in it
    abbrev headed : List ℕ
    headed = sets f 0 (take 24 input)

    long_headed : 1514 ≤ length headed
    long_headed = omega (arith, length-sets f 0 (take 24 input))

    is_same : (is_capture headed ≡ is_capture input) × (is_little headed ≡ is_little input)
    is_same =
        let same = same_stored f input 24 (omega arith) enough in
        (capture_same 24 headed input same (omega arith) (omega (arith, long_headed)) enough, little_of_same 24 headed input same (omega arith))

    file_come : to_say captures start input ≡ row_said 0 (after_file_header begun headed).said ++ to_say captures (record { progress = (after_file_header begun headed).progress; frame = headed }) (drop 24 input)
    file_come = awaited_come input begun f 24 refl refl (omega arith) enough

    file_taken : is_capture input ≡ true → to_say captures start input ≡ rows_of input
    unfolding after_file_header entries
    file_taken is =
        file_come
        ∙ rw (le-ltb (length headed) 24 (omega (arith, long_headed)), is_same.0, is_same.1, is)
        (records_said (length (drop 24 input)) 1 (is_little input) headed (drop 24 input) long_headed (omega arith))

    file_refused : is_capture input ≡ false → to_say captures start input ≡ rows_of input
    unfolding after_file_header
    file_refused not =
        file_come
        ∙ rw (le-ltb (length headed) 24 (omega (arith, long_headed)), is_same.0, not, nothing_said (drop 24 input) (awaiting_nothing begun) headed refl)
        (append-nil _)

  all_said : to_say captures start input ≡ rows_of input
  all_said = by_bound (length input) 24 file_short (λ enough. whether (is_capture input) (file_taken enough) (file_refused enough))

-- ---- the theorems

-- all that there is to say of a file, after the header
pub all_captured : (frame input : List ℕ) → 1514 ≤ length frame → header ++ to_say captures (record { progress = begun; frame = frame }) input ≡ capture_listing input
unfolding capture_listing
all_captured frame input long = ap (λ (said : List ℕ). header ++ said) (all_said frame input long)

pub captured : (frame input : List ℕ) (calls : List Call) → 1514 ≤ length frame → (run frame input calls).left ≡ []
    → header ++ ((run frame input calls).said ++ last_row (run frame input calls).state.progress) ≡ capture_listing input
captured frame input calls long whole =
    ap (λ (said : List ℕ). header ++ said) (said_whole captures (record { progress = begun; frame = frame }) input calls whole) ∙ all_captured frame input long

-- no octet wants more room than a row
row_wanted : Within captures row_room
row_wanted s c = by_cond (λ (n : ℕ). n ≤ row_room) (is_last s.progress) (λ _. omega arith) (λ _. omega arith)

-- as many able calls as the input has octets take it all
pub taken_whole_lem : (frame input : List ℕ) (calls : List Call) → Able row_room calls → length input ≤ length calls → (run frame input calls).left ≡ []
taken_whole_lem frame input calls able h = all_taken captures row_room row_wanted (record { progress = begun; frame = frame }) input calls able h

-- and each of them an octet or more
pub each_takes : (s : State) (room : ℕ) (piece : List ℕ) → row_room ≤ room → 0 < length piece → 0 < (fed_from captures room (record { state = s; taken = 0; said = [] }) piece).taken
each_takes s room piece h some = some_taken captures row_room row_wanted s room piece h some
