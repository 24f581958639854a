-- A line that is taken a character at a time comes to the entry of its text, with a working frame of any length.
use Prim.Native.Nat.{ℕ, ◌+◌, ◌*◌, min, ◌≤◌, ◌<◌}
use mathlib.Core.Path.{◌≡◌, refl, ap, ◌∙◌}
use mathlib.Core.Bool.{Bool, true, false, cond, ◌&&◌}
use mathlib.Core.List.{List, [], ◌∷◌}
use native.Mathlib.Nat.{mod-eq_of_lt}
use native.Mathlib.Numerals.{add-one}
use native.Mathlib.Omega.{arith}
use borrow.Author.Tests.{lt-ltb, le-ltb, le-leb, lt-leb}
use lib.Dec.{leb}
use lib.ListN.{length, take, set}
use lib.Seq.{sets, sets-eq, take_at}
use Rattle.text.proofs.Bounds.{by_bound}
use Rattle.frame.specs.Frame.{refused, header_answer, decode}
use Rattle.text_listing.specs.declared.line.Line.TheVariants.{Whole, Foreign}
use Rattle.std.specs.Prelude.{Some}
use Rattle.text_listing.specs.declared.row.Entry.{Entry}
use Rattle.text_listing.specs.declared.row.Entry.TheVariants.{Refused}
use Rattle.text_listing.specs.Rows.{entry_of}
use Rattle.text_listing.specs.Lines.{is_digit, digit_of, hexadecimal, octets_of}
use Rattle.text_listing.specs.Listing.{line_entry}
use Rattle.text_listing.specs.Taking.{fresh, counted, held, keep, too_many, line_with, frame_with, decoded_entry}
use Rattle.text_listing.proofs.Digits.{small}
use Rattle.text_listing.proofs.Keeping.{length-keep}
use Rattle.theorems_listing.specs.Runs.{entry_after, entry_in, line_entry_in}

-- a foreign line stays foreign
still_foreign : (c : ℕ) → line_with Foreign c ≡ Foreign
unfolding line_with
still_foreign c = go (is_digit c)
  where
    go : (b : Bool) → cond b Foreign Foreign ≡ Foreign
    go true = refl
    go false = refl

after_foreign : (f text : List ℕ) → entry_after Foreign f text ≡ Refused 14
unfolding entry_after
after_foreign f [] = refl
after_foreign f (c ∷ text) = rw (still_foreign c) (after_foreign (frame_with f Foreign c) text)

-- ---- octets counted and kept

counts : (n : ℕ) → counted (min n 1515) ≡ min (n + 1) 1515
counts n =
    by_bound n 1515
    (λ h. simp (le-leb (min n 1515) 1514 (omega arith)) (omega arith))
    (λ h. simp (lt-leb (min n 1515) 1514 (omega arith)) (omega arith))

keeps : (f : List ℕ) (n v : ℕ) → keep f (min n 1515) v ≡ keep f n v
keeps f n v =
    by_bound n 1515
    (λ h. let same : min n 1515 ≡ n = omega arith in rw same)
    (λ h. rw (le-ltb (min n 1515) (held f) (omega arith), le-ltb n (held f) (omega arith)))

-- octets one after the other
unfoldable keep_all : List ℕ → ℕ → List ℕ → List ℕ
keep_all f n [] = f
keep_all f n (octet ∷ octets) = keep_all (keep f n octet) (n + 1) octets

length-keep_all : (f : List ℕ) (n : ℕ) (octets : List ℕ) → length (keep_all f n octets) ≡ length f
unfolding keep_all
length-keep_all f n [] = refl
length-keep_all f n (octet ∷ octets) = length-keep_all (keep f n octet) (n + 1) octets ∙ length-keep f n octet

-- all of them are stored, where the frame holds them
all_kept : (octets f : List ℕ) (n : ℕ) → n + length octets ≤ held f → keep_all f n octets ≡ sets f n octets
unfolding keep_all
all_kept [] f n h = refl
all_kept (octet ∷ octets) f n h =
    let here : keep f n octet ≡ set f n octet = rw (lt-ltb n (held f) (omega arith)) in
    let rest : n + 1 + length octets ≤ held (keep f n octet) = omega (arith, length-keep f n octet) in
    all_kept octets (keep f n octet) (n + 1) rest ∙ rw (here, add-one n)

-- ---- a text after so many octets

abbrev whole_entry : List ℕ → ℕ → List ℕ → Entry
whole_entry f n text = decoded_entry (keep_all f n (octets_of text)) (Some (min (n + length (octets_of text)) 1515))

-- one digit is no octet
odd_digit : (f : List ℕ) (n a : ℕ) → entry_after (Whole n) f (a ∷ []) ≡ Refused 14
unfolding entry_after line_with frame_with
odd_digit f n a = go (is_digit a) refl
  where
    go : (b : Bool) → is_digit a ≡ b → entry_after (Whole n) f (a ∷ []) ≡ Refused 14
    go true e = rw e
    go false e = rw e

-- two digits and what follows, by what they are
two_digits : (a b : ℕ) (text f : List ℕ) (n : ℕ)
    → ((v : ℕ) → entry_after (Whole (min (n + 1) 1515)) (keep f n v) text ≡ cond (hexadecimal text) (whole_entry (keep f n v) (n + 1) text) (Refused 14))
    → (x y : Bool) → is_digit a ≡ x → is_digit b ≡ y
    → entry_after (Whole (min n 1515)) f (a ∷ b ∷ text) ≡ cond (x && y && hexadecimal text) (whole_entry f n (a ∷ b ∷ text)) (Refused 14)
unfolding entry_after line_with frame_with octets_of keep_all
two_digits a b text f n rest true true p q =
    let v = digit_of a * 16 + digit_of b in
    let below : digit_of a < 16 = omega (arith, small a p) in
    let longer : n + 1 + length (octets_of text) ≡ n + length (v ∷ octets_of text) = omega arith in
    rw (p, q, counts n, mod-eq_of_lt below, keeps f n v) (rest v ∙ rw longer)
two_digits a b text f n rest true false p q = rw (p, q) (after_foreign f text)
two_digits a b text f n rest false y p q = rw p (after_foreign f (b ∷ text))

taken_in : (text : List ℕ) (n : ℕ) (f : List ℕ)
    → entry_after (Whole (min n 1515)) f text ≡ cond (hexadecimal text) (whole_entry f n text) (Refused 14)
unfolding entry_after hexadecimal octets_of keep_all
taken_in [] n f = let none : n + 0 ≡ n = omega arith in rw none
taken_in (a ∷ []) n f = odd_digit f (min n 1515) a
taken_in (a ∷ b ∷ text) n f =
    two_digits a b text f n (λ (v : ℕ). taken_in text (n + 1) (keep f n v)) (is_digit a) (is_digit b) refl refl

-- ---- the octets of a whole line, by whether the frame holds them

-- "received frame is not 60 to 1,514 octets"
pub too_long : (f : List ℕ) → 1514 < length f → decode f ≡ refused 1
unfolding decode header_answer
too_long f h = simp (le-ltb (length f) 60 (omega arith), lt-ltb 1514 (length f) h)

module _ (f octets : List ℕ) where
  abbrev all : List ℕ
  all = keep_all f 0 octets

  first_octets : length octets ≤ held f → take (length octets) all ≡ octets
  first_octets h =
      ap (take (length octets)) (all_kept octets f 0 (omega arith) ∙ sets-eq octets f 0 (omega arith)) ∙ take_at octets _ (length octets) refl

  held_all : held all ≡ held f
  held_all = ap (λ (n : ℕ). min n 1514) (length-keep_all f 0 octets)

  -- the frame holds them, it is too short for them, or no frame has so many
  holds : length octets ≤ held f → decoded_entry all (Some (min (0 + length octets) 1515)) ≡ entry_in (length f) octets
  unfolding entry_in
  holds h =
      let same : min (0 + length octets) 1515 ≡ length octets = omega arith in
      let now : length octets ≤ held all = omega (arith, held_all) in
      rw (same, le-leb (length octets) (held all) now, first_octets h, le-leb (length octets) (length f) (omega arith))

  too_short : length f < length octets → length octets ≤ 1514 → decoded_entry all (Some (min (0 + length octets) 1515)) ≡ entry_in (length f) octets
  unfolding entry_in
  too_short h k =
      let same : min (0 + length octets) 1515 ≡ length octets = omega arith in
      let now : held all < length octets = omega (arith, held_all) in
      rw (same, lt-leb (length octets) (held all) now, lt-leb (length octets) (length f) h)

  -- either way a frame of so many octets is answered 1
  refused_length : (b : Bool) → 1514 < length octets → Refused 1 ≡ cond b (entry_of (decode octets)) (Refused (too_many (length octets)))
  refused_length true h = rw (too_long octets h)
  refused_length false h = rw (lt-leb (length octets) 1514 h)

  no_frame : 1514 < length octets → decoded_entry all (Some (min (0 + length octets) 1515)) ≡ entry_in (length f) octets
  unfolding entry_in
  no_frame h =
      let same : min (0 + length octets) 1515 ≡ 1515 = omega arith in
      let now : held all < 1515 = omega (arith, held_all) in
      rw (same, lt-leb 1515 (held all) now) (refused_length (leb (length octets) (length f)) h)

  all_octets_lem : decoded_entry all (Some (min (0 + length octets) 1515)) ≡ entry_in (length f) octets
  all_octets_lem =
      by_bound 1514 (length octets) no_frame
      (λ short. by_bound (length f) (length octets) (λ h. too_short h short) (λ h. holds (omega arith)))

-- a whole line, with a working frame of any length
pub line_entry_in_lem : (f text : List ℕ) → entry_after fresh f text ≡ line_entry_in (length f) text
unfolding line_entry_in
line_entry_in_lem f text = taken_in text 0 f ∙ ap (λ (x : Entry). cond (hexadecimal text) x (Refused 14)) (all_octets_lem f (octets_of text))

-- a working frame of 1,514 octets or more has room for whatever is a frame
entry_in_lem : (room : ℕ) (octets : List ℕ) → 1514 ≤ room → entry_in room octets ≡ entry_of (decode octets)
unfolding entry_in
entry_in_lem room octets h =
    by_bound room (length octets)
    (λ long. rw (lt-leb (length octets) room long, lt-leb (length octets) 1514 (omega arith), too_long octets (omega arith)))
    (λ fits. rw (le-leb (length octets) room fits))

pub line_entry_lem : (f text : List ℕ) → 1514 ≤ length f → entry_after fresh f text ≡ line_entry text
unfolding line_entry line_entry_in
line_entry_lem f text h = line_entry_in_lem f text ∙ ap (λ (x : Entry). cond (hexadecimal text) x (Refused 14)) (entry_in_lem (length f) (octets_of text) h)
