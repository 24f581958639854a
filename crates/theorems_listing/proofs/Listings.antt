-- The theorems: however an input is cut into pieces, and whatever room each call has, the header, all that is said and what the
-- end says make up the listing of the input; and calls with room for a row take it all.
use Prim.Native.Nat.{ℕ, ◌≤◌}
use mathlib.Core.Path.{◌≡◌, refl, sym, ap, ◌∙◌}
use mathlib.Core.Bool.{Bool, true, false, cond}
use mathlib.Core.List.{List, [], ◌∷◌, ◌++◌, append-nil}
use native.Mathlib.Omega.{arith}
use borrow.Author.Tests.{lt-ltb, le-leb, lt-leb}
use lib.Dec.{eqb}
use lib.ListN.{length}
use Rattle.text.specs.Pieces.{Call, to_say, Within, Able}
use Rattle.octets.proofs.Bools.{by_cond}
use Rattle.text.proofs.Bounds.{by_bound}
use Rattle.theorems_listing.proofs.Pieces.{said_whole, taken_whole_lem as all_taken}
use Rattle.text_listing.specs.declared.line.Line.{Line}
use Rattle.text_listing.specs.declared.line.Line.TheVariants.{Whole, Half, Foreign}
use Rattle.text.specs.Marks.{newline}
use Rattle.text_listing.specs.Rows.{row_of, row_room, header}
use Rattle.text_listing.specs.Lines.{is_digit, digit_of, longer, lines}
use Rattle.text_listing.specs.Listing.{following, rows, listing}
use Rattle.text_listing.specs.Taking.{fresh, counted, with_digit, store_digit, line_with, frame_with, has_begun}
use Rattle.text_listing.specs.Feeding.{begun, State, present_row, goes_on, ends, last_row, lister}
use Rattle.text_listing.proofs.Keeping.{length-keep}
use Rattle.theorems_listing.specs.Runs.{run, entry_after}
use Rattle.theorems_listing.proofs.Texts.{line_entry_lem}

-- ---- what there is to say is the rows of the input's lines

-- the rows of some lines, of which the first goes on from a state
unfoldable going_on : State → List (List ℕ) → List ℕ
going_on s [] = last_row s
going_on s (text ∷ rest) = row_of s.progress.number (entry_after s.progress.line s.frame text) ++ rows (following s.progress.number) rest

frame_kept : (f : List ℕ) (line : Line) (c : ℕ) → length (frame_with f line c) ≡ length f
unfolding frame_with
frame_kept f line c = go (is_digit c) line
  where
    go : (b : Bool) (line : Line) → length (cond b (store_digit f line (digit_of c)) f) ≡ length f
    go false line = refl
    go true (Whole n) = refl
    go true (Half n high) = length-keep f n _
    go true Foreign = refl

-- a line that has a character has begun
has_begun_lem : (line : Line) (c : ℕ) → has_begun (line_with line c) ≡ true
unfolding line_with
has_begun_lem line c = go (is_digit c) line
  where
    go : (b : Bool) (line : Line) → has_begun (cond b (with_digit line (digit_of c)) Foreign) ≡ true
    go false line = refl
    go true (Whole n) = refl
    go true (Half n high) = by_bound 1514 n (λ h. lt-ltb 0 (counted n) (simp (lt-leb n 1514 h) (omega arith))) (λ h. lt-ltb 0 (counted n) (simp (le-leb n 1514 h) (omega arith)))
    go true Foreign = refl

-- a fresh line goes on with its own text
from_fresh : (number : ℕ) (f : List ℕ) (texts : List (List ℕ)) → 1514 ≤ length f
    → going_on (record { progress = record { number = number; line = fresh }; frame = f }) texts ≡ rows number texts
unfolding going_on rows last_row
from_fresh number f [] e = refl
from_fresh number f (text ∷ rest) e = rw (line_entry_lem f text e)

-- a character before the first line is one that the state has taken
one_before : (s : State) (c : ℕ) (texts : List (List ℕ)) → going_on (goes_on s c) texts ≡ going_on s (longer c texts)
unfolding going_on rows last_row entry_after
one_before s c [] = rw (has_begun_lem s.progress.line c) (sym (append-nil _))
one_before s c (text ∷ rest) = refl

-- by whether a character ends the line
by_end : (s : State) (c : ℕ) (rest : List ℕ) (texts : List (List ℕ)) (ended : Bool) → 1514 ≤ length s.frame
    → to_say lister (ends s) rest ≡ going_on (ends s) texts → to_say lister (goes_on s c) rest ≡ going_on (goes_on s c) texts
    → cond ended (present_row s) [] ++ to_say lister (cond ended (ends s) (goes_on s c)) rest ≡ going_on s (cond ended ([] ∷ texts) (longer c texts))
unfolding going_on entry_after
by_end s c rest texts true e after later =
    ap (λ (said : List ℕ). present_row s ++ said) (after ∙ from_fresh (following s.progress.number) s.frame texts e)
by_end s c rest texts false e after later = later ∙ one_before s c texts

by_lines : (s : State) (input : List ℕ) → 1514 ≤ length s.frame → to_say lister s input ≡ going_on s (lines input)
unfolding to_say going_on lines
by_lines s [] e = refl
by_lines s (c ∷ rest) e =
    by_end s c rest (lines rest) (eqb c newline) e (by_lines (ends s) rest e)
    (by_lines (goes_on s c) rest (rw (frame_kept s.frame s.progress.line c) e))

-- ---- the theorems

-- all that there is to say of an input, after the header
pub all_listed : (frame input : List ℕ) → 1514 ≤ length frame → header ++ to_say lister (record { progress = begun; frame = frame }) input ≡ listing input
unfolding listing
all_listed frame input long =
    ap (λ (said : List ℕ). header ++ said) (by_lines (record { progress = begun; frame = frame }) input long ∙ from_fresh 1 frame (lines input) long)

pub listed : (frame input : List ℕ) (calls : List Call) → 1514 ≤ length frame → (run frame input calls).left ≡ []
    → header ++ ((run frame input calls).said ++ last_row (run frame input calls).state) ≡ listing input
listed frame input calls long whole =
    ap (λ (said : List ℕ). header ++ said) (said_whole lister (record { progress = begun; frame = frame }) input calls whole) ∙ all_listed frame input long

-- no character wants more room than a row
row_wanted : Within lister row_room
row_wanted s c = by_cond (λ (n : ℕ). n ≤ row_room) (eqb c newline) (λ _. omega arith) (λ _. omega arith)

-- as many able calls as the input has characters take it all
pub taken_whole_lem : (frame input : List ℕ) (calls : List Call) → Able row_room calls → length input ≤ length calls → (run frame input calls).left ≡ []
taken_whole_lem frame input calls able h = all_taken lister row_room row_wanted (record { progress = begun; frame = frame }) input calls able h
