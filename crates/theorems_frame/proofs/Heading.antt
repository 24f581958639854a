-- The header of a frame, written and read.
use Prim.Native.Nat.{ℕ, ◌^◌, ◌<◌, ◌≤◌}
use mathlib.Core.Path.{◌≡◌, refl, ap, ◌∙◌}
use mathlib.Core.List.{List, [], ◌∷◌, ◌++◌}
use mathlib.Core.Bool.{true, false, not, ◌||◌}
use native.Mathlib.Omega.{arith}
use native.Mathlib.Nat.{zero-add}
use borrow.Author.Tests.{ltb-false, eqb-true, not-false, lt-ltb, le-ltb}
use lib.ListN.{length, get_or, drop}
use lib.Dec.{ltb, eqb}
use Rattle.octets.specs.Octets.{Octets, num, fields_at, octs, fit}
use Rattle.octets.specs.Layout.{shortest_frame, longest_frame, destination, length_type, subtype, body_start}
use Rattle.frame.specs.Frame.{Message, code_of, accepted, header_answer, body_answer, decode}
use Rattle.octets.proofs.Bools.{by_cond, neither}
use Rattle.frame.proofs.Stepping.{shown}
use Rattle.frame_writer.specs.Encode.{header_widths, header_values, header_octets}
use Rattle.octets.proofs.Numbers.{fields_read, fields_again}

-- a frame of 60 to 1,514 octets, with the header of a source, flags and a code
pub record Headed (f : List ℕ) (source flags code : ℕ) : Type 0 where
  pub long : shortest_frame ≤ length f
  pub short : length f ≤ longest_frame
  pub fields : fields_at header_widths f 0 ≡ header_values source flags code

-- a header that was written is read
pub header_read : (f : List ℕ) (source flags code : ℕ) (y : List ℕ) → shortest_frame ≤ length f → length f ≤ longest_frame → source < 256 ^ 6 → flags < 256 ^ 2 → code < 256
    → f ≡ header_octets source flags code ++ y → Headed f source flags code
unfolding header_octets
header_read f source flags code y a b h k l e =
    let fits : fit header_widths (header_values source flags code) ≡ true = rw (lt-ltb source (256 ^ 6) h, lt-ltb flags (256 ^ 2) k, lt-ltb code 256 l) in
    record { long = a; short = b; fields = fields_read header_widths (header_values source flags code) f 0 y refl fits e }

module _ {f : List ℕ} {source flags code : ℕ} (h : Headed f source flags code) where
  -- one of the fields
  field : (k : ℕ) → get_or (fields_at header_widths f 0) k 0 ≡ get_or (header_values source flags code) k 0
  field k = ap (λ (vs : List ℕ). get_or vs k 0) h.fields

  pub source_is : num 6 f 6 ≡ source
  source_is = field 1

  pub flags_are : num 2 f 15 ≡ flags
  flags_are = field 4

  -- nothing is refused before the body
  pub header_passes : decode f ≡ body_answer f code
  unfolding decode header_answer
  header_passes =
      let sub : get_or f 14 0 ≡ subtype = rw zero-add at (field 3) in
      let body : get_or f 17 0 ≡ code = rw zero-add at (field 5) in
      rw (le-ltb (length f) shortest_frame h.long, le-ltb longest_frame (length f) h.short, field 0, field 2, sub, body)

  -- a header that is read is written again
  pub header_again : Octets f → f ≡ header_octets source flags code ++ drop body_start f
  unfolding header_octets
  header_again o =
      let long = h.long in
      fields_again f o header_widths 0 (omega arith) ∙ ap (λ (vs : List ℕ). octs header_widths vs ++ drop body_start f) h.fields

-- ---- the header of a frame that is accepted

module _ (f : List ℕ) where
  -- where the header's tests pass, it is one, with the source, the flags and the code that stand there
  abbrev Passed : ℕ → Type 0
  Passed answer = answer ≡ 0 → (code : ℕ) → get_or f 17 0 ≡ code → Headed f (num 6 f 6) (num 2 f 15) code

  passed : Passed (header_answer f)
  unfolding header_answer
  passed =
      by_cond Passed (ltb (length f) shortest_frame || ltb longest_frame (length f)) (λ _ z. absurd (omega arith)) (λ sized.
      by_cond Passed (not (eqb (num 6 f 0) destination)) (λ _ z. absurd (omega arith)) (λ to.
      by_cond Passed (not (eqb (num 2 f 12) length_type)) (λ _ z. absurd (omega arith)) (λ type.
      by_cond Passed (not (eqb (get_or f 14 0) subtype)) (λ _ z. absurd (omega arith)) (λ sub _ code e.
      let s = neither (ltb (length f) shortest_frame) (ltb longest_frame (length f)) sized in
      record {
        long = ltb-false (length f) shortest_frame s.0;
        short = ltb-false longest_frame (length f) s.1;
        fields =
            λ i. equal (num 6 f 0) destination to i ∷ num 6 f 6 ∷ equal (num 2 f 12) length_type type i
            ∷ (zero-add (get_or f 14 0) ∙ equal (get_or f 14 0) subtype sub) i ∷ num 2 f 15 ∷ (zero-add (get_or f 17 0) ∙ e) i ∷ [];
      }))))
    where
      equal : (a b : ℕ) → not (eqb a b) ≡ false → a ≡ b
      equal a b h = eqb-true a b (not-false (eqb a b) h)

  -- the header of a message that is accepted is its frame's
  pub header_accepted : (m : Message) → decode f ≡ accepted m → Headed f m.source m.flags (code_of m.body)
  header_accepted m e =
      let s = shown f m e in
      rw (← s.source, ← s.flags) (passed s.passed (code_of m.body) s.code)
