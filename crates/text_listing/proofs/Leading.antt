-- How a call goes on over a piece: a character of a line, and an octet of two digits.
use Rattle.std.proofs.Common.{◌≡◌, ℕ, ◌+◌, ◌-◌, ◌*◌, ◌<◌, ◌≤◌, false, List, length, get_or, set, sym, refl, ap, ◌∙◌, true≢false, append-nil, mod-eq_of_lt, arith, le-ltb, lt-ltb, ne_eqb, le-leb}
use Rattle.text_listing.specs.declared.line.Line.{Line}
use Rattle.text_listing.specs.declared.line.Line.TheVariants.{Whole, Half}
use Rattle.text.specs.Marks.{newline}
use Rattle.text_listing.specs.Lines.{is_digit}
use Rattle.text.specs.Pieces.{fed_from}
use Rattle.text.proofs.Stages.{next_cell}
use Rattle.text_listing.specs.Taking.{value_of, held, line_with, frame_with}
use Rattle.text_listing.specs.Feeding.{Leads, Scans}
use Rattle.text_listing.proofs.Digits.{digit}

-- a part of a piece, and another after it
pub scans_then : {piece f f' f'' : List ℕ} {line line' line'' : Line} {at at' at'' : ℕ}
    → Scans piece line f at line' f' at' → Scans piece line' f' at' line'' f'' at'' → Scans piece line f at line'' f'' at''
scans_then p q =
    record {
      onward = omega (arith, p.onward, q.onward);
      within = q.within;
      leads = λ room number said. p.leads room number said ∙ q.leads room number said;
    }

-- a character that ends no line
pub one_taken : (piece : List ℕ) (line : Line) (f : List ℕ) (at : ℕ) → at < length piece → (get_or piece at 0 ≡ newline → ⊥)
    → Leads piece line f at (line_with line (get_or piece at 0)) (frame_with f line (get_or piece at 0)) (at + 1)
unfolding fed_from
one_taken piece line f at h other room number said =
    rw (next_cell piece at h)
    (rw (ne_eqb (get_or piece at 0) newline other, le-ltb (room - length said) 0 (omega arith), append-nil said))

-- a digit ends no line
newline_foreign : is_digit newline ≡ false
unfolding is_digit
newline_foreign = refl

no_newline : (c : ℕ) → value_of c ≤ 15 → c ≡ newline → ⊥
no_newline c h e = true≢false (sym (digit c h) ∙ ap is_digit e ∙ newline_foreign)

-- the first digit of an octet, and the second
first_digit : (f : List ℕ) (n c : ℕ) → value_of c ≤ 15 → (line_with (Whole n) c ≡ Half n (value_of c)) × (frame_with f (Whole n) c ≡ f)
unfolding line_with frame_with
first_digit f n c h = let d = digit c h in (rw d, rw d)

second_digit : (f : List ℕ) (n high c : ℕ) → n < held f → high ≤ 15 → value_of c ≤ 15
    → (line_with (Half n high) c ≡ Whole (n + 1)) × (frame_with f (Half n high) c ≡ set f n (high * 16 + value_of c))
unfolding line_with frame_with
second_digit f n high c room h k =
    let d = digit c k in
    let below : high < 16 = omega arith in
    (simp (d, le-leb n 1514 (omega arith)), rw (d, mod-eq_of_lt below, lt-ltb n (held f) room))

-- an octet of two digits that the frame holds
pub octet_taken : (piece f : List ℕ) (n at : ℕ) → at + 1 < length piece → n < held f
    → value_of (get_or piece at 0) ≤ 15 → value_of (get_or piece (at + 1) 0) ≤ 15
    → Leads piece (Whole n) f at (Whole (n + 1)) (set f n (value_of (get_or piece at 0) * 16 + value_of (get_or piece (at + 1) 0))) (at + 2)
octet_taken piece f n at within fits h k room number said =
    let a = get_or piece at 0 in
    let b = get_or piece (at + 1) 0 in
    let first = first_digit f n a h in
    let second = second_digit f n (value_of a) b fits h k in
    let e : at + 1 + 1 ≡ at + 2 = omega arith in
    one_taken piece (Whole n) f at (omega arith) (no_newline a h) room number said
    ∙ rw (first.0, first.1)
    (one_taken piece (Half n (value_of a)) f (at + 1) within (no_newline b k) room number said ∙ rw (second.0, second.1, e))
