-- There is room for any row that is said.
use Rattle.std.proofs.Common.{Result, Ok, Err, false, take, Option, Some, None, ◌≡◌, ℕ, ◌<◌, ◌≤◌, eqb, ltb, List, length, refl, ap, ◌∙◌, arith, le-ltb, lt-ltb}
use mir.Val.{Val}
use denote.Laws.{Is}
use Rattle.octets.proofs.Bools.{by_cond}
use Rattle.text.specs.Put.{Put}
use Rattle.text.proofs.Puts.{fitting, stored_there}
use lib.Seq.{sets}
use Rattle.octets.specs.declared.refusal.Refusal.{Refusal}
use Rattle.octets.specs.Refusals.{number}
use Rattle.std.specs.contracts.option.Option.{the_row}
use Rattle.text_listing.specs.contracts.row.Entry.{the_row as entry_row}
use Rattle.text_listing.specs.Rows.{row_of, row_room}
use Rattle.text_listing.specs.declared.row.Entry.{Entry}
use Rattle.text_listing.specs.Feeding.{Written, Refused as NoRoom, as_finished, octets_written}
use Rattle.text_listing.proofs.Lengths.{refused_within, row_within}
use Rattle.text_captures.specs.declared.progress.Awaited.{Awaited}
use Rattle.text_captures.specs.declared.progress.Awaited.TheVariants.{FileHeader, RecordHeader, Frame, Nothing}
use Rattle.text_captures.specs.declared.progress.Progress.{Progress}
use Rattle.text_captures.specs.Feeding.{left_by, left_to_say, row_said, last_row, Finishes}

-- what code can hold: an entry's numbers are of their types
pub said_within : (n : ℕ) (said : Option Entry) {held : List Val} → Is (the_row entry_row) said held → length (row_said n said) ≤ row_room
said_within n None is = omega arith
said_within n (Some entry) is = row_within n entry is.1.1.1.1.0

last_within : (n : ℕ) (awaited : Awaited) (filled : ℕ) → length (row_said n (left_by awaited filled)) ≤ row_room
last_within n FileHeader filled = refused_within n 16 (omega arith)
last_within n RecordHeader filled = by_cond (λ (said : Option Entry). length (row_said n said) ≤ row_room) (eqb filled 0) (λ _. omega arith) (λ _. refused_within n 18 (omega arith))
last_within n Frame filled = refused_within n 18 (omega arith)
last_within n Nothing filled = omega arith

-- ---- the three ways in which the end keeps its promise

module _ (p : Progress) (out : List ℕ) where
  pub finishes_none : left_to_say p ≡ None → Finishes p out (Written 0) out
  finishes_none none = record { result = rw none; output = rw none (by_cond (λ (x : List ℕ). out ≡ x) (ltb (length out) row_room) (λ _. refl) (λ _. refl)); fits = omega arith }

  module _ (entry : Entry) (row : left_to_say p ≡ Some entry) where
    pub finishes_short : length out < row_room → Finishes p out (NoRoom 9) out
    finishes_short short = record { result = rw (row, lt-ltb (length out) row_room short); output = rw (lt-ltb (length out) row_room short); fits = omega arith }

    pub finishes : {r : ℕ} {out' : List ℕ} → row_room ≤ length out → Put (row_of p.number entry) out 0 r out' → Finishes p out (Written r) out'
    finishes {r} {out'} room put =
        let most : length (row_of p.number entry) ≤ row_room = rw row at (last_within p.number p.awaited p.filled) in
        let stored = fitting _ _ _ put (omega arith) in
        let enough = le-ltb (length out) row_room room in
        record {
          result = rw (row, enough) (ap Written (omega (arith, stored.next)));
          output = stored.output ∙ rw (enough, row);
          fits = omega (arith, stored.within, stored.next);
        }

  -- with room for a row, what is left to say is at the output's front
  pub said_last : (r : Result ℕ Refusal) {out' : List ℕ} → row_room ≤ length out → Finishes p out (as_finished r) out'
      → (n : ℕ) × (r ≡ Ok n) × (take n out' ≡ last_row p)
  said_last r {out'} room fin = go r fin (left_to_say p) refl
    where
      enough : ltb (length out) row_room ≡ false
      enough = le-ltb (length out) row_room room

      go : (r : Result ℕ Refusal) → Finishes p out (as_finished r) out' → (said : Option Entry) → left_to_say p ≡ said
          → (n : ℕ) × (r ≡ Ok n) × (take n out' ≡ last_row p)
      go (Ok n) fin (Some entry) e =
          let row = row_of p.number entry in
          let written : Written n ≡ Written (length row) = fin.result ∙ rw (e, enough) in
          let same : n ≡ length row = ap octets_written written in
          let stored : out' ≡ sets out 0 row = fin.output ∙ rw (enough, e) in
          (n, refl, rw (stored, same, e) (stored_there out 0 row (omega (arith, fin.fits))))
      go (Ok n) fin None e =
          let written : Written n ≡ Written 0 = fin.result ∙ rw e in
          let same : n ≡ 0 = ap octets_written written in
          (n, refl, rw (same, e) refl)
      go (Err x) fin (Some entry) e =
          let apart : NoRoom (number x) ≡ Written (length (row_of p.number entry)) = fin.result ∙ rw (e, enough) in
          let z : ◌≡◌ {A = ℕ} 0 1 = cc in
          absurd (omega arith)
      go (Err x) fin None e =
          let apart : NoRoom (number x) ≡ Written 0 = fin.result ∙ rw e in
          let z : ◌≡◌ {A = ℕ} 0 1 = cc in
          absurd (omega arith)
