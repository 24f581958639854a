-- The input's end: a line that has begun has its row.
use Rattle.std.proofs.Common.{Result, Ok, Err, take, ◌≡◌, ℕ, ◌<◌, ◌≤◌, Bool, true, false, cond, ltb, List, [], length, refl, ap, ◌∙◌, arith, le-ltb, lt-ltb}
use lib.Seq.{sets}
use Rattle.octets.specs.declared.refusal.Refusal.{Refusal}
use Rattle.octets.specs.Refusals.{number}
use Rattle.text.specs.Put.{Stored}
use Rattle.text.proofs.Puts.{stored_there}
use Rattle.text_listing.specs.declared.feeding.Progress.{Progress}
use Rattle.text_listing.specs.Rows.{row_room}
use Rattle.text_listing.specs.Taking.{has_begun}
use Rattle.text_listing.specs.Feeding.{State, Written, Refused as NoRoom, as_finished, octets_written, present_row, last_row, Finishes}

-- nothing is said
nothing_by_room : (b : Bool) → cond {A = List ℕ} b [] [] ≡ []
nothing_by_room true = refl
nothing_by_room false = refl

module _ (p : Progress) (f out : List ℕ) where
  abbrev state : State
  state = record { progress = p; frame = f }

  -- the three ways in which the end keeps its promise
  pub finishes : {out' : List ℕ} {r : ℕ} → has_begun p.line ≡ true → row_room ≤ length out → Stored (present_row state) out 0 r out'
      → Finishes p f out (Written r) out'
  unfolding last_row
  finishes begun room row =
      record {
        result = rw (begun, le-ltb (length out) row_room room) (ap Written (omega (arith, row.next)));
        output = row.output ∙ rw (begun, le-ltb (length out) row_room room);
        fits = omega (arith, row.next, row.within);
      }

  pub finishes_short : has_begun p.line ≡ true → length out < row_room → Finishes p f out (NoRoom 9) out
  finishes_short begun short = record { result = rw (begun, lt-ltb (length out) row_room short); output = rw (lt-ltb (length out) row_room short); fits = omega arith }

  pub finishes_none : has_begun p.line ≡ false → Finishes p f out (Written 0) out
  unfolding last_row
  finishes_none fresh = record { result = rw fresh; output = rw (fresh, nothing_by_room (ltb (length out) row_room)); fits = omega arith }

  -- with room for a row, what is left to say is at the output's front
  pub said : (r : Result ℕ Refusal) {out' : List ℕ} → row_room ≤ length out → Finishes p f out (as_finished r) out'
      → (n : ℕ) × (r ≡ Ok n) × (take n out' ≡ last_row state)
  unfolding last_row
  said r {out'} room fin = go r fin (has_begun p.line) refl
    where
      enough : ltb (length out) row_room ≡ false
      enough = le-ltb (length out) row_room room

      go : (r : Result ℕ Refusal) → Finishes p f out (as_finished r) out' → (b : Bool) → has_begun p.line ≡ b
          → (n : ℕ) × (r ≡ Ok n) × (take n out' ≡ cond (has_begun p.line) (present_row state) [])
      go (Ok n) fin true e =
          let row = present_row state in
          let written : Written n ≡ Written (length row) = fin.result ∙ rw (e, enough) in
          let same : n ≡ length row = ap octets_written written in
          let stored : out' ≡ sets out 0 row = fin.output ∙ rw (e, enough) in
          (n, refl, rw (stored, same, e) (stored_there out 0 row (omega (arith, fin.fits))))
      go (Ok n) fin false e =
          let written : Written n ≡ Written 0 = fin.result ∙ rw e in
          let same : n ≡ 0 = ap octets_written written in
          (n, refl, rw (same, e) refl)
      go (Err x) fin true e =
          let apart : NoRoom (number x) ≡ Written (length (present_row state)) = fin.result ∙ rw (e, enough) in
          let z : ◌≡◌ {A = ℕ} 0 1 = cc in
          absurd (omega arith)
      go (Err x) fin false e =
          let apart : NoRoom (number x) ≡ Written 0 = fin.result ∙ rw e in
          let z : ◌≡◌ {A = ℕ} 0 1 = cc in
          absurd (omega arith)
