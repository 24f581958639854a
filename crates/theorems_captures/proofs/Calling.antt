-- What `feed` promises is a call of a run, and what `finish` promises its last row.
use Prim.Native.Nat.{ℕ, ◌≤◌}
use mathlib.Core.Path.{◌≡◌, refl, ◌∙◌}
use mathlib.Core.List.{List}
use native.Mathlib.Omega.{arith}
use borrow.Author.Tests.{le-ltb}
use lib.ListN.{length, take}
use lib.Seq.{sets}
use Rattle.std.specs.Prelude.{Option, Some, None}
use Rattle.text_listing.specs.Rows.{row_of, row_room}
use Rattle.text_listing.specs.Feeding.{Finished, Written, octets_written}
use Rattle.text_listing.specs.declared.row.Entry.{Entry}
use Rattle.theorems_listing.specs.Runs.{IsCall}
use Rattle.text.proofs.Puts.{stored_there}
use Rattle.theorems_listing.proofs.Calling.{stage_is_call}
use Rattle.text_captures.specs.declared.progress.Progress.{Progress}
use Rattle.text.specs.declared.pieces.Place.{Place}
use Rattle.text.specs.Pieces.{stage, Feeds}
use Rattle.text_captures.specs.Feeding.{left_to_say, last_row, captures, Finishes}

pub is_call : (p : Progress) (at : Place) (f piece out rest said : List ℕ) {p' : Progress} {at' : Place} {f' out' : List ℕ} → at.waiting ≤ length out
    → Feeds captures piece (stage p at f out) (stage p' at' f' out')
    → IsCall captures piece rest said (stage p at f out) (stage p' at' f' out')
is_call p at f piece out rest said fits feeds = stage_is_call captures piece rest said (stage p at f out) feeds.comes (feeds.fits fits)

-- the octets that `finish` has written, where it has room
pub last_written : (p : Progress) (out : List ℕ) {r : Finished} {out' : List ℕ} → row_room ≤ length out → Finishes p out r out' → take (octets_written r) out' ≡ last_row p
last_written p out {r} {out'} room f = go (left_to_say p) refl
  where
    go : (said : Option Entry) → left_to_say p ≡ said → take (octets_written r) out' ≡ last_row p
    go None e = rw (f.result, e)
    go (Some entry) e =
        let row = row_of p.number entry in
        let enough = le-ltb (length out) row_room room in
        let written : r ≡ Written (length row) = f.result ∙ rw (e, enough) in
        let stored : out' ≡ sets out 0 row = f.output ∙ rw (enough, e) in
        let within : length row ≤ length out = rw written at f.fits in
        rw (written, stored, e) (stored_there out 0 row (omega arith))
