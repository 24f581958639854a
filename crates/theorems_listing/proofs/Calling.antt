-- What a call promises that is lent an output is a call of a run.
use Prim.Native.Nat.{ℕ, ◌+◌, ◌-◌, ◌≤◌, ◌<◌}
use mathlib.Core.Path.{◌≡◌, refl, sym, ap, ◌∙◌}
use mathlib.Core.List.{List, [], ◌++◌, append_assoc}
use native.Mathlib.Nat.{add-zero}
use native.Mathlib.Omega.{arith}
use lib.ListN.{length, take, drop, length-drop}
use lib.Seq.{sets, sets-eq, length-take-le, take_at, drop_at, drop-drop, drop-append-le}
use Rattle.text.specs.Pieces.{Steps, Fed, fed_from, to_say, Within, Call, Run, Stage, stage_after, gone_on, stage, Feeds}
use Rattle.text.specs.declared.pieces.Place.{Place}
use Rattle.theorems_listing.specs.Runs.{IsCall}
use Rattle.theorems_listing.proofs.Pieces.{further, counted_from, taken_within, some_taken, said_in_all, one_call}
use Rattle.text.proofs.Puts.{stored_there}
use Rattle.text_listing.specs.declared.feeding.Progress.{Progress}
use Rattle.text_listing.specs.Feeding.{lister}

-- of any steps
module _ {S : Type 0} (r : Steps S) (piece rest said : List ℕ) (a : Stage S) where
  abbrev here : List ℕ
  here = drop a.taken piece

  abbrev room : ℕ
  room = length a.output - a.waiting

  -- the call, its characters counted from its own beginning
  abbrev own : Fed S
  own = fed_from r room (record { state = a.state; taken = 0; said = [] }) here

  counted : gone_on r piece a ≡ stage_after a (further r a.taken own)
  unfolding gone_on
  counted =
      ap (λ (n : ℕ). stage_after a (fed_from r room (record { state = a.state; taken = n; said = [] }) here)) (sym (add-zero a.taken))
      ∙ ap (stage_after a) (counted_from r a.taken room (record { state = a.state; taken = 0; said = [] }) here)

  left_over : drop own.taken (here ++ rest) ≡ drop (a.taken + own.taken) piece ++ rest
  left_over =
      drop-append-le own.taken here rest (omega (arith, taken_within r room (record { state = a.state; taken = 0; said = [] }) here))
      ∙ ap (λ (x : List ℕ). x ++ rest) (drop-drop own.taken a.taken piece)

  pub stage_is_call : {b : Stage S} → b ≡ gone_on r piece a → b.waiting ≤ length a.output → IsCall r piece rest said a b
  stage_is_call {b} e fits =
      let is : b ≡ stage_after a (further r a.taken own) = e ∙ counted in
      let waiting : b.waiting ≡ a.waiting + length own.said = ap (λ (x : Stage S). x.waiting) is in
      let count : a.waiting + length own.said - a.waiting ≡ length own.said = omega arith in
      rw (is, take_at here rest (length here) refl, left_over, count, stored_there a.output a.waiting own.said (omega arith))

-- what is left to say after a call is what was left before it, without what it said
module _ {S : Type 0} (r : Steps S) (piece rest : List ℕ) (a b : Stage S) (is : b ≡ gone_on r piece a) (fits : b.waiting ≤ length a.output) where
  pub still_to_say : to_say r a.state (drop a.taken piece ++ rest)
      ≡ take (b.waiting - a.waiting) (drop a.waiting b.output) ++ to_say r b.state (drop b.taken piece ++ rest)
  still_to_say =
      let from : Run S = record { state = a.state; left = drop a.taken piece ++ rest; said = [] } in
      let call : Call = record { size = length (drop a.taken piece); room = length a.output - a.waiting } in
      one_call r call from ∙ ap (said_in_all r) (stage_is_call r piece rest [] a {b = b} is fits)

  abbrev own_call : Fed S
  own_call = own r piece rest [] a

  taken_on : b.taken ≡ a.taken + own_call.taken
  taken_on = ap (λ (x : Stage S). x.taken) (is ∙ counted r piece rest [] a)

  -- no more of a piece is taken than there is
  pub within_piece : a.taken ≤ length piece → b.taken ≤ length piece
  within_piece some =
      let left : length (drop a.taken piece) ≡ length piece - a.taken = length-drop a.taken piece in
      let most_taken : own_call.taken ≤ 0 + length (drop a.taken piece) = taken_within r (length a.output - a.waiting) (record { state = a.state; taken = 0; said = [] }) (drop a.taken piece) in
      omega (arith, taken_on)

  -- with room for whatever is wanted, something is
  pub more_taken : (most : ℕ) → Within r most → most ≤ length a.output - a.waiting → a.taken < length piece → a.taken < b.taken
  more_taken most within room some =
      let left : length (drop a.taken piece) ≡ length piece - a.taken = length-drop a.taken piece in
      let least : 0 < own_call.taken = some_taken r most within a.state (length a.output - a.waiting) (drop a.taken piece) room (omega arith) in
      omega (arith, taken_on)

-- of the listing
pub is_call : (p : Progress) (at : Place) (f piece out rest said : List ℕ) {p' : Progress} {at' : Place} {f' out' : List ℕ} → at.waiting ≤ length out
    → Feeds lister piece (stage p at f out) (stage p' at' f' out')
    → IsCall lister piece rest said (stage p at f out) (stage p' at' f' out')
is_call p at f piece out rest said fits feeds = stage_is_call lister piece rest said (stage p at f out) feeds.comes (feeds.fits fits)
