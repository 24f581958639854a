-- How a call goes on from stage to stage: its last stage is the same from each of them.
use Prim.Native.Nat.{ℕ, ◌+◌, ◌-◌, ◌≤◌, ◌<◌}
use mathlib.Core.Path.{◌≡◌, refl, sym, ap, ◌∙◌}
use mathlib.Core.Bool.{Bool, true, false, cond}
use mathlib.Core.List.{List, [], ◌∷◌, ◌++◌, append-nil, append_assoc}
use native.Mathlib.Nat.{add-zero, add_assoc}
use native.Mathlib.Numerals.{add-one}
use native.Mathlib.Omega.{arith}
use borrow.Author.Tests.{lt-ltb, le-ltb}
use lib.Dec.{ltb}
use lib.ListN.{length, drop, get_or, length-append, drop_of_length-le}
use lib.Seq.{sets, length-sets, drop-cons}
use Rattle.octets.proofs.Stores.{sets-append}
use Rattle.text.specs.Pieces.{Steps, Fed, takes, fed_from, Stage, stage_after, gone_on}

-- what stands at a place, and what follows
pub next_cell : (piece : List ℕ) (at : ℕ) → at < length piece → drop at piece ≡ get_or piece at 0 ∷ drop (at + 1) piece
next_cell piece at h = rw (add-one at) (drop-cons piece at 0 h)

module _ {S : Type 0} (r : Steps S) where
  -- ---- what was said before only takes room

  abbrev after : List ℕ → Fed S → Fed S
  after before o = record { state = o.state; taken = o.taken; said = before ++ o.said }

  by_room : (before : List ℕ) (o x y : Fed S) (short : Bool) → x ≡ after before y → cond short (after before o) x ≡ after before (cond short o y)
  by_room before o x y true e = refl
  by_room before o x y false e = e

  said_before : (before : List ℕ) (room : ℕ) (o : Fed S) (piece : List ℕ)
      → fed_from r room (after before o) piece ≡ after before (fed_from r (room - length before) o piece)
  unfolding fed_from
  said_before before room o [] = refl
  said_before before room o (c ∷ piece) =
      let left : room - length (before ++ o.said) ≡ room - length before - length o.said = omega (arith, length-append before o.said) in
      let said : before ++ o.said ++ r.says o.state c ≡ before ++ (o.said ++ r.says o.state c) = append_assoc before o.said _ in
      rw (left, said)
      (by_room before o _ _ (ltb (room - length before - length o.said) (r.wants o.state c)) (said_before before room (takes r o c) piece))

  said_first : (before : List ℕ) (room : ℕ) (s : S) (taken : ℕ) (piece : List ℕ)
      → fed_from r room (record { state = s; taken = taken; said = before }) piece
      ≡ after before (fed_from r (room - length before) (record { state = s; taken = taken; said = [] }) piece)
  said_first before room s taken piece =
      ap (λ (said : List ℕ). fed_from r room (record { state = s; taken = taken; said = said }) piece) (sym (append-nil before))
      ∙ said_before before room (record { state = s; taken = taken; said = [] }) piece

  -- ---- from stage to stage

  -- what is said in two parts
  in_two : (a : Stage S) (before : List ℕ) (o : Fed S)
      → stage_after a (after before o)
      ≡ stage_after (record { state = o.state; taken = o.taken; waiting = a.waiting + length before; output = sets a.output a.waiting before }) o
  in_two a before o = rw (sets-append a.output a.waiting before o.said, length-append before o.said, add_assoc a.waiting (length before) (length o.said))

  module _ (piece : List ℕ) (a : Stage S) where
    -- at the piece's end
    pub ended : length piece ≤ a.taken → gone_on r piece a ≡ a
    unfolding gone_on fed_from
    ended h = rw (drop_of_length-le piece h, add-zero a.waiting)

    module _ (within : a.taken < length piece) where
      abbrev next : ℕ
      next = get_or piece a.taken 0

      -- before a character for which the output has no room
      pub stopped : length a.output - a.waiting < r.wants a.state next → gone_on r piece a ≡ a
      unfolding gone_on fed_from
      stopped h = rw (next_cell piece a.taken within, lt-ltb (length a.output - a.waiting - 0) (r.wants a.state next) (omega arith), add-zero a.waiting)

      -- after a character, and what is said there
      abbrev further : Stage S
      further = record {
        state = r.next a.state next;
        taken = a.taken + 1;
        waiting = a.waiting + length (r.says a.state next);
        output = sets a.output a.waiting (r.says a.state next);
      }

      pub one_further : r.wants a.state next ≤ length a.output - a.waiting → gone_on r piece a ≡ gone_on r piece further
      unfolding gone_on fed_from
      one_further h =
          let says = r.says a.state next in
          let room : length a.output - a.waiting - length says ≡ length (sets a.output a.waiting says) - (a.waiting + length says) =
          omega (arith, length-sets a.output a.waiting says) in
          rw (next_cell piece a.taken within, le-ltb (length a.output - a.waiting - 0) (r.wants a.state next) (omega arith))
          (ap (stage_after a) (said_first says (length a.output - a.waiting) (r.next a.state next) (a.taken + 1) (drop (a.taken + 1) piece))
          ∙ in_two a says _ ∙ rw room)
