-- However an input is cut into pieces, and whatever room each call has, what is said in all is the same; and calls with room
-- take it all.
use Prim.Native.Nat.{ℕ, suc, ◌+◌, ◌-◌, ◌≤◌, ◌<◌}
use mathlib.Core.Path.{◌≡◌, refl, sym, ap, ◌∙◌}
use mathlib.Core.Bool.{Bool, true, false, cond}
use mathlib.Core.List.{List, [], ◌∷◌, ◌++◌, append_assoc}
use native.Mathlib.Nat.{add_assoc}
use native.Mathlib.Omega.{arith}
use borrow.Author.Tests.{le-ltb}
use lib.Dec.{ltb}
use lib.ListN.{length, take, drop, take-append-drop, length-take, length-drop}
use lib.Seq.{drop-append-le}
use Rattle.text.specs.Pieces.{Steps, Fed, takes, fed_from, to_say, Call, Run, called, run_from, run_of, Within, Able}
use Rattle.text.proofs.Bounds.{by_bound}
use Rattle.octets.proofs.Stores.{empty}

module _ {S : Type 0} (r : Steps S) where
  -- what a call has said, and all that there is to say of what it has left
  abbrev in_all : Fed S → List ℕ → List ℕ
  in_all o left = o.said ++ to_say r o.state left

  -- from one place of a call to another: so many characters further, and the same in all
  record Comes (o : Fed S) (piece rest : List ℕ) (o' : Fed S) : Type 0 where
    pub count : ℕ
    pub within : count ≤ length piece
    pub taken : o'.taken ≡ o.taken + count
    pub same : in_all o (piece ++ rest) ≡ in_all o' (drop count piece ++ rest)

  stays : (o : Fed S) (piece rest : List ℕ) → Comes o piece rest o
  stays o piece rest = record { count = 0; within = omega arith; taken = omega arith; same = refl }

  one_more : (o : Fed S) (c : ℕ) (piece rest : List ℕ) {o' : Fed S} → Comes (takes r o c) piece rest o' → Comes o (c ∷ piece) rest o'
  unfolding to_say
  one_more o c piece rest k =
      record {
        count = suc k.count;
        within = omega (arith, k.within);
        taken = omega (arith, k.taken);
        same = sym (append_assoc o.said (r.says o.state c) _) ∙ k.same;
      }

  by_room : (o : Fed S) (c : ℕ) (piece rest : List ℕ) {o' : Fed S} (short : Bool) → Comes (takes r o c) piece rest o' → Comes o (c ∷ piece) rest (cond short o o')
  by_room o c piece rest true k = stays o (c ∷ piece) rest
  by_room o c piece rest false k = one_more o c piece rest k

  comes : (room : ℕ) (o : Fed S) (piece rest : List ℕ) → Comes o piece rest (fed_from r room o piece)
  unfolding fed_from
  comes room o [] rest = stays o [] rest
  comes room o (c ∷ piece) rest = by_room o c piece rest (ltb (room - length o.said) (r.wants o.state c)) (comes room (takes r o c) piece rest)

  -- no more is taken than there is
  pub taken_within : (room : ℕ) (o : Fed S) (piece : List ℕ) → (fed_from r room o piece).taken ≤ o.taken + length piece
  taken_within room o piece = let k = comes room o piece [] in omega (arith, k.taken, k.within)

  -- where the counting of the characters begins does not matter
  abbrev pub further : ℕ → Fed S → Fed S
  further n o = record { state = o.state; taken = n + o.taken; said = o.said }

  by_room_further : (n : ℕ) (o x y : Fed S) (short : Bool) → x ≡ further n y → cond short (further n o) x ≡ further n (cond short o y)
  by_room_further n o x y true e = refl
  by_room_further n o x y false e = e

  pub counted_from : (n room : ℕ) (o : Fed S) (piece : List ℕ) → fed_from r room (further n o) piece ≡ further n (fed_from r room o piece)
  unfolding fed_from
  counted_from n room o [] = refl
  counted_from n room o (c ∷ piece) =
      by_room_further n o _ (fed_from r room (takes r o c) piece) (ltb (room - length o.said) (r.wants o.state c))
      (ap
      (λ (taken : ℕ). fed_from r room (record { state = (takes r o c).state; taken = taken; said = (takes r o c).said }) piece)
      (add_assoc n o.taken 1)
      ∙ counted_from n room (takes r o c) piece)

  -- the same for a whole input of which the piece is the first part
  in_input : (input : List ℕ) (size : ℕ) {o o' : Fed S} → Comes o (take size input) (drop size input) o' → o.taken ≡ 0
      → in_all o input ≡ in_all o' (drop o'.taken input)
  in_input input size {o} {o'} k none =
      let count : k.count ≡ o'.taken = omega (arith, k.taken) in
      let whole : take size input ++ drop size input ≡ input = take-append-drop size input in
      let left : drop k.count (take size input) ++ drop size input ≡ drop o'.taken input =
      sym (drop-append-le k.count (take size input) (drop size input) k.within) ∙ rw (whole, count) in
      ap (in_all o) (sym whole) ∙ k.same ∙ ap (in_all o') left

  -- ---- the calls keep what is said in all

  abbrev pub said_in_all : Run S → List ℕ
  said_in_all run = run.said ++ to_say r run.state run.left

  pub one_call : (c : Call) (run : Run S) → said_in_all run ≡ said_in_all (called r c run)
  one_call c run =
      let start : Fed S = record { state = run.state; taken = 0; said = [] } in
      let piece = take c.size run.left in
      ap (λ (said : List ℕ). run.said ++ said)
      (in_input run.left c.size (comes c.room start piece (drop c.size run.left)) refl)
      ∙ sym (append_assoc run.said (fed_from r c.room start piece).said _)

  all_calls : (run : Run S) (calls : List Call) → said_in_all run ≡ said_in_all (run_from r run calls)
  unfolding run_from
  all_calls run [] = refl
  all_calls run (c ∷ calls) = one_call c run ∙ all_calls (called r c run) calls

  -- once all is taken, what was said and what the end says are all that there was to say
  pub said_whole : (s : S) (input : List ℕ) (calls : List Call) → (run_of r s input calls).left ≡ []
      → (run_of r s input calls).said ++ r.last (run_of r s input calls).state ≡ to_say r s input
  unfolding to_say
  said_whole s input calls whole =
      let run = run_of r s input calls in
      ap (λ (left : List ℕ). run.said ++ to_say r run.state left) (sym whole) ∙ sym (all_calls (record { state = s; left = input; said = [] }) calls)

  -- ---- the calls come to an end

  module _ (most : ℕ) (within : Within r most) where
    -- with room something of a piece is taken
    pub some_taken : (s : S) (room : ℕ) (piece : List ℕ) → most ≤ room → 0 < length piece → 0 < (fed_from r room (record { state = s; taken = 0; said = [] }) piece).taken
    unfolding fed_from
    some_taken s room [] h some = absurd (omega arith)
    some_taken s room (c ∷ piece) h some =
        let o : Fed S = record { state = s; taken = 0; said = [] } in
        let k = comes room (takes r o c) piece [] in
        rw (le-ltb (room - 0) (r.wants s c) (omega (arith, within s c))) (omega (arith, k.taken))

    fewer_left : (c : Call) (run : Run S) (n : ℕ) → 0 < c.size → most ≤ c.room → length run.left ≤ suc n → length (called r c run).left ≤ n
    fewer_left c run n size room h =
        let piece = take c.size run.left in
        let taken = (fed_from r c.room (record { state = run.state; taken = 0; said = [] }) piece).taken in
        let left = length-drop taken run.left in
        by_bound 0 (length run.left)
        (λ some.
        let piece_some : 0 < length piece = simp length-take (omega arith) in
        omega (arith, left, some_taken run.state c.room piece room piece_some))
        (λ none. omega (arith, left))

    all_taken : (run : Run S) (calls : List Call) → Able most calls → length run.left ≤ length calls → (run_from r run calls).left ≡ []
    unfolding run_from
    all_taken run [] able h = empty run.left (omega arith)
    all_taken run (c ∷ calls) able h = all_taken (called r c run) calls able.2 (fewer_left c run (length calls) able.0 able.1 h)

    -- as many able calls as the input has characters take it all
    pub taken_whole_lem : (s : S) (input : List ℕ) (calls : List Call) → Able most calls → length input ≤ length calls → (run_of r s input calls).left ≡ []
    taken_whole_lem s input calls able h = all_taken (record { state = s; left = input; said = [] }) calls able h
