-- What each writer comes to: refused with 10, refused with 9, or the header, the body and zeros stored one after another.
use Rattle.std.specs.Prelude.{Option, None, Some, Result, Ok, Err, IsErrAnd}
use Rattle.std.specs.Bool.{then_some}
use Rattle.std.proofs.lemmas.Result.{err_from_is_err_and}
use Prim.Native.Nat.{ℕ, ◌+◌, ◌-◌, ◌<◌, ◌≤◌, max}
use mathlib.Core.Path.{◌≡◌, refl, sym, ap, ◌∙◌}
use mathlib.Core.List.{List, ◌++◌, append-nil}
use mathlib.Core.Bool.{Bool, true, false, cond, ◌&&◌, and-false}
use native.Mathlib.Omega.{arith}
use Rattle.std.proofs.lemmas.Bool.Decides.{nat_tests}
use borrow.Author.Tests.{lt-ltb, le-ltb, ltb-true, ltb-false, eq-eqb, ne_eqb}
use lib.ListN.{length, replicate, length-append}
use lib.Seq.{sets}
use lib.Dec.{ltb, leb}
use Rattle.frame_body.specs.declared.Information.{Information}
use Rattle.octets.specs.Layout.{shortest_frame, body_start}
use Rattle.octets.specs.declared.refusal.Refusal.{Refusal}
use Rattle.octets.specs.declared.refusal.Refusal.TheVariants.{ShortOutput, OutOfRange}
use Rattle.frame.specs.Frame.{Body, information, Message, code_of}
use Rattle.frame_writer.specs.Encode.{information_octets, part_octets, held_octets, body_octets, encode}
use Rattle.frame_writer.specs.Plain.{plain_header, plain_body, plain, sized, some_octets}
use Rattle.frame_writer.specs.Writing.{Written, Refused, Wrote, as_written, permitted, writes, written, Writing, WritingFormed, message_of, parts_from}
use Rattle.frame_writer.proofs.Lengths.{length-joined, length_header, length_part, plain_body_lem, end_of, header, unpadded, length-unpadded, length-encode}
use Rattle.octets.specs.Refusals.{number}
use Rattle.octets.proofs.Bools.{and_l, and_r}
use Rattle.octets.proofs.Stores.{sets-append}

-- the header, the body and the zeros are the frame
stored : (m : Message) (d : List ℕ) → plain m ≡ true
    → sets (sets (sets d 0 (header m)) body_start (body_octets m.body)) (end_of m.body) (replicate (shortest_frame - end_of m.body) 0) ≡ sets d 0 (encode m)
unfolding encode
stored m d p =
    let h = header m in
    let b = body_octets m.body in
    let k : 0 + length h ≡ body_start = omega (arith, length_header m.source m.flags (code_of m.body)) in
    let e = length-unpadded m (plain_body_lem m p) in
    let e0 : 0 + length (unpadded m) ≡ end_of m.body = omega arith in
    let z = replicate {A = ℕ} (shortest_frame - end_of m.body) 0 in
    sym (rw e (sets-append d 0 (unpadded m) z ∙ rw (e0, sets-append d 0 h b, k)))

-- what is needed of an output is 0 where a frame's octets are, and no more than an output has where these are
pub record Needed (needed octets lent : ℕ) : Type 0 where
  pub some : ltb 0 needed ≡ ltb 0 octets
  pub held : leb needed lent ≡ leb octets lent

-- as they are where the frame's octets are needed
pub exactly : (octets lent : ℕ) → Needed octets octets lent
exactly octets lent = record { some = refl; held = refl }

-- where nothing is needed, nothing is permitted
none_permitted : (plain : Bool) (needed room : ℕ) → ltb 0 needed ≡ false → permitted plain (some_octets needed) room ≡ Err OutOfRange
none_permitted plain needed room f = rw (eq-eqb needed 0 (omega (arith, ltb-false 0 needed f)))

-- nor is anything of a sender out of range
never_permitted : (octets : Option ℕ) (room : ℕ) → permitted false octets room ≡ Err OutOfRange
never_permitted None room = refl
never_permitted (Some octets) room = refl

-- what a writer is answered, over its tests alone
judged : (formed sender body : Bool) (needed octets room : ℕ) → 0 < octets → Needed needed (cond formed (cond body octets 0) 0) room
    → permitted sender (some_octets needed) room
    ≡ cond (formed && (sender && body)) (cond (ltb room octets) (Err ShortOutput) (Ok needed)) (Err OutOfRange)
judged false sender body needed octets room h n = none_permitted sender needed room n.some
judged true false body needed octets room h n = never_permitted (some_octets needed) room
judged true true false needed octets room h n = none_permitted true needed room n.some
judged true true true needed octets room h n =
    let some : ltb 0 needed ≡ true = n.some ∙ lt-ltb 0 octets h in
    let same : ltb room needed ≡ ltb room octets = grind (arith, nat_tests, n.held) in
    rw (ne_eqb needed 0 (λ z. omega (arith, ltb-true 0 needed some)), same)

-- what a writer comes to, by its tests
module _ (m : Message) (d : List ℕ) where
  pub refused_10 : plain m ≡ false → Writing m d (Refused 10) d
  unfolding writes written
  refused_10 p = record { answers = rw p; output = rw p }

  abbrev length_test : Bool
  length_test = ltb (length d) (length (encode m))

  settled : (formed p s : Bool) → formed && plain m ≡ p → length_test ≡ s
      → WritingFormed formed m d (cond p (cond s (Refused 9) (Wrote (length (encode m)))) (Refused 10)) (cond p (cond s d (sets d 0 (encode m))) d)
  unfolding writes written
  settled true p s e l = record { answers = rw (e, l); output = rw (e, l) }
  settled false p s e l = record { answers = rw (sym e); output = rw (sym e) }

-- a header that has no plain form is refused, whatever the body
pub header_10 : (source flags : ℕ) (formed : Bool) (b : Body) (d : List ℕ) → plain_header source flags ≡ false → WritingFormed formed (message_of source flags b) d (Refused 10) d
unfolding plain
header_10 source flags formed b d h = settled (message_of source flags b) d formed false (length_test (message_of source flags b) d) (rw h (and-false formed)) refl

-- ---- a writer of a body that may not be formed at all, by the octets that it asks for

module _ (source flags : ℕ) (formed : Bool) (b : Body) (d : List ℕ) {needed : ℕ} (n : Needed needed (cond formed (sized b) 0) (length d)) where
  abbrev message : Message
  message = message_of source flags b

  -- how long its frame is
  abbrev frame : ℕ
  frame = max shortest_frame (end_of b)

  module _ {o : Option ℕ} {q : Result ℕ Refusal} (e : o ≡ some_octets needed) (k : q ≡ permitted (plain_header source flags) o (length d)) where
    -- what it is answered
    verdict : q ≡ cond (formed && plain message) (cond (ltb (length d) frame) (Err ShortOutput) (Ok needed)) (Err OutOfRange)
    unfolding plain sized
    verdict = k ∙ rw e (judged formed (plain_header source flags) (plain_body b) needed frame (length d) (omega arith) n)

    -- a refusal is the writer's
    pub refused_formed : {r : Refusal} (answer : Result ℕ Refusal) → q ≡ Err r → IsErrAnd answer (λ e. e ≡ r)
        → WritingFormed formed message d (as_written answer) d
    refused_formed {r} answer t z =
        let p = err_from_is_err_and answer z in
        rw (p.1, p.2) (by (formed && plain message) (ltb (length d) frame) refl refl (sym verdict ∙ t))
      where
        by : (p s : Bool) → formed && plain message ≡ p → ltb (length d) frame ≡ s
            → cond p (cond s (Err ShortOutput) (Ok needed)) (Err OutOfRange) ≡ Err r
            → WritingFormed formed message d (Refused (number r)) d
        by false s e l x = let same : OutOfRange ≡ r = cc in rw (sym same) (settled message d formed false (length_test message d) e refl)
        by true true e l x =
            let same : ShortOutput ≡ r = cc in
            let long = length-encode message (plain_body_lem message (and_r formed (plain message) e)) in
            rw (sym same) (settled message d formed true true e (rw long l))
        by true false e l x = cc

    -- else the message has a plain form, and the output has room for its frame
    pub accepted_formed : {octets : ℕ} → q ≡ Ok octets → (formed ≡ true) × (plain message ≡ true) × (frame ≤ length d)
    accepted_formed {octets} t = by (formed && plain message) (ltb (length d) frame) refl refl (sym verdict ∙ t)
      where
        by : (p s : Bool) → formed && plain message ≡ p → ltb (length d) frame ≡ s
            → cond p (cond s (Err ShortOutput) (Ok needed)) (Err OutOfRange) ≡ Ok octets
            → (formed ≡ true) × (plain message ≡ true) × (frame ≤ length d)
        by false s e l x = cc
        by true true e l x = cc
        by true false e l x = (and_l formed (plain message) e, and_r formed (plain message) e, ltb-false (length d) frame l)

    -- the header, the body and the zeros are its frame
    pub wrote_formed : {octets r end : ℕ} {d1 d2 d3 : List ℕ} → q ≡ Ok octets → end ≡ end_of b
        → d1 ≡ sets d 0 (header message)
        → d2 ≡ sets d1 body_start (body_octets b)
        → (r ≡ max shortest_frame end) × (d3 ≡ sets d2 end (replicate (shortest_frame - end) 0))
        → WritingFormed formed message d (as_written (Ok r)) d3
    wrote_formed t f h x z =
        let a = accepted_formed t in
        let long = length-encode message (plain_body_lem message a.1) in
        let w = settled message d formed true false (rw (a.0, a.1)) (rw long (le-ltb (length d) frame a.2)) in
        record { answers = ap Wrote (z.0 ∙ rw (f, sym long)) ∙ w.answers; output = z.1 ∙ rw (f, x, h) (stored message d a.1) ∙ w.output }

-- ---- a writer of a body, by the octets of its frame

module _ (source flags : ℕ) (b : Body) (d : List ℕ) {o : Option ℕ} {q : Result ℕ Refusal} (e : o ≡ some_octets (sized b))
    (k : q ≡ permitted (plain_header source flags) o (length d)) where
  -- what is said of what may not be formed, said of what is
  writing : {answer : Written} {exit : List ℕ} → WritingFormed true (message_of source flags b) d answer exit → Writing (message_of source flags b) d answer exit
  writing w = record { answers = w.answers; output = w.output }

  pub refused : {r : Refusal} (answer : Result ℕ Refusal) → q ≡ Err r → IsErrAnd answer (λ e. e ≡ r) → Writing (message_of source flags b) d (as_written answer) d
  refused answer t z = writing (refused_formed source flags true b d (exactly (sized b) (length d)) e k answer t z)

  pub accepted : {octets : ℕ} → q ≡ Ok octets → (plain_body b ≡ true) × (max shortest_frame (end_of b) ≤ length d)
  accepted t =
      let a = accepted_formed source flags true b d (exactly (sized b) (length d)) e k t in
      (plain_body_lem (message_of source flags b) a.1, a.2)

  pub wrote : {octets r end : ℕ} {d1 d2 d3 : List ℕ} → q ≡ Ok octets → end ≡ end_of b
      → d1 ≡ sets d 0 (header (message_of source flags b))
      → d2 ≡ sets d1 body_start (body_octets b)
      → (r ≡ max shortest_frame end) × (d3 ≡ sets d2 end (replicate (shortest_frame - end) 0))
      → Writing (message_of source flags b) d (as_written (Ok r)) d3
  wrote t f h x z = writing (wrote_formed source flags true b d (exactly (sized b) (length d)) e k t f h x z)

-- ---- the body of an Information frame: the Local, then the Remote

held_octets_lem : (l r : Option Information) → body_octets (information (parts_from l r)) ≡ held_octets 1 l ++ held_octets 2 r
held_octets_lem None None = refl
held_octets_lem None (Some j) = append-nil (information_octets 2 j)
held_octets_lem (Some i) None = refl
held_octets_lem (Some i) (Some j) = ap (λ (x : List ℕ). information_octets 1 i ++ x) (append-nil (information_octets 2 j))

pub held_stored : (d : List ℕ) (l r : Option Information)
    → sets (sets d body_start (held_octets 1 l)) (body_start + length (held_octets 1 l)) (held_octets 2 r) ≡ sets d body_start (body_octets (information (parts_from l r)))
held_stored d l r = sym (ap (sets d body_start) (held_octets_lem l r) ∙ sets-append d body_start (held_octets 1 l) (held_octets 2 r))

pub held_end : (l r : Option Information) → body_start + length (held_octets 1 l) + length (held_octets 2 r) ≡ end_of (information (parts_from l r))
held_end l r = omega (arith, ap length (held_octets_lem l r), length-append (held_octets 1 l) (held_octets 2 r), length-joined part_octets 16 length_part (parts_from l r))

-- both are within the shortest frame
pub held_short : (l r : Option Information) → shortest_frame ≡ max shortest_frame (end_of (information (parts_from l r)))
held_short None None = refl
held_short None (Some j) = refl
held_short (Some i) None = refl
held_short (Some i) (Some j) = refl

-- ---- the octets of a body's frame, by whether it has a plain form
module _ (b : Body) where
  pub sized_plain : plain_body b ≡ true → max shortest_frame (end_of b) ≡ sized b
  unfolding sized
  sized_plain h = rw h

  pub some_sized : {octets : ℕ} → plain_body b ≡ true → octets ≡ max shortest_frame (end_of b) → Some octets ≡ some_octets (sized b)
  unfolding sized
  some_sized h e = rw (h, e, ne_eqb (max shortest_frame (end_of b)) 0 (λ z. omega arith))

  pub none_sized : plain_body b ≡ false → None ≡ some_octets (sized b)
  unfolding sized
  none_sized h = rw h

  pub sized_where : {octets : ℕ} (plain : Bool) → plain ≡ plain_body b → octets ≡ max shortest_frame (end_of b) → then_some plain octets ≡ some_octets (sized b)
  sized_where true h e = some_sized (sym h) e
  sized_where false h e = none_sized (sym h)
