-- Both round trips: a message in plain form reads back from its frame, and a frame in plain form is written again from its
-- message. So the frames in plain form are exactly those that are written.
use Prim.Native.Nat.{ℕ, ◌-◌, ◌^◌, ◌<◌, ◌≤◌}
use mathlib.Core.Path.{◌≡◌, refl, sym, ap, ◌∙◌}
use mathlib.Core.List.{List, [], ◌∷◌, ◌++◌, append_assoc, append-nil}
use mathlib.Core.Bool.{true}
use native.Mathlib.Omega.{arith}
use native.Mathlib.Nat.{zero-add}
use borrow.Author.Tests.{leb-true, ltb-true, eqb-true}
use lib.ListN.{length, get_or, drop, replicate}
use lib.Dec.{leb, ltb, eqb}
use Rattle.octets.specs.Octets.{Octets, num, oct}
use Rattle.octets.specs.Layout.{shortest_frame, body_start, events_start, data_start}
use Rattle.frame_tlvs.specs.Walk.{parts, also, listed}
use Rattle.frame_body.specs.Information.{information_walk}
use Rattle.frame_tlvs.specs.Events.{event_walk}
use Rattle.frame_body.specs.Variables.{descriptor_walk, container_walk}
use Rattle.frame.specs.Frame.{Body, information, notification, request, response, loopback, organization, Message, code_of, Answer, refused, accepted, says, says_all, informed, notified, body_answer, decode}
use Rattle.frame.specs.Steps.{Stepped, skipped_by}
use Rattle.frame.proofs.Stepping.{steps_give_parts, decode_counts}
use Rattle.frame_writer.specs.Encode.{event_octets, joined, body_octets, encode}
use Rattle.octets.specs.Tests.{every}
use Rattle.frame_variables.specs.Descriptors.{plain_descriptor}
use Rattle.frame_writer.specs.Plain.{plain_event, plain_container, plain_flags, plain_body, plain}
use Rattle.theorems_frame.specs.PlainFrame.{shortest, plain_answer, plain_frame}
use Rattle.octets.proofs.Bools.{never, and_l, and_r, one_of}
use Rattle.octets.proofs.Numbers.{length-oct, octets_from, past, number_read, number_again}
use Rattle.frame_writer.proofs.Lengths.{length_header, plain_body_lem, end_of, header, unpadded, length-unpadded}
use Rattle.frame_writer.proofs.Walking.{these, these_known, Begins, walk_read, walk_again}
use Rattle.frame_writer.proofs.Containing.{descriptor_codes, container_codes}
use Rattle.theorems_frame.proofs.Informing.{information_codes, plain_parts_lem}
use Rattle.theorems_frame.proofs.Eventing.{event_codes}
use Rattle.theorems_frame.proofs.Heading.{Headed, header_read, source_is, flags_are, header_passes, header_again, header_accepted}
use Rattle.theorems_frame.proofs.Sizes.{encode-length, padded-shortest, shortest-padded}

-- ---- a message in plain form reads back

-- how many zeros follow a body
abbrev left : Body → ℕ
left b = shortest_frame - end_of b

abbrev rest : Body → List ℕ
rest b = replicate (left b) 0

-- parts that are met are listed
listed-these : {P : Type 0} (ps : List P) → listed (these ps) ≡ parts ps
listed-these [] = refl
listed-these (p ∷ ps) = ap (also p) (listed-these ps)

-- a body that was written is read, with nothing skipped
back : (f : List ℕ) (b : Body) → plain_body b ≡ true → drop body_start f ≡ body_octets b ++ rest b → body_answer f (code_of b) ≡ says f 0 b
unfolding body_answer information_walk event_walk descriptor_walk container_walk
back f (information ps) h e =
    let p = plain_parts_lem ps h in
    let w : information_walk (drop body_start f) ≡ these ps = walk_read (information_codes (drop body_start f)) ps (left (information ps)) p.fits e in
    ap (informed f) w ∙ (λ i. says_all f (these_known ps i) information (p.whole i))
back f (notification n es) h e =
    let small : ltb n (256 ^ 2) ≡ true = search and_l in
    let all : every plain_event es ≡ true = search and_r in
    let y = joined event_octets es ++ rest (notification n es) in
    let e' : drop body_start f ≡ oct 2 n ++ y = e ∙ append_assoc (oct 2 n) (joined event_octets es) (rest (notification n es)) in
    let number : num 2 f body_start ≡ n = number_read 2 n f body_start y (ltb-true n (256 ^ 2) small) e' in
    let w : event_walk (drop events_start f) ≡ these es =
    walk_read (event_codes (drop events_start f)) es (left (notification n es)) all (past f body_start 2 (oct 2 n) y (length-oct 2 n) e') in
    ap (notified f) w ∙ (λ i. says_all f (these_known es i) (notification (number i)) (listed-these es i))
back f (request ds) h e =
    let all : every plain_descriptor ds ≡ true = search and_r in
    let w : descriptor_walk (drop body_start f) ≡ these ds = walk_read (descriptor_codes (drop body_start f)) ds (left (request ds)) all e in
    ap (says_all f 0 request) (ap listed w ∙ listed-these ds)
back f (response cs) h e =
    let all : every plain_container cs ≡ true = search and_l in
    let w : container_walk (drop body_start f) ≡ these cs = walk_read (container_codes (drop body_start f)) cs (left (response cs)) all e in
    ap (says_all f 0 response) (ap listed w ∙ listed-these cs)
back f (loopback n) h e =
    let small : n < 256 ^ 1 = one_of (eqb n 1) (eqb n 2) (λ t. omega (arith, eqb-true n 1 t)) (λ t. omega (arith, eqb-true n 2 t)) h in
    let number : get_or f body_start 0 ≡ n = rw zero-add at (number_read 1 n f body_start (rest (loopback n)) small e) in
    rw (number, h)
back f (organization oui x) h e =
    let small : ltb oui (256 ^ 3) ≡ true = search and_l in
    let many : leb 39 (length x) ≡ true = search (and_l, and_r) in
    let none : left (organization oui x) ≡ 0 = omega (arith, leb-true 39 (length x) many) in
    let e' : drop body_start f ≡ oct 3 oui ++ x = e ∙ ap (λ (k : ℕ). oct 3 oui ++ x ++ replicate k 0) none ∙ append-nil (oct 3 oui ++ x) in
    let number : num 3 f body_start ≡ oui = number_read 3 oui f body_start x (ltb-true oui (256 ^ 3) small) e' in
    rw (number, past f body_start 3 (oct 3 oui) x (length-oct 3 oui) e')

-- a code is an octet
code_octet : (b : Body) → code_of b < 256
code_octet (information ps) = omega arith
code_octet (notification n es) = omega arith
code_octet (request ds) = omega arith
code_octet (response cs) = omega arith
code_octet (loopback n) = omega arith
code_octet (organization oui x) = omega arith

-- a frame is its header, its body and zeros
split : (m : Message) → plain_body m.body ≡ true → encode m ≡ header m ++ (body_octets m.body ++ rest m.body)
unfolding encode
split m b = ap (λ (n : ℕ). unpadded m ++ replicate (shortest_frame - n) 0) (length-unpadded m b) ∙ append_assoc (header m) (body_octets m.body) (rest m.body)

-- a message in plain form has nothing skipped
pub plain_unskipped : (m : Message) → plain m ≡ true → m.skipped ≡ 0
unfolding plain
plain_unskipped m p = let none : eqb m.skipped 0 ≡ true = search and_l in eqb-true m.skipped 0 none

module _ (m : Message) (p : plain m ≡ true) where
  -- its header and its body are read
  headed : Headed (encode m) m.source m.flags (code_of m.body)
  unfolding plain plain_flags
  headed =
      let source : ltb m.source (256 ^ 6) ≡ true = search (and_l, and_r) in
      let flags : ltb m.flags 128 ≡ true = search (and_l, and_r) in
      let long = encode-length m p in
      header_read (encode m) m.source m.flags (code_of m.body) (body_octets m.body ++ rest m.body) long.0 long.1
      (ltb-true m.source (256 ^ 6) source) (omega (arith, ltb-true m.flags 128 flags)) (code_octet m.body) (split m (plain_body_lem m p))

  backed : body_answer (encode m) (code_of m.body) ≡ says (encode m) 0 m.body
  backed =
      back (encode m) m.body (plain_body_lem m p)
      (past (encode m) 0 body_start (header m) (body_octets m.body ++ rest m.body) (length_header m.source m.flags (code_of m.body)) (split m (plain_body_lem m p)))

  -- the first law
  pub read_back : decode (encode m) ≡ accepted m
  read_back =
      header_passes headed ∙ backed
      ∙ (λ i. accepted (record { source = source_is headed i; flags = flags_are headed i; skipped = sym (plain_unskipped m p) i; body = m.body }))

  -- what is written is in plain form
  pub plain_encode : plain_frame (encode m) ≡ true
  unfolding plain_frame encode
  plain_encode =
      let short : shortest (end_of m.body) (encode m) ≡ true =
      ap (λ (n : ℕ). shortest n (encode m)) (sym (length-unpadded m (plain_body_lem m p))) ∙ padded-shortest (unpadded m) in
      ap (plain_answer (encode m)) read_back ∙ rw (p, short)

-- ---- a frame in plain form is written again

-- a body that is read, with nothing skipped, stands in the frame
again : (f : List ℕ) → Octets f → shortest_frame ≤ length f → (b : Body) → Stepped f b → skipped_by f b ≡ 0 → Begins (drop body_start f) (body_octets b)
unfolding information_walk event_walk descriptor_walk container_walk
again f o l (information ps) h k = rw h (walk_again (information_codes (drop body_start f)) (octets_from f o body_start) (λ _. k))
again f o l (notification n es) h k =
    let r = walk_again (event_codes (drop events_start f)) (octets_from f o events_start) (λ _. k) in
    (r.0, rw (h.0, h.1, ← r.1) (number_again f o 2 body_start (omega arith)))
again f o l (request ds) h k = rw h (walk_again (descriptor_codes (drop body_start f)) (octets_from f o body_start) (λ z. absurd z))
again f o l (response cs) h k = rw h (walk_again (container_codes (drop body_start f)) (octets_from f o body_start) (λ z. absurd z))
again f o l (loopback n) h k = (drop 19 f, rw h (rw zero-add at (number_again f o 1 body_start (omega arith))))
again f o l (organization oui x) h k = ([], rw (h.0, h.1, append-nil (drop data_start f)) (number_again f o 3 body_start (omega arith)))

-- the second law
pub written_again : (f : List ℕ) (m : Message) → Octets f → plain_frame f ≡ true → decode f ≡ accepted m → encode m ≡ f
unfolding plain_frame encode
written_again f m o p e =
    let q : plain_answer f (accepted m) ≡ true = sym (ap (plain_answer f) e) ∙ p in
    let plainly : plain m ≡ true = search and_l in
    let short : shortest (end_of m.body) f ≡ true = search and_r in
    let head = header_accepted f m e in
    let r = again f o head.long m.body (steps_give_parts f m e) (sym (decode_counts f m e) ∙ plain_unskipped m plainly) in
    let split : f ≡ unpadded m ++ r.0 =
    header_again head o ∙ ap (λ (y : List ℕ). header m ++ y) r.1 ∙ sym (append_assoc (header m) (body_octets m.body) r.0) in
    shortest-padded (unpadded m) r.0 ((λ i. shortest (length-unpadded m (plain_body_lem m plainly) i) (sym split i)) ∙ short) ∙ sym split

-- a frame in plain form has a message in plain form, of which it is written
pub plain_frame_lem : (f : List ℕ) → Octets f → plain_frame f ≡ true → (m : Message) × (decode f ≡ accepted m) × (plain m ≡ true) × (encode m ≡ f)
unfolding plain_frame
plain_frame_lem f o p = by_answer (decode f) refl p
  where
    by_answer : (a : Answer) → decode f ≡ a → plain_answer f a ≡ true → (m : Message) × (decode f ≡ accepted m) × (plain m ≡ true) × (encode m ≡ f)
    by_answer (refused n) e q = never q
    by_answer (accepted m) e q = (m, e, search and_l, written_again f m o p e)
