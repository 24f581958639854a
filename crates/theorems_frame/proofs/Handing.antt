-- What the reader gives of a frame in plain form, handed to the writer of its code, is the message that the frame says; so that
-- writer writes the frame again, octet by octet.
use Prim.Native.Nat.{ℕ, ◌*◌, ◌/◌, ◌%◌, ◌≤◌}
use mathlib.Core.Path.{◌≡◌, refl, sym, ap, ◌∙◌}
use mathlib.Core.List.{List, [], ◌∷◌, append-nil}
use mathlib.Core.Bool.{true, cond}
use native.Mathlib.Omega.{arith}
use borrow.Author.Tests.{eq-eqb, le-ltb}
use lib.ListN.{length, take, drop}
use lib.Seq.{sets, take_at}
use Rattle.octets.specs.Octets.{Octets}
use Rattle.octets.specs.Layout.{body_start}
use Rattle.frame_tlvs.specs.Walk.{met}
use Rattle.frame_tlvs.specs.declared.Event.{Event}
use Rattle.frame_body.specs.declared.InformationPart.{InformationPart}
use Rattle.frame_body.specs.declared.InformationPart.TheVariants.{Local as local, Remote as remote}
use Rattle.frame_body.specs.Variables.{Container, container_walk}
use Rattle.frame.specs.Frame.{Body, information, notification, request, response, loopback, organization, Message, accepted, decode, judgement_of, header_in, number_in, fixed_number}
use Rattle.frame.specs.Steps.{Stepped}
use Rattle.frame.proofs.Stepping.{steps_give_parts}
use Rattle.frame.proofs.Judging.{header_agrees, number_agrees}
use Rattle.frame_variables.specs.Answers.{containers_length}
use Rattle.frame_writer.specs.Encode.{container_octets, joined, encode}
use Rattle.frame_writer.specs.Plain.{plain_parts, plain_body, plain}
use Rattle.frame_writer.specs.Writing.{Refused, Wrote, writes, written, message_of, parts_of, events_from, events_of}
use Rattle.frame_writer.specs.Responses.{containers_of, all_containers}
use Rattle.octets.proofs.Bools.{never, and_l}
use Rattle.octets.proofs.Numbers.{octets_from}
use Rattle.frame_writer.proofs.Lengths.{length_containers, plain_body_lem}
use Rattle.frame_writer.proofs.Walking.{these, walk_read, walk_again}
use Rattle.frame_writer.proofs.Containing.{container_codes, containers_fit}
use Rattle.theorems_frame.proofs.RoundTrip.{written_again, plain_frame_lem, plain_unskipped}
use Rattle.theorems_frame.specs.PlainFrame.{plain_answer, plain_frame}
use Rattle.theorems_frame.specs.Handing.{sevens, found_in, containers_part, is, handed_by, handed, Again, ContainersAgain}

-- the TLVs that a reader finds in a plain body are the body's
pub found_again : (ps : List InformationPart) → plain_parts ps ≡ true → parts_of (found_in ps) ≡ ps
found_again [] h = refl
found_again (remote i ∷ ps) h = never h
found_again (local i ∷ []) h = refl
found_again (local i ∷ local j ∷ ps) h = never h
found_again (local i ∷ remote j ∷ []) h = refl
found_again (local i ∷ remote j ∷ p ∷ ps) h = never h

-- ---- events as numbers

sevens_long : (es : List Event) → length (sevens es) ≡ 7 * length es
sevens_long [] = refl
sevens_long (e ∷ es) = omega (arith, sevens_long es)

from_sevens : (es : List Event) → events_from (length es) (sevens es) ≡ es
from_sevens [] = refl
from_sevens (e ∷ es) = ap (λ (l : List Event). e ∷ l) (from_sevens es)

pub events_again : (es : List Event) → events_of (sevens es) ≡ es
unfolding events_of
events_again es =
    let whole : length (sevens es) % 7 ≡ 0 = omega (arith, sevens_long es) in
    let many : length (sevens es) / 7 ≡ length es = omega (arith, sevens_long es) in
    rw (eq-eqb (length (sevens es) % 7) 0 whole, many) (from_sevens es)

-- ---- containers as octets

-- the walk that meets some parts meets just those
met-these : {P : Type 0} (ps : List P) → met (these ps) ≡ ps
met-these [] = refl
met-these (p ∷ ps) = rw (met-these ps)

-- the octets of the containers that stand in some octets are those containers and nothing else
module _ (s : List ℕ) (o : Octets s) where
  abbrev contained : List Container
  contained = containers_of s

  abbrev first : List ℕ
  first = take (containers_length contained) s

  first_is : first ≡ joined container_octets contained
  unfolding container_walk
  first_is =
      let r = walk_again (container_codes s) o (λ z. absurd z) in
      ap (take (containers_length contained)) r.1 ∙ take_at (joined container_octets contained) r.0 (containers_length contained) (length_containers contained)

  first_again : containers_of first ≡ contained
  unfolding container_walk
  first_again = ap met (walk_read (container_codes first) contained 0 (containers_fit s o) (first_is ∙ sym (append-nil (joined container_octets contained)))) ∙ met-these contained

  first_all : all_containers first ≡ true
  unfolding all_containers
  first_all = eq-eqb (containers_length (containers_of first)) (length first) (ap containers_length first_again ∙ sym (ap length first_is ∙ length_containers contained))

-- ---- every kind of frame

module _ (f : List ℕ) (o : Octets f) (source flags : ℕ) where
  abbrev message : Body → Message
  message b = message_of source flags b

  body_again : (b : Body) → plain_body b ≡ true → Stepped f b → fixed_number f ≡ number_in b → handed_by f (header_in (message b)) ≡ is (message b)
  body_again (information ps) h s n = ap (λ (x : List InformationPart). is (message (information x))) (ap (λ (x : List InformationPart). parts_of (found_in x)) (sym s) ∙ found_again ps h)
  body_again (notification number es) h s n =
      rw n (ap (λ (x : List Event). is (message (notification number x))) (ap (λ (x : List Event). events_of (sevens x)) (sym s.1) ∙ events_again es))
  body_again (request ds) h s n = ap (λ (x : List ℕ). is (message (request x))) (sym s)
  body_again (response cs) h s n =
      let from = octets_from f o body_start in
      rw (first_all (drop body_start f) from) (ap (λ (x : List Container). is (message (response x))) (first_again (drop body_start f) from ∙ sym s))
  body_again (loopback command) h s n = ap (λ (x : ℕ). is (message (loopback x))) n
  body_again (organization oui x) h s n = rw n (ap (λ (y : List ℕ). is (message (organization oui y))) (sym s.1))

-- what is handed over is the message that the frame says
pub handed_again : (f : List ℕ) (m : Message) → Octets f → plain m ≡ true → decode f ≡ accepted m → handed f (judgement_of f) ≡ is m
unfolding judgement_of
handed_again f m o p d =
    rw (d, header_agrees f m d)
    (body_again f o m.source m.flags m.body (plain_body_lem m p) (steps_give_parts f m d) (number_agrees f m d)
    ∙ (λ i. is (record { source = m.source; flags = m.flags; skipped = sym (plain_unskipped m p) i; body = m.body })))

-- the writer of a message that is in plain form, where the output is long enough
module _ (m : Message) (p : plain m ≡ true) (f : List ℕ) (e : encode m ≡ f) (out : List ℕ) (h : length f ≤ length out) where
  answers : writes m (length out) ≡ Wrote (length f)
  unfolding writes
  answers = rw (p, e, le-ltb (length out) (length f) h)

  stores : written m out ≡ sets out 0 f
  unfolding written
  stores = rw (p, e, le-ltb (length out) (length f) h)

pub read_and_written : (f : List ℕ) → Octets f → plain_frame f ≡ true → Again f
read_and_written f o h =
    let k = plain_frame_lem f o h in
    let m = k.0 in
    record {
      message = m;
      hands = handed_again f m o k.2 k.1;
      answer = answers m k.2 f k.3;
      output = stores m k.2 f k.3;
    }

-- the same of the containers of a response, as they stand in its frame
pub containers_again : (f : List ℕ) (source flags : ℕ) (cs : List Container) → Octets f → plain_frame f ≡ true
    → decode f ≡ accepted (message_of source flags (response cs))
    → ContainersAgain f source flags cs
unfolding plain_frame
containers_again f source flags cs o p d =
    let from = octets_from f o body_start in
    let m = message_of source flags (response cs) in
    let q : plain_answer f (accepted m) ≡ true = sym (ap (plain_answer f) d) ∙ p in
    let plainly : plain m ≡ true = search and_l in
    let e = written_again f m o p d in
    let same : containers_of (containers_part f) ≡ cs = first_again (drop body_start f) from ∙ sym (steps_give_parts f m d) in
    let all = first_all (drop body_start f) from in
    record {
      same = same;
      all = all;
      again = λ out answer exit h w. (
        w.answers
            ∙ (λ i. cond (all i) (writes (message_of source flags (response (same i))) (length out)) (Refused 10))
            ∙ answers m plainly f e out h,
        w.output ∙ (λ i. cond (all i) (written (message_of source flags (response (same i))) out) out) ∙ stores m plainly f e out h,
      );
    }
