-- The lengths of what is written.
use Prim.Native.Nat.{ℕ, ◌+◌, ◌*◌, ◌%◌, ◌<◌, ◌≤◌, max}
use mathlib.Core.Path.{◌≡◌, refl, sym, ap, ◌∙◌}
use mathlib.Core.List.{List, [], ◌∷◌, ◌++◌}
use mathlib.Core.Bool.{true}
use native.Mathlib.Omega.{arith}
use native.Mathlib.Nat.{mul-zero, mul-suc}
use borrow.Author.Tests.{leb-true, le-ltb, ne_eqb}
use lib.ListN.{length, length-append, length-replicate}
use lib.Dec.{leb}
use Rattle.octets.specs.Octets.{total, oct, fit}
use Rattle.octets.specs.Layout.{shortest_frame, body_start}
use Rattle.frame_tlvs.specs.Tlvs.{row, event_length}
use Rattle.frame_body.specs.declared.InformationPart.{InformationPart}
use Rattle.frame_body.specs.declared.InformationPart.TheVariants.{Local as local, Remote as remote}
use Rattle.frame.specs.Frame.{Body, information, notification, request, response, loopback, organization, Message, code_of}
use Rattle.frame_body.specs.declared.Information.{Information}
use Rattle.frame_tlvs.specs.declared.Event.{Event}
use Rattle.frame_tlvs.proofs.Rows.{row_of}
use Rattle.frame_tlvs.proofs.Marks.{event_sized}
use Rattle.frame_body.specs.Variables.{Container, value, indication}
use Rattle.octets.specs.Tests.{every}
use Rattle.frame_variables.specs.Answers.{container_length, containers_length}
use Rattle.frame_writer.specs.Encode.{header_octets, information_octets, part_octets, event_values, event_octets, container_octets, joined, body_octets, padded, encode}
use Rattle.frame_writer.specs.Plain.{plain_event, plain_organization, plain_body, plain, events_length, body_length}
use Rattle.octets.proofs.Bools.{and_l, and_r}
use Rattle.octets.proofs.Numbers.{length-oct, length-octs}

-- parts that are all of one length
pub length-joined : {P : Type 0} (octets : P → List ℕ) (n : ℕ) → ((p : P) → length (octets p) ≡ n) → (ps : List P) → length (joined octets ps) ≡ n * length ps
length-joined octets n h [] = sym (mul-zero n)
length-joined octets n h (p ∷ ps) =
    omega (arith, length-append (octets p) (joined octets ps), h p, length-joined octets n h ps, mul-suc n (length ps))

-- ---- headers and Information TLVs

pub length_header : (source flags code : ℕ) → length (header_octets source flags code) ≡ body_start
unfolding header_octets
length_header source flags code = refl

pub length_information : (t : ℕ) (i : Information) → length (information_octets t i) ≡ 16
unfolding information_octets
length_information t i = refl

pub length_part : (p : InformationPart) → length (part_octets p) ≡ 16
length_part (local i) = length_information 1 i
length_part (remote i) = length_information 2 i

-- ---- events

-- a type in the table has a TLV of its row's length
pub length_row : (t : ℕ) → 0 < t → t ≤ 4 → event_length t ≡ 2 + total (row t)
unfolding event_length
length_row t l h = rw (ne_eqb t 0 (λ z. omega arith), le-ltb 4 t h)

-- what the plain form says of an event: its type has a row, each value is within its width there, and the row gives its length
pub record Tabled (e : Event) : Type 0 where
  pub least : 0 < e.kind
  pub most : e.kind ≤ 4
  pub fits : fit (row e.kind) (event_values e) ≡ true
  pub six : length (row e.kind) ≡ 6
  pub sized : event_length e.kind ≡ 2 + total (row e.kind)
  pub short : event_length e.kind ≤ 40
  pub long : length (event_octets e) ≡ event_length e.kind

-- an event in plain form is in the table
pub tabled : (e : Event) → plain_event e ≡ true → Tabled e
unfolding plain_event event_octets
tabled e h =
    let t = e.kind in
    let low : leb 1 t ≡ true = search (and_l, and_r) in
    let high : leb t 4 ≡ true = search (and_l, and_r) in
    let least = leb-true 1 t low in
    let most = leb-true t 4 high in
    let r = row_of t least most in
    let sized = length_row t least most in
    record {
      least = least;
      most = most;
      fits = search and_r;
      six = r.six;
      sized = sized;
      short = (event_sized {at = 0} {len = 1} (omega arith) t (event_length t) least most refl).2;
      long = omega (arith, length-octs (row t) (event_values e) (omega arith));
    }

-- the events of a notification
pub length_events : (es : List Event) → every plain_event es ≡ true → length (joined event_octets es) ≡ events_length es
length_events [] h = refl
length_events (e ∷ es) h =
    let a : plain_event e ≡ true = search and_l in
    let b : every plain_event es ≡ true = search and_r in
    omega (arith, length-append (event_octets e) (joined event_octets es), (tabled e a).long, length_events es b)

-- no event is longer than 40 octets
pub events_short : (es : List Event) → every plain_event es ≡ true → events_length es ≤ 40 * length es
events_short [] h = omega arith
events_short (e ∷ es) h =
    let a : plain_event e ≡ true = search and_l in
    let b : every plain_event es ≡ true = search and_r in
    omega (arith, (tabled e a).short, events_short es b)

-- ---- containers

pub length_container : (c : Container) → length (container_octets c) ≡ container_length c
length_container (value d x) =
    let octet = oct 1 (length x % 128) in
    omega (arith, length-append (oct 3 d) (octet ++ x), length-oct 3 d, length-append octet x, length-oct 1 (length x % 128))
length_container (indication d octet) = omega (arith, length-append (oct 3 d) (oct 1 octet), length-oct 3 d, length-oct 1 octet)

pub length_containers : (cs : List Container) → length (joined container_octets cs) ≡ containers_length cs
length_containers [] = refl
length_containers (c ∷ cs) = omega (arith, length-append (container_octets c) (joined container_octets cs), length_container c, length_containers cs)

-- ---- bodies and frames

-- a body in plain form has the length that `body_length` tells
pub length_body : (b : Body) → plain_body b ≡ true → length (body_octets b) ≡ body_length b
length_body (information ps) h = length-joined part_octets 16 length_part ps
length_body (notification n es) h =
    let all : every plain_event es ≡ true = search and_r in
    omega (arith, length-append (oct 2 n) (joined event_octets es), length-oct 2 n, length_events es all)
length_body (request ds) h = length-joined (oct 3) 3 (length-oct 3) ds
length_body (response cs) h = length_containers cs
length_body (loopback n) h = refl
length_body (organization oui x) h = omega (arith, length-append (oct 3 oui) x, length-oct 3 oui)

-- a message in plain form has a body in plain form
pub plain_body_lem : (m : Message) → plain m ≡ true → plain_body m.body ≡ true
unfolding plain
plain_body_lem m h = search and_r

-- an organization's data in plain form fills the shortest frame
pub organization_long : (oui octets : ℕ) → plain_organization oui octets ≡ true → 39 ≤ octets
organization_long oui octets h =
    let many : leb 39 octets ≡ true = search (and_l, and_r) in
    leb-true 39 octets many

-- where the last part of a body in plain form ends
abbrev pub end_of : Body → ℕ
end_of b = body_start + body_length b

abbrev pub header : Message → List ℕ
header m = header_octets m.source m.flags (code_of m.body)

-- header and body, before the zeros
abbrev pub unpadded : Message → List ℕ
unpadded m = header m ++ body_octets m.body

-- it ends where the last part ends
pub length-unpadded : (m : Message) → plain_body m.body ≡ true → length (unpadded m) ≡ end_of m.body
length-unpadded m h = simp (length-append, length_header, length_body m.body h)

pub length-padded : (x : List ℕ) → length (padded x) ≡ max shortest_frame (length x)
length-padded x = simp (length-append, length-replicate) (omega arith)

pub length-encode : (m : Message) → plain_body m.body ≡ true → length (encode m) ≡ max shortest_frame (end_of m.body)
unfolding encode
length-encode m h = length-padded (unpadded m) ∙ ap (max shortest_frame) (length-unpadded m h)
