-- How long a frame in plain form is, and the zeros at its end.
use Prim.Native.Nat.{ℕ, zero, suc, ◌-◌, ◌≤◌, max}
use mathlib.Core.Path.{◌≡◌, refl, sym, ap}
use mathlib.Core.List.{List, [], ◌∷◌, ◌++◌}
use mathlib.Core.Bool.{true}
use native.Mathlib.Omega.{arith}
use borrow.Author.Tests.{leb-true, eqb-true, eq-eqb}
use lib.ListN.{length, drop, replicate, length-append}
use lib.Seq.{drop-append_seam}
use lib.Dec.{leb, eqb}
use Rattle.frame.specs.Frame.{Body, information, notification, request, response, loopback, organization, Message}
use Rattle.octets.specs.Octets.{zeros}
use Rattle.octets.specs.Layout.{shortest_frame, longest_frame}
use Rattle.frame_writer.specs.Encode.{padded, encode}
use Rattle.octets.specs.Tests.{every}
use Rattle.frame_variables.specs.Answers.{containers_length}
use Rattle.frame_tlvs.specs.declared.Event.{Event}
use Rattle.frame_writer.specs.Plain.{plain_event, most_events, plain_body, plain}
use Rattle.theorems_frame.specs.PlainFrame.{shortest}
use Rattle.theorems_frame.specs.Notifying.{longest_notification}
use Rattle.octets.proofs.Bools.{and_l, and_r}
use Rattle.frame_writer.proofs.Lengths.{events_short, plain_body_lem, end_of, length-padded, length-encode}
use Rattle.theorems_frame.proofs.Informing.{plain_parts_lem}

-- a notification in plain form ends by the longest one's end
pub notification_short : (n : ℕ) (es : List Event) → plain_body (notification n es) ≡ true → end_of (notification n es) ≤ longest_notification
notification_short n es h =
    let few : leb (length es) most_events ≡ true = search (and_l, and_r) in
    let all : every plain_event es ≡ true = search and_r in
    omega (arith, leb-true (length es) most_events few, events_short es all)

-- a body in plain form leaves room for the header
pub body_short : (b : Body) → plain_body b ≡ true → end_of b ≤ longest_frame
body_short (information ps) h = omega (arith, (plain_parts_lem ps h).few)
body_short (notification n es) h = omega (arith, notification_short n es h)
body_short (request ds) h = let few : leb (length ds) 32 ≡ true = search (and_l, and_r) in omega (arith, leb-true (length ds) 32 few)
body_short (response cs) h = let few : leb (containers_length cs) 1496 ≡ true = search and_r in omega (arith, leb-true (containers_length cs) 1496 few)
body_short (loopback n) h = omega arith
body_short (organization oui x) h = let few : leb (length x) 1493 ≡ true = search and_r in omega (arith, leb-true (length x) 1493 few)

-- a frame in plain form is 60 to 1,514 octets long
pub encode-length : (m : Message) → plain m ≡ true → (shortest_frame ≤ length (encode m)) × (length (encode m) ≤ longest_frame)
encode-length m h =
    let b = plain_body_lem m h in
    (omega (arith, length-encode m b), omega (arith, length-encode m b, body_short m.body b))

-- ---- the zeros at a frame's end

-- zeros are zeros, and nothing else is
zeros_hold : (n : ℕ) → zeros (replicate n 0) ≡ true
zeros_hold zero = refl
zeros_hold (suc n) = zeros_hold n

zeros_are : (s : List ℕ) → zeros s ≡ true → s ≡ replicate (length s) 0
zeros_are [] h = refl
zeros_are (x ∷ s) h =
    let first : eqb x 0 ≡ true = search and_l in
    let others : zeros s ≡ true = search and_r in
    λ i. eqb-true x 0 first i ∷ zeros_are s others i

-- what was padded has the shortest length and zeros at its end
pub padded-shortest : (x : List ℕ) → shortest (length x) (padded x) ≡ true
padded-shortest x =
    rw (eq-eqb (length (padded x)) (max shortest_frame (length x)) (length-padded x), drop-append_seam x (replicate (shortest_frame - length x) 0)) (zeros_hold (shortest_frame - length x))

-- what has them was padded
pub shortest-padded : (x z : List ℕ) → shortest (length x) (x ++ z) ≡ true → padded x ≡ x ++ z
shortest-padded x z h =
    let long : eqb (length (x ++ z)) (max shortest_frame (length x)) ≡ true = search and_l in
    let after : zeros (drop (length x) (x ++ z)) ≡ true = search and_r in
    let n : shortest_frame - length x ≡ length z = omega (arith, eqb-true (length (x ++ z)) (max shortest_frame (length x)) long, length-append x z) in
    rw n (ap (λ (y : List ℕ). x ++ y) (sym (zeros_are z (rw drop-append_seam at after))))
