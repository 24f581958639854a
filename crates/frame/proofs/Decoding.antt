-- How the judge's answers come to what `decode` says.
use Prim.Native.Nat.{ℕ, ◌≤◌}
use mathlib.Core.Path.{◌≡◌, refl, sym, ap, ◌∙◌}
use mathlib.Core.List.{List, [], ◌∷◌}
use mathlib.Core.Bool.{Bool, true, false, cond, ◌||◌}
use native.Mathlib.Omega.{arith}
use borrow.Author.Tests.{ltb-false, lt-ltb, eqb-true, eq-eqb, ne_eqb}
use lib.ListN.{length, get_or, drop, length-drop}
use lib.Dec.{ltb, eqb}
use Rattle.octets.specs.Octets.{Octets, num}
use Rattle.octets.specs.declared.refusal.Refusal.{Refusal}
use Rattle.octets.specs.Refusals.{number}
use Rattle.octets.specs.Layout.{shortest_frame, longest_frame, destination, body_start, events_start}
use Rattle.frame_tlvs.specs.Walk.{Walk, ends, breaks, over, part, whole, Parsed, refused as unread, parts, also, listed, skipped_in}
use Rattle.frame_body.specs.Information.{information_step, next_of, information_walk, information_parts}
use Rattle.frame_body.specs.declared.InformationPart.{InformationPart}
use Rattle.frame_body.specs.Judging.{local_place, judged, judged_information}
use Rattle.frame.specs.Reader.{list_answer, command_answer, other_answer, other_judgement, sixteen_bits, events_judgement, information_judgement, body_judgement}
use Rattle.frame_tlvs.specs.Events.{event_step, next_of as event_next_of, event_walk}
use Rattle.frame_tlvs.proofs.Walks.{few_skips}
use Rattle.frame_tlvs.specs.declared.Event.{Event}
use Rattle.frame_body.specs.Counting.{judged_walk, judged_events}
use Rattle.frame_body.specs.Counting.{BrokenEvent, WholeEvents}
use Rattle.frame_body.specs.Variables.{descriptor_walk, container_walk}
use Rattle.frame.specs.Frame.{refused, Body, information, notification, request, response, loopback, says, says_all, notified, header_answer, body_answer, decode, place_in, judgement, judgement_of}
use Rattle.frame.specs.Judgement.{Judgement}
use Rattle.frame.specs.Judgement.{Refused, Accepted}
use Rattle.octets.proofs.Bools.{whether, by_cond, neither}

-- a test of a code that is known
pub coded : {code k : ℕ} → code ≡ k → (j : ℕ) → eqb code j ≡ eqb k j
coded e j = ap (λ (x : ℕ). eqb x j) e

-- ---- the destination as four octets and two

pub destination_is : (f : List ℕ) → num 4 f 0 ≡ 0x0180_c200 → num 2 f 4 ≡ 2 → eqb (num 6 f 0) destination ≡ true
destination_is f a b = eq-eqb (num 6 f 0) destination (omega arith)

pub destination_other : (f : List ℕ) → Octets f → (num 4 f 0 ≡ 0x0180_c200 → num 2 f 4 ≡ 2 → ⊥) → eqb (num 6 f 0) destination ≡ false
destination_other f o h =
    ne_eqb (num 6 f 0) destination (λ e. h (omega (arith, o 4, o 5)) (omega (arith, o 4, o 5)))

-- ---- what is judged of a body

judged-information : (f : List ℕ) (skipped : ℕ) → sixteen_bits skipped ≡ skipped → (w : Parsed InformationPart)
    → information_judgement (judged (local_place (drop body_start f)) skipped w) ≡ judgement f (says_all f skipped information w)
judged-information f skipped few (unread n) = refl
judged-information f skipped few (parts ps) = ap (Accepted (local_place (drop body_start f))) few

-- a list of parts is judged by whether it is whole, whatever its parts, with the number that is skipped: it has no Local
module _ {P : Type 0} (f : List ℕ) (skipped : ℕ) (make : List P → Body) (none : (ps : List P) → place_in (drop body_start f) (make ps) ≡ length (drop body_start f)) where
  abbrev accepts : ℕ → Judgement
  accepts place = Accepted place skipped

  judged_also : (p : P) (x : Parsed P) → judgement f (says_all f skipped make x) ≡ judgement f (says_all f skipped make (also p x))
  judged_also p (unread n) = refl
  judged_also p (parts ps) = ap accepts (none ps ∙ sym (none (p ∷ ps)))

  judged_walk_lem : (w : Walk P) → cond (whole w) (Accepted (length (drop body_start f)) skipped) (Refused 6) ≡ judgement f (says_all f skipped make (listed w))
  judged_walk_lem ends = ap accepts (sym (none []))
  judged_walk_lem breaks = refl
  judged_walk_lem (over w) = judged_walk_lem w
  judged_walk_lem (part p w) = judged_walk_lem w ∙ judged_also p (listed w)

-- descriptors and containers skip nothing
judged_list : {P : Type 0} (f : List ℕ) (make : List P → Body) → ((ps : List P) → place_in (drop body_start f) (make ps) ≡ length (drop body_start f))
    → (w : Walk P) → other_judgement (list_answer (whole w)) (length (drop body_start f)) ≡ judgement f (says_all f 0 make (listed w))
judged_list f make none w = by_whole (whole w) ∙ judged_walk_lem f 0 make none w
  where
    by_whole : (b : Bool) → other_judgement (list_answer b) (length (drop body_start f)) ≡ cond b (Accepted (length (drop body_start f)) 0) (Refused 6)
    by_whole true = refl
    by_whole false = refl

judged_events_lem : (f : List ℕ) (w : Walk Event) → sixteen_bits (skipped_in w) ≡ skipped_in w
    → events_judgement (judged_walk w) (length (drop body_start f)) ≡ judgement f (notified f w)
judged_events_lem f w few = by_whole (whole w) ∙ judged_walk_lem f (skipped_in w) (notification (num 2 f body_start)) (λ _. refl) w
  where
    by_whole : (b : Bool)
        → events_judgement (cond b (WholeEvents (skipped_in w)) BrokenEvent) (length (drop body_start f))
        ≡ cond b (Accepted (length (drop body_start f)) (skipped_in w)) (Refused 6)
    by_whole true = ap (Accepted (length (drop body_start f))) few
    by_whole false = refl

judged_command : (f : List ℕ) (n : ℕ)
    → other_judgement (command_answer n) (length (drop body_start f))
    ≡ judgement f (cond (eqb n 1 || eqb n 2) (says f 0 (loopback n)) (refused 8))
judged_command f n = go (eqb n 1) (eqb n 2)
  where
    go : (a b : Bool)
        → other_judgement (cond a 0 (cond b 0 8)) (length (drop body_start f))
        ≡ judgement f (cond (a || b) (says f 0 (loopback n)) (refused 8))
    go true b = refl
    go false true = refl
    go false false = refl

-- ---- the whole frame

pub header_long : (f : List ℕ) → header_answer f ≡ 0 → shortest_frame ≤ length f
unfolding header_answer
header_long f =
    by_cond (λ (n : ℕ). n ≡ 0 → shortest_frame ≤ length f) (ltb (length f) shortest_frame || ltb longest_frame (length f)) (λ _ e. absurd (omega arith))
    (λ h _. omega (arith, ltb-false (length f) shortest_frame (neither (ltb (length f) shortest_frame) (ltb longest_frame (length f)) h).0))

pub header_short : (f : List ℕ) → header_answer f ≡ 0 → length f ≤ longest_frame
unfolding header_answer
header_short f =
    by_cond (λ (n : ℕ). n ≡ 0 → length f ≤ longest_frame) (ltb (length f) shortest_frame || ltb longest_frame (length f)) (λ _ e. absurd (omega arith))
    (λ h _. omega (arith, ltb-false longest_frame (length f) (neither (ltb (length f) shortest_frame) (ltb longest_frame (length f)) h).1))

-- the TLVs that are skipped in a part of such a frame are counted in sixteen bits
few_in : (f s : List ℕ) (n : ℕ) → header_answer f ≡ 0 → length s ≤ length f → n ≤ length s → sixteen_bits n ≡ n
few_in f s n h within few = rw (lt-ltb n 0xffff (omega (arith, header_short f h)))

few_information : (s : List ℕ) → skipped_in (information_walk s) ≤ length s
unfolding information_walk
few_information s = few_skips (λ at. next_of (information_step s at)) (length s) 0

few_events : (s : List ℕ) → skipped_in (event_walk s) ≤ length s
unfolding event_walk
few_events s = few_skips (λ at. event_next_of (event_step s at)) (length s) 0

-- no refusal has the number of none
some_number : (r : Refusal) → 1 ≤ number r
some_number r = grind arith

pub header_refused : (f : List ℕ) (r : Refusal) → number r ≡ header_answer f → Refused (number r) ≡ judgement_of f
unfolding judgement_of decode
header_refused f r e = rw (← e, ne_eqb (number r) 0 (λ z. omega (arith, some_number r)))

pub body_judged : (f : List ℕ) → 0 ≡ header_answer f → body_judgement f ≡ judgement_of f
unfolding judgement_of decode body_answer body_judgement other_answer judged_information judged_events
body_judged f passed =
    let h = sym passed in
    let code = get_or f 17 0 in
    let s = drop body_start f in
    let e = drop events_start f in
    let information_few = few_in f s (skipped_in (information_walk s)) h (omega (arith, length-drop body_start f)) (few_information s) in
    let events_few = few_in f e (skipped_in (event_walk e)) h (omega (arith, length-drop events_start f)) (few_events e) in
    whether (eqb code 0) (λ t. rw (h, eqb-true code 0 t) (judged-information f (skipped_in (information_walk s)) information_few (information_parts false false (information_walk s)))) (λ a.
    whether (eqb code 1) (λ t. rw (h, eqb-true code 1 t) (judged_events_lem f (event_walk e) events_few)) (λ b.
    whether (eqb code 2) (λ t. rw (h, eqb-true code 2 t) (judged_list f request (λ _. refl) (descriptor_walk s))) (λ c.
    whether (eqb code 3) (λ t. rw (h, eqb-true code 3 t) (judged_list f response (λ _. refl) (container_walk s))) (λ d.
    whether (eqb code 4) (λ t. rw (h, eqb-true code 4 t) (judged_command f (get_or f body_start 0))) (λ e.
    whether (eqb code 0xfe) (λ t. rw (h, eqb-true code 0xfe t)) (λ o. simp (h, a, b, c, d, e, o)))))))
