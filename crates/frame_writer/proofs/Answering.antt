-- The answers to descriptors are a body in plain form, and how many octets their frame needs.
use Prim.Native.Nat.{ℕ, ◌+◌, ◌-◌, ◌≤◌, max}
use mathlib.Core.Path.{◌≡◌, refl, sym, ap, ◌∙◌}
use mathlib.Core.List.{List, [], ◌∷◌, ◌++◌, append_assoc, append-nil}
use mathlib.Core.Bool.{true, false, cond}
use Rattle.std.specs.Prelude.{None, Some}
use native.Mathlib.Omega.{arith}
use borrow.Author.Tests.{ne_eqb, eqb-true, eqb-false, leb-true, le-leb, lt-ltb}
use lib.ListN.{length, take, drop, length-drop}
use lib.Seq.{sets, length-take-le}
use lib.Dec.{leb, eqb}
use Rattle.octets.specs.Layout.{shortest_frame, body_start}
use Rattle.octets.proofs.Bools.{whether, by_cond, and_l, and_r}
use Rattle.frame.specs.Frame.{response}
use Rattle.frame_body.specs.Variables.{Container}
use Rattle.octets.specs.Tests.{every}
use Rattle.frame_variables.specs.Descriptors.{plain_descriptor}
use Rattle.frame_variables.specs.Attributes.{attributes_from, most_width, formed_attributes}
use Rattle.frame_variables.specs.Answers.{lookup, container_length, containers_length, answers, room_within, answers_within, formed_answers, place_of, measured_answers, some_octets, answer_octets, left_after}
use Rattle.frame_variables.proofs.Placing.{formed_parts, place_answers}
use Rattle.frame_variables.proofs.Answering.{room_most, measured_within, answers_measured, answers_turn, none_octets, octets_are, none_fit}
use Rattle.octets.proofs.Stores.{sets-append}
use Rattle.frame_writer.specs.Encode.{container_octets, joined}
use Rattle.frame_writer.proofs.Lengths.{length_containers}
use Rattle.frame_writer.specs.Plain.{plain_container, most_containers_octets, plain_body, sized}
use Rattle.frame_writer.specs.Responses.{containers_of, all_containers, formed_containers, needed_within, needed_octets}
use Rattle.frame_writer.proofs.Writers.{Needed, sized_plain, some_sized, none_sized}

module _ (ns vs : List ℕ) (h : formed_attributes ns vs ≡ true) where
  -- what answers a plain descriptor is plain: the value of an attribute, which has 1 to 128 octets, or A1
  lookup_plain : (d : ℕ) → plain_descriptor d ≡ true → plain_container (lookup (attributes_from ns vs) d) ≡ true
  lookup_plain d p =
      let w = (place_of ns d).width in
      let x = drop (place_of ns d).at vs in
      let r = place_answers ns vs h d in
      let long : length (take w x) ≡ w = length-take-le w x (omega (arith, r.within, length-drop (place_of ns d).at vs)) in
      rw r.answered
      (by_cond (λ (c : Container). plain_container c ≡ true) (eqb w 0)
      (λ t. rw p)
      (λ f. rw (p, long, le-leb 1 w (omega (arith, eqb-false w 0 f)), le-leb w most_width r.short)))

  -- so each answer is plain
  each_plain : (room : ℕ) (ds : List ℕ) → every plain_descriptor ds ≡ true → every plain_container (answers room (attributes_from ns vs) ds) ≡ true
  each_plain room [] k = refl
  each_plain room (d ∷ ds) k =
      let one : plain_descriptor d ≡ true = search and_l in
      let rest : every plain_descriptor ds ≡ true = search and_r in
      let n = container_length (lookup (attributes_from ns vs) d) in
      by_cond (λ (cs : List Container). every plain_container cs ≡ true) (leb n room) (λ t. rw (lookup_plain d one, each_plain (room - n) ds rest)) (λ f. refl)

-- the octets of the answers to descriptors, as many as fit into a room
abbrev pub answers_of : (room : ℕ) (ns vs ds : List ℕ) → List ℕ
answers_of room ns vs ds = joined container_octets (answers room (attributes_from ns vs) ds)

-- the octets of containers, and of others after them
joined_on : (cs ds : List Container) → joined container_octets (cs ++ ds) ≡ joined container_octets cs ++ joined container_octets ds
joined_on [] ds = refl
joined_on (c ∷ cs) ds = rw (joined_on cs ds) (sym (append_assoc (container_octets c) (joined container_octets cs) (joined container_octets ds)))

-- a turn of a loop over descriptors: where the next answer does not fit, and where it does
module _ (ns vs : List ℕ) (h : formed_attributes ns vs ≡ true) (left d : ℕ) (ds : List ℕ) where
  pub answers_off : None ≡ some_octets (answer_octets left ns d) → answers_of left ns vs (d ∷ ds) ≡ answers_of left ns vs (d ∷ [])
  answers_off e =
      let n = answer_octets left ns d in
      let z = none_octets n e in
      let none = none_fit 0 (attributes_from ns vs) ds (omega arith) in
      ap (joined container_octets) ((answers_turn ns vs h left d).next ds ∙ rw (z, none) (append-nil (answers left (attributes_from ns vs) (d ∷ []))))

  pub answers_next : {k : ℕ} → Some k ≡ some_octets (answer_octets left ns d) → (l : List ℕ) (at : ℕ)
      → sets l at (answers_of left ns vs (d ∷ ds)) ≡ sets (sets l at (answers_of left ns vs (d ∷ []))) (at + k) (answers_of (left - k) ns vs ds)
  answers_next {k} e l at =
      let n = answer_octets left ns d in
      let a = octets_are n k e in
      let t = answers_turn ns vs h left d in
      let first = answers left (attributes_from ns vs) (d ∷ []) in
      let later = answers (left - k) (attributes_from ns vs) ds in
      let after : left_after left n ≡ left - k = rw (a.0, ne_eqb n 0 a.1) in
      let long : length (joined container_octets first) ≡ k = omega (arith, length_containers first, t.long [], a.0) in
      ap (λ (cs : List Container). sets l at (joined container_octets cs)) (t.next ds ∙ ap (λ (n : ℕ). first ++ answers n (attributes_from ns vs) ds) after)
      ∙ ap (sets l at) (joined_on first later)
      ∙ sets-append l at (joined container_octets first) (joined container_octets later)
      ∙ ap (λ (n : ℕ). sets (sets l at (joined container_octets first)) (at + n) (joined container_octets later)) long

module _ (size : ℕ) (ns vs ds : List ℕ) (h : formed_answers ns vs ds ≡ true) where
  -- the octets of the answers are as many as are measured
  pub answers_long : measured_answers (room_within size) ns ds ≡ containers_length (answers_within size ns vs ds)
  answers_long = answers_measured ns vs (formed_parts ns vs ds h).held (room_within size) ds

  -- descriptors and attributes in range give a body in plain form, whatever the maximum size
  pub answers_plain : plain_body (response (answers_within size ns vs ds)) ≡ true
  answers_plain =
      let f = formed_parts ns vs ds h in
      let room = room_within size in
      let fits = le-leb (containers_length (answers_within size ns vs ds)) most_containers_octets (omega (arith, room_most size, measured_within room ns ds, answers_long)) in
      rw (each_plain ns vs f.held room ds f.plain, fits)

-- ---- how many octets their frame needs

-- an output has the octets that it needs where it has those of the frame
pub needed_lent : (lent room : ℕ) (ns ds : List ℕ)
    → leb (needed_within lent room ns ds) lent ≡ leb (max shortest_frame (body_start + measured_answers room ns ds)) lent
needed_lent lent room ns ds =
    let all = max shortest_frame (body_start + room) in
    let exact = max shortest_frame (body_start + measured_answers room ns ds) in
    whether (leb all lent)
    (λ t. rw (t, t) (sym (le-leb exact lent (omega (arith, leb-true all lent t, measured_within room ns ds)))))
    (λ f. rw f)

-- what is needed is 0 where the frame's octets are, and no more than an output has where these are
pub needed_same : (lent size : ℕ) (ns vs ds : List ℕ)
    → Needed (needed_octets lent size ns vs ds) (cond (formed_answers ns vs ds) (sized (response (answers_within size ns vs ds))) 0) lent
needed_same lent size ns vs ds = whether (formed_answers ns vs ds) formed (λ f. rw f (record { some = refl; held = refl }))
  where
    formed : formed_answers ns vs ds ≡ true → Needed (needed_octets lent size ns vs ds) (cond (formed_answers ns vs ds) (sized (response (answers_within size ns vs ds))) 0) lent
    formed t =
        let room = room_within size in
        let b = response (answers_within size ns vs ds) in
        let exact = max shortest_frame (body_start + measured_answers room ns ds) in
        let same : exact ≡ sized b = omega (arith, answers_long size ns vs ds t, sized_plain b (answers_plain size ns vs ds t)) in
        let n = needed_within lent room ns ds in
        let least : 60 ≤ n = by_cond (λ (k : ℕ). 60 ≤ k) (leb (max shortest_frame (body_start + room)) lent) (λ _. omega arith) (λ _. omega arith) in
        rw t
        (record {
          some = lt-ltb 0 n (omega (arith, least)) ∙ sym (lt-ltb 0 (sized b) (omega (arith, same)));
          held = needed_lent lent room ns ds ∙ ap (λ (k : ℕ). leb k lent) same;
        })

-- ---- the octets of the frame of containers as they stand in a frame

module _ (s : List ℕ) where
  pub unformed_sized : formed_containers s ≡ false → None ≡ some_octets (cond (all_containers s) (sized (response (containers_of s))) 0)
  unformed_sized f = whether (all_containers s) (λ t. rw t (none_sized (response (containers_of s)) (rw t at f))) (λ f. rw f)

  pub formed_sized : {octets : ℕ} → formed_containers s ≡ true → octets ≡ max shortest_frame (body_start + length s)
      → Some octets ≡ some_octets (cond (all_containers s) (sized (response (containers_of s))) 0)
  unfolding all_containers
  formed_sized t e =
      let all : all_containers s ≡ true = search and_l in
      let plain : plain_body (response (containers_of s)) ≡ true = search and_r in
      rw all (some_sized (response (containers_of s)) plain (omega (arith, eqb-true (containers_length (containers_of s)) (length s) all)))
