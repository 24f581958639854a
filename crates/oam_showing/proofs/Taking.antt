-- The rows of a frame are made of exactly the parts of the message that it says, and have the numbers that the walk over its body
-- gives beside them.
use Prim.Native.Nat.{ℕ, zero, suc, ◌+◌, ◌≤◌}
use mathlib.Core.Path.{◌≡◌, refl, sym, ap, subst, ◌∙◌}
use mathlib.Core.List.{List, [], ◌∷◌, map, map-map, map-id}
use native.Mathlib.Nat.{add-zero}
use native.Mathlib.Omega.{arith}
use lib.ListN.{length, get_or, drop, length-drop, length-map}
use Rattle.frame_tlvs.specs.Walk.{Next, stop, broken, skip, has, Walk, ends, breaks, over, part, on_next, walk, met, beside}
use Rattle.frame_tlvs.specs.Events.{event_step, next_of as event_next_of, event_walk}
use Rattle.frame_body.specs.Information.{information_step, next_of as information_next_of, information_walk}
use Rattle.frame_body.specs.Variables.{descriptor_step, descriptor_next, descriptor_walk, container_step, container_next, container_walk}
use Rattle.frame_body.specs.Variables.{DescriptorStep}
use Rattle.frame_body.specs.Variables.{DescriptorEnd, DescriptorBroken, Has}
use Rattle.frame_body.specs.Variables.{ContainerStep}
use Rattle.frame_body.specs.Variables.{End, Broken, Value, Indication}
use Rattle.frame.specs.Frame.{Body, information, notification, request, response, loopback, organization, code_of, Message, accepted, decode}
use Rattle.frame.specs.Steps.{Stepped}
use Rattle.oam_showing.specs.Parts.{Placed, before, placed, placed_from, information_placed, events_placed, descriptors_placed, containers_placed, information_row, event_row, descriptor_row, container_row, rows_of}
use Rattle.oam_showing.specs.Reading.{count_in}
use Rattle.oam_showing.specs.Storing.{mapped, awaiting, row_at, numbered, rows_from, start_of}
use Rattle.oam_showing.specs.Taking.{unplaced, part_of, unskipped, Taken, Numbered}
use Rattle.frame_tlvs.proofs.Walks.{Leads, enough}
use Rattle.frame_body.proofs.Judging.{information_leads}
use Rattle.frame_tlvs.proofs.Items.{event_leads}
use Rattle.frame_body.proofs.Places.{descriptor_leads, container_leads}
use Rattle.frame.proofs.Stepping.{shown, steps_give_parts}
use Rattle.oam_showing.proofs.Moving.{moved, walk_moved, information_moved, event_moved, descriptor_moved, container_moved}
use Rattle.oam_showing.proofs.Stored.{beside_mapped}

-- ---- the placed parts without their places, and the numbers beside them

alone : {P : Type 0} (x : Next P) → mapped (λ (p : Placed P). part_of (p, 0)) (placed x) ≡ x
alone stop = refl
alone broken = refl
alone (skip n) = refl
alone (has p n) = refl

beside_alone : {P : Type 0} (p : Placed P) (skipped : ℕ) → (part_of (p, 0), skipped) ≡ unplaced (p, skipped)
beside_alone (before p next) skipped = refl

-- descriptors and containers are no TLVs: none is skipped
abbrev Unskipping : {P : Type 0} → Next P → Type 0
Unskipping stop = Unit
Unskipping broken = Unit
Unskipping (skip n) = ⊥
Unskipping (has p n) = Unit

descriptor_unskipping : (x : DescriptorStep) → Unskipping (descriptor_next x)
descriptor_unskipping DescriptorEnd = tt
descriptor_unskipping DescriptorBroken = tt
descriptor_unskipping (Has d n) = tt

container_unskipping : (s : List ℕ) (x : ContainerStep) → Unskipping (container_next s x)
container_unskipping s End = tt
container_unskipping s Broken = tt
container_unskipping s (Value d w n) = tt
container_unskipping s (Indication d o n) = tt

module _ {P : Type 0} (next : ℕ → Next P) (none : (at : ℕ) → Unskipping (next at)) where
  zeros_onward : (go : ℕ → Walk P) → ((n : ℕ) → beside 0 (go n) ≡ map unskipped (met (go n))) → (x : Next P) → Unskipping x
      → beside 0 (on_next x go) ≡ map unskipped (met (on_next x go))
  zeros_onward go h stop u = refl
  zeros_onward go h broken u = refl
  zeros_onward go h (skip n) u = absurd u
  zeros_onward go h (has p n) u = ap (λ (ps : List (P × ℕ)). (p, 0) ∷ ps) (h n)

  -- so the number beside each is 0
  zeros : (steps at : ℕ) → beside 0 (walk next steps at) ≡ map unskipped (met (walk next steps at))
  unfolding walk
  zeros zero at = refl
  zeros (suc steps) at = zeros_onward (λ n. walk next steps n) (λ n. zeros steps n) (next at) (none at)

-- the parts of a frame's body, which begins at octet k, and the numbers beside them, are those placed in the frame from there on
module _ {P : Type 0} (next : List ℕ → ℕ → Next P) (leads : (s : List ℕ) → Leads (next s) (length s))
    (same : (k : ℕ) (f : List ℕ) (at : ℕ) → next f (k + at) ≡ moved k (next (drop k f) at)) (k : ℕ) (f : List ℕ) where
  abbrev body : Walk P
  body = walk (next (drop k f)) (length (drop k f)) 0

  from : body ≡ walk (next f) (length f) k
  from =
      let s = drop k f in
      enough (next s) (length s) (leads s) (length s) (length f) 0 (omega arith) (omega (arith, length-drop k f))
      ∙ sym (rw add-zero at (walk_moved k (next f) (next s) (same k f) (length f) 0))

  counts_placed : map unplaced (placed_from (next f) f k) ≡ beside 0 body
  counts_placed =
      sym (beside_mapped (λ (p : Placed P). part_of (p, 0)) (λ at. placed (next f at)) (next f) (λ at. alone (next f at)) (λ (r : P × ℕ). r) unplaced beside_alone (length f) k 0)
      ∙ map-id (beside 0 (walk (next f) (length f) k)) ∙ ap (beside 0) (sym from)

  zeros_placed : ((at : ℕ) → Unskipping (next (drop k f) at)) → (ps : List P) → ps ≡ met body → map unplaced (placed_from (next f) f k) ≡ map unskipped ps
  zeros_placed none ps h = counts_placed ∙ zeros (next (drop k f)) none (length (drop k f)) 0 ∙ ap (map unskipped) (sym h)

by_steps : (f : List ℕ) (b : Body) → Stepped f b → Numbered f b
unfolding information_walk event_walk descriptor_walk container_walk
by_steps f (information ps) h = counts_placed (λ s at. information_next_of (information_step s at)) information_leads information_moved 18 f
by_steps f (notification n es) h = counts_placed (λ s at. event_next_of (event_step s at)) event_leads event_moved 20 f
by_steps f (request ds) h =
    zeros_placed (λ s at. descriptor_next (descriptor_step s at)) descriptor_leads descriptor_moved 18 f (λ at. descriptor_unskipping (descriptor_step (drop 18 f) at)) ds h
by_steps f (response cs) h =
    zeros_placed (λ s at. container_next s (container_step s at)) container_leads container_moved 18 f (λ at. container_unskipping (drop 18 f) (container_step (drop 18 f) at)) cs h
by_steps f (loopback n) h = tt
by_steps f (organization oui x) h = tt

pub rows_give_counts : (f : List ℕ) (m : Message) → decode f ≡ accepted m → Numbered f m.body
rows_give_counts f m e = by_steps f m.body (steps_give_parts f m e)

-- ---- the parts alone

abbrev uncounted : {P : Type 0} → P × ℕ → P
uncounted r = r.0

-- what is met are the parts, whatever stands beside them
met-beside : {P : Type 0} (skipped : ℕ) (w : Walk P) → met w ≡ map uncounted (beside skipped w)
met-beside skipped ends = refl
met-beside skipped breaks = refl
met-beside skipped (over w) = met-beside (skipped + 1) w
met-beside {P = P} skipped (part p w) = ap (λ (ps : List P). p ∷ ps) (met-beside skipped w)

zeros_alone : {P : Type 0} (ps : List P) → ps ≡ map uncounted (map unskipped ps)
zeros_alone ps = sym (map-map uncounted unskipped ps ∙ map-id ps)

parts_alone : {P : Type 0} (placed : List (Placed P × ℕ)) (counted : List (P × ℕ)) → map unplaced placed ≡ counted → map uncounted counted ≡ map part_of placed
parts_alone placed counted e = ap (map uncounted) (sym e) ∙ map-map uncounted unplaced placed

by_counts : (f : List ℕ) (b : Body) → Stepped f b → Numbered f b → Taken f b
by_counts f (information ps) h e = h ∙ met-beside 0 (information_walk (drop 18 f)) ∙ parts_alone (information_placed f) _ e
by_counts f (notification n es) h e = h.1 ∙ met-beside 0 (event_walk (drop 20 f)) ∙ parts_alone (events_placed f) _ e
by_counts f (request ds) h e = zeros_alone ds ∙ parts_alone (descriptors_placed f) _ e
by_counts f (response cs) h e = zeros_alone cs ∙ parts_alone (containers_placed f) _ e
by_counts f (loopback n) h e = tt
by_counts f (organization oui x) h e = tt

pub taken : (f : List ℕ) (m : Message) → decode f ≡ accepted m → Taken f m.body
taken f m e = by_counts f m.body (steps_give_parts f m e) (rows_give_counts f m e)

-- ---- a row for each

one_each : {P : Type 0} (row : Placed P × ℕ → List ℕ) (placed : List (Placed P × ℕ)) (parts : List P) → parts ≡ map part_of placed → length (map row placed) ≡ length parts
one_each row placed parts e = length-map placed row ∙ sym (ap length e ∙ length-map placed part_of)

count_by : (f : List ℕ) (b : Body) → Taken f b → length (rows_of f b) ≡ count_in b
count_by f (information ps) e = one_each information_row (information_placed f) ps e
count_by f (notification n es) e = one_each event_row (events_placed f) es e
count_by f (request ds) e = one_each descriptor_row (descriptors_placed f) ds e
count_by f (response cs) e = one_each container_row (containers_placed f) cs e
count_by f (loopback n) e = refl
count_by f (organization oui x) e = refl

-- there are as many rows as the message has parts
pub rows_counted : (f : List ℕ) (m : Message) → decode f ≡ accepted m → length (rows_of f m.body) ≡ count_in m.body
rows_counted f m e = count_by f m.body (taken f m e)

-- ---- the rows that the code walks over

rows_made : {P : Type 0} (row : Placed P × ℕ → List ℕ) (next : ℕ → Next P) (code : ℕ) (f : List ℕ) (at : ℕ)
    → ((n : ℕ) → mapped (awaiting row) (placed (next n)) ≡ row_at code f n) → rows_from code f at ≡ map row (placed_from next f at)
rows_made row next code f at same =
    beside_mapped (awaiting row) (λ n. placed (next n)) (λ n. row_at code f n) same (λ (r : (ℕ → List ℕ) × ℕ). r.0 r.1) row (λ _ _. refl) (length f) at 0

none_beside : {P : Type 0} (steps at : ℕ) → beside 0 (walk {P = P} (λ n. stop) steps at) ≡ []
unfolding walk
none_beside zero at = refl
none_beside (suc steps) at = refl

by_body : (f : List ℕ) (b : Body) → rows_from (code_of b) f (start_of (code_of b)) ≡ rows_of f b
by_body f (information ps) = rows_made information_row (λ at. information_next_of (information_step f at)) 0 f 18 (λ _. refl)
by_body f (notification n es) = rows_made event_row (λ at. event_next_of (event_step f at)) 1 f 20 (λ _. refl)
by_body f (request ds) = rows_made descriptor_row (λ at. descriptor_next (descriptor_step f at)) 2 f 18 (λ _. refl)
by_body f (response cs) = rows_made container_row (λ at. container_next f (container_step f at)) 3 f 18 (λ _. refl)
by_body f (loopback n) = ap numbered (none_beside (length f) 18)
by_body f (organization oui x) = ap numbered (none_beside (length f) 18)

pub rows_by_code : (f : List ℕ) (m : Message) → decode f ≡ accepted m → rows_from (get_or f 17 0) f (start_of (get_or f 17 0)) ≡ rows_of f m.body
rows_by_code f m e = subst (λ (code : ℕ). rows_from code f (start_of code) ≡ rows_of f m.body) (sym (shown f m e).code) (by_body f m.body)

-- ---- how many there may be

few_onward : {P : Type 0} (steps : ℕ) (go : ℕ → Walk P) → ((n skipped : ℕ) → length (beside skipped (go n)) ≤ steps) → (skipped : ℕ) (x : Next P)
    → length (beside skipped (on_next x go)) ≤ suc steps
few_onward steps go h skipped stop = omega arith
few_onward steps go h skipped broken = omega arith
few_onward steps go h skipped (skip n) = omega (arith, h n (skipped + 1))
few_onward steps go h skipped (has p n) = omega (arith, h n skipped)

-- a walk has no more parts than it has steps
pub few : {P : Type 0} (next : ℕ → Next P) (steps at skipped : ℕ) → length (beside skipped (walk next steps at)) ≤ steps
unfolding walk
few next zero at skipped = omega arith
few next (suc steps) at skipped = few_onward steps (λ n. walk next steps n) (λ n. few next steps n) skipped (next at)
