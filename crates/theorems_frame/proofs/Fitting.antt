-- What a message says fits the octets that it stands in.
use Prim.Native.Nat.{ℕ, ◌^◌, ◌<◌}
use mathlib.Core.Path.{◌≡◌, sym, ◌∙◌}
use mathlib.Core.List.{List}
use mathlib.Core.Bool.{true, ◌||◌}
use mathlib.Core.Logic.{◌⊎◌, inl, inr}
use native.Mathlib.Omega.{arith}
use borrow.Author.Tests.{eqb-true}
use lib.ListN.{get_or, drop}
use lib.Dec.{eqb}
use Rattle.frame_body.specs.Information.{information_walk}
use Rattle.frame_tlvs.specs.Events.{event_walk}
use Rattle.frame_body.specs.Variables.{descriptor_walk}
use Rattle.frame.specs.Frame.{Body, information, notification, request, response, loopback, organization, Message, code_of, Answer, accepted, body_answer, decode}
use Rattle.frame.specs.Steps.{Stepped}
use Rattle.octets.specs.Octets.{Octets}
use Rattle.octets.specs.Layout.{body_start, events_start, data_start}
use Rattle.octets.proofs.Numbers.{num_lt, octets_from}
use Rattle.octets.proofs.Bools.{by_cond, one_of}
use Rattle.frame.proofs.Stepping.{steps_give_parts}
use Rattle.octets.specs.Tests.{every}
use Rattle.frame_variables.specs.Descriptors.{plain_descriptor}
use Rattle.frame_writer.specs.Plain.{plain_event, plain_container}
use Rattle.frame_writer.proofs.Walking.{walk_fits}
use Rattle.frame_writer.proofs.Containing.{descriptor_codes, containers_fit}
use Rattle.theorems_frame.proofs.Informing.{fit_part, information_codes}
use Rattle.theorems_frame.proofs.Eventing.{event_codes}
use Rattle.theorems_frame.proofs.Heading.{source_is, flags_are, header_passes, header_accepted}

-- Every Information field within its width, every event of a type in the table with its values within the widths there,
-- every descriptor of a branch from 1 on and within three octets, also of a container, whose value has 1 to 128 octets or which
-- has an octet with bit 7 set in its place, every number within its octets.
abbrev pub FitsBody : Body → Type 0
FitsBody (information ps) = every fit_part ps ≡ true
FitsBody (notification n es) = (n < 256 ^ 2) × (every plain_event es ≡ true)
FitsBody (request ds) = every plain_descriptor ds ≡ true
FitsBody (response cs) = every plain_container cs ≡ true
FitsBody (loopback n) = (n ≡ 1) ⊎ (n ≡ 2)
FitsBody (organization oui x) = (oui < 256 ^ 3) × Octets x

pub record Fits (m : Message) : Type 0 where
  pub source : m.source < 256 ^ 6
  pub flags : m.flags < 256 ^ 2
  pub body : FitsBody m.body

-- by the steps that gave the parts
body_fits : (f : List ℕ) → Octets f → (m : Message) (b : Body) → Stepped f b → body_answer f (code_of b) ≡ accepted m → FitsBody b
unfolding body_answer information_walk event_walk descriptor_walk
body_fits f o m (information ps) h a = rw h (walk_fits (information_codes (drop body_start f)) (octets_from f o body_start))
body_fits f o m (notification n es) h a = (rw h.0 (num_lt 2 f body_start o), rw h.1 (walk_fits (event_codes (drop events_start f)) (octets_from f o events_start)))
body_fits f o m (request ds) h a = rw h (walk_fits (descriptor_codes (drop body_start f)) (octets_from f o body_start))
body_fits f o m (response cs) h a = rw h (containers_fit (drop body_start f) (octets_from f o body_start))
body_fits f o m (loopback n) h a =
    let c = get_or f body_start 0 in
    rw h
    (by_cond (λ (x : Answer). x ≡ accepted m → (c ≡ 1) ⊎ (c ≡ 2)) (eqb c 1 || eqb c 2)
    (λ t _. one_of (eqb c 1) (eqb c 2) (λ u. inl (eqb-true c 1 u)) (λ u. inr (eqb-true c 2 u)) t)
    (λ _ e. let z : ◌≡◌ {A = ℕ} 0 1 = cc in absurd (omega arith))
    a)
body_fits f o m (organization oui x) h a = (rw h.0 (num_lt 3 f body_start o), rw h.1 (octets_from f o data_start))

-- what is accepted of octets fits
pub shown_fits : (f : List ℕ) (m : Message) → Octets f → decode f ≡ accepted m → Fits m
shown_fits f m o e =
    let h = header_accepted f m e in
    record {
      source = rw (← source_is h) (num_lt 6 f 6 o);
      flags = rw (← flags_are h) (num_lt 2 f 15 o);
      body = body_fits f o m m.body (steps_give_parts f m e) (sym (header_passes h) ∙ e);
    }
