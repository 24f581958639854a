-- The parts of an Information body, and the Local and Remote among them.
use Rattle.std.specs.Prelude.{ℕ, ◌+◌, List, [], ◌∷◌, Bool, true, cond, length, get_or, eqb, Option, None, Some, Result, Ok, Err}
use Rattle.octets.specs.Octets.{fields_at}
use Rattle.octets.specs.declared.refusal.Refusal.{Refusal}
use Rattle.frame_tlvs.specs.Walk.{Next, stop, broken, skip, has, Walk, ends, breaks, over, part, walk, Parsed, refused, parts, also}
use Rattle.frame_tlvs.specs.Tlvs.{Mark, End as MarkEnd, Broken as MarkBroken, Unknown, Known, mark_at}
use Rattle.frame_tlvs.specs.declared.Placed.{Placed}
use Rattle.frame_tlvs.specs.declared.Kind.TheVariants.{Information as InformationKind}
use Rattle.frame_body.specs.declared.Information.{Information}
use Rattle.frame_body.specs.declared.InformationPart.{InformationPart}
use Rattle.frame_body.specs.declared.InformationPart.TheVariants.{Local as local, Remote as remote}

-- "version 1 octet, revision 2, state 1, configuration 1, OAMPDU configuration 2 (low 11 bits: maximum size, FCS counted),
-- OUI 3, vendor 4"
abbrev pub information_widths : List ℕ
information_widths = 1 ∷ 2 ∷ 1 ∷ 1 ∷ 2 ∷ 3 ∷ 4 ∷ []

abbrev pub information_values : Information → List ℕ
information_values i = i.version ∷ i.revision ∷ i.state ∷ i.configuration ∷ i.oampdu ∷ i.oui ∷ i.vendor ∷ []

-- the fields of seven values
abbrev pub information_of : List ℕ → Information
information_of values =
    record {
      version = get_or values 0 0;
      revision = get_or values 1 0;
      state = get_or values 2 0;
      configuration = get_or values 3 0;
      oampdu = get_or values 4 0;
      oui = get_or values 5 0;
      vendor = get_or values 6 0;
    }

-- the Information TLV at octet `at`: its fields stand after its type and length octets
unfoldable pub information_at : List ℕ → ℕ → Information
information_at s at = information_of (fields_at information_widths s (at + 2))

-- What stands at an octet of an Information body, with the octet after it; an unknown TLV is to be skipped.
pub data InformationStep : Type 0 where
  End : InformationStep
  Broken : InformationStep
  Skip : ℕ → InformationStep
  Local : Information → ℕ → InformationStep
  Remote : Information → ℕ → InformationStep

abbrev pub placed_part : Option InformationPart → ℕ → InformationStep
placed_part None next = Skip next
placed_part (Some (local i)) next = Local i next
placed_part (Some (remote i)) next = Remote i next

-- the step that the code takes
abbrev pub as_information_step : Option (Result (Placed (Option InformationPart)) Refusal) → InformationStep
as_information_step None = End
as_information_step (Some (Err r)) = Broken
as_information_step (Some (Ok p)) = placed_part p.part p.end

abbrev pub step_of : List ℕ → ℕ → Mark → InformationStep
step_of s at MarkEnd = End
step_of s at MarkBroken = Broken
step_of s at (Unknown next) = Skip next
step_of s at (Known t next) = cond (eqb t 1) (Local (information_at s at) next) (Remote (information_at s at) next)

-- what stands at octet `at` of an Information body
unfoldable pub information_step : List ℕ → ℕ → InformationStep
information_step s at = step_of s at (mark_at InformationKind s at)

abbrev pub next_of : InformationStep → Next InformationPart
next_of End = stop
next_of Broken = broken
next_of (Skip n) = skip n
next_of (Local i n) = has (local i) n
next_of (Remote i n) = has (remote i) n

unfoldable pub information_walk : List ℕ → Walk InformationPart
information_walk s = walk (λ at. next_of (information_step s at)) (length s) 0

-- The parts in octet order; "a second Local, or second Remote, Information TLV" is 7. The two Bools say which were met.
abbrev pub information_parts : Bool → Bool → Walk InformationPart → Parsed InformationPart
information_parts l r ends = parts []
information_parts l r breaks = refused 6
information_parts l r (over w) = information_parts l r w
information_parts l r (part (local i) w) = cond l (refused 7) (also (local i) (information_parts true r w))
information_parts l r (part (remote i) w) = cond r (refused 7) (also (remote i) (information_parts l true w))

-- the first Local of the parts: an accepted body has no second
abbrev pub local_in : List InformationPart → Option Information
local_in [] = None
local_in (local i ∷ ps) = Some i
local_in (remote i ∷ ps) = local_in ps
