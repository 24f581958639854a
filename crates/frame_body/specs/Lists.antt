-- Whether a list of parts is whole in which nothing is skipped.
use Rattle.std.specs.Prelude.{ℕ, List, Bool}
use Rattle.frame_tlvs.specs.Walk.{whole}
use Rattle.frame_body.specs.Variables.{descriptor_walk, container_walk}

-- the kinds of list in which nothing is skipped
pub data ListKind : Type 0 where
  Descriptors : ListKind
  Containers : ListKind

-- the walk over it ends, and does not break off
abbrev pub whole_list : ListKind → List ℕ → Bool
whole_list Descriptors s = whole (descriptor_walk s)
whole_list Containers s = whole (container_walk s)
