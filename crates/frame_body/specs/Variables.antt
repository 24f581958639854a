-- The descriptors of a Variable Request and the containers of a Variable Response.
use Rattle.std.specs.Prelude.{ℕ, ◌+◌, ◌-◌, List, [], cond, length, get_or, take, drop, ltb, leb, eqb, Option, None, Some, Result, Ok, Err}
use Rattle.octets.specs.Octets.{num}
use Rattle.octets.specs.declared.refusal.Refusal.{Refusal}
use Rattle.frame_tlvs.specs.Walk.{Next, stop, broken, has, Walk, walk}
use Rattle.frame_tlvs.specs.declared.Placed.{Placed}
use Rattle.frame_body.specs.declared.Container.{Container as FoundContainer}
use Rattle.frame_body.specs.declared.Content.{Content}
use Rattle.frame_body.specs.declared.Content.TheVariants.{Value as FoundValue, Indication as FoundIndication}

-- A descriptor is one number, the branch above the leaf's sixteen bits; with the octet after it.
pub data DescriptorStep : Type 0 where
  DescriptorEnd : DescriptorStep
  DescriptorBroken : DescriptorStep
  Has : ℕ → ℕ → DescriptorStep

-- the step that the code takes
abbrev pub as_descriptor_step : Option (Result (Placed ℕ) Refusal) → DescriptorStep
as_descriptor_step None = DescriptorEnd
as_descriptor_step (Some (Err r)) = DescriptorBroken
as_descriptor_step (Some (Ok p)) = Has p.part p.end

-- A container's descriptor, then the number of its value's octets, or its width octet as received, 128 or more, whose low seven
-- bits are the indication; with the octet after it.
pub data ContainerStep : Type 0 where
  End : ContainerStep
  Broken : ContainerStep
  Value : ℕ → ℕ → ℕ → ContainerStep
  Indication : ℕ → ℕ → ℕ → ContainerStep

abbrev pub placed_content : ℕ → Content → ℕ → ContainerStep
placed_content descriptor (FoundValue width) next = Value descriptor width next
placed_content descriptor (FoundIndication octet) next = Indication descriptor octet next

-- the step that the code takes
abbrev pub as_container_step : Option (Result (Placed FoundContainer) Refusal) → ContainerStep
as_container_step None = End
as_container_step (Some (Err r)) = Broken
as_container_step (Some (Ok p)) = placed_content p.part.descriptor p.part.content p.end

-- "Descriptor: branch 1, leaf 2; branch 0 ends the list, even where its leaf is cut off (containers too)." "A part cut off by
-- the frame's end is broken." The frame's end ends the list too.
unfoldable pub descriptor_step : List ℕ → ℕ → DescriptorStep
descriptor_step s at =
    cond (leb (length s) at) DescriptorEnd
    (cond (eqb (get_or s at 0) 0) DescriptorEnd
    (cond (ltb (length s - at) 3) DescriptorBroken
    (Has (num 3 s at) (at + 3))))

-- "Width 0 is 128 octets, 1 to 127 itself"
abbrev pub width_of : ℕ → ℕ
width_of octet = cond (eqb octet 0) 128 octet

-- the octets of the value after a width octet: an indication has none
abbrev pub value_octets : ℕ → ℕ
value_octets octet = cond (leb 128 octet) 0 (width_of octet)

-- "with bit 7 set it is an indication without value"
abbrev pub container_from : List ℕ → DescriptorStep → ContainerStep
container_from s DescriptorEnd = End
container_from s DescriptorBroken = Broken
container_from s (Has descriptor from) =
    cond (leb (length s) from) Broken
    (cond (leb 128 (get_or s from 0)) (Indication descriptor (get_or s from 0) (from + 1))
    (cond (ltb (length s - (from + 1)) (width_of (get_or s from 0))) Broken
    (Value descriptor (width_of (get_or s from 0)) (from + 1 + width_of (get_or s from 0)))))

-- "Container: descriptor, width 1, value."
unfoldable pub container_step : List ℕ → ℕ → ContainerStep
container_step s at = container_from s (descriptor_step s at)

-- the octets of the value that ends before octet `next`
abbrev pub value_of : List ℕ → ContainerStep → List ℕ
value_of s End = []
value_of s Broken = []
value_of s (Value descriptor width next) = take width (drop (next - width) s)
value_of s (Indication descriptor octet next) = []

unfoldable pub container_value : List ℕ → ℕ → List ℕ
container_value s at = value_of s (container_step s at)

-- a container: its descriptor, and its value or its width octet as received, whose low seven bits are the indication
pub data Container : Type 0 where
  value : ℕ → List ℕ → Container
  indication : ℕ → ℕ → Container

abbrev pub descriptor_next : DescriptorStep → Next ℕ
descriptor_next DescriptorEnd = stop
descriptor_next DescriptorBroken = broken
descriptor_next (Has descriptor n) = has descriptor n

abbrev pub container_next : List ℕ → ContainerStep → Next Container
container_next s End = stop
container_next s Broken = broken
container_next s (Value descriptor width n) = has (value descriptor (value_of s (Value descriptor width n))) n
container_next s (Indication descriptor octet n) = has (indication descriptor octet) n

unfoldable pub descriptor_walk : List ℕ → Walk ℕ
descriptor_walk s = walk (λ at. descriptor_next (descriptor_step s at)) (length s) 0

unfoldable pub container_walk : List ℕ → Walk Container
container_walk s = walk (λ at. container_next s (container_step s at)) (length s) 0
