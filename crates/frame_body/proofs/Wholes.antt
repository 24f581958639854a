-- A descriptor or container that stands in a body is whole: where it ends. Past the body's end none stands.
use Prim.Native.Nat.{ℕ, ◌+◌, ◌-◌, ◌≤◌}
use mathlib.Core.Path.{◌≡◌, refl, ap}
use mathlib.Core.List.{List}
use native.Mathlib.Omega.{arith}
use borrow.Author.Tests.{ltb-false, leb-false, le-leb}
use lib.ListN.{length, get_or}
use lib.Dec.{ltb, leb, eqb}
use Rattle.frame_body.specs.Variables.{descriptor_step, width_of, container_from, container_step}
use Rattle.frame_body.specs.Variables.{DescriptorStep}
use Rattle.frame_body.specs.Variables.{DescriptorEnd, DescriptorBroken, Has as HasDescriptor}
use Rattle.frame_body.specs.Variables.{ContainerStep}
use Rattle.frame_body.specs.Variables.{End as ContainerEnd, Broken as ContainerBroken, Value, Indication}
use Rattle.octets.proofs.Bools.{by_cond}

-- where a descriptor, and what follows it in a container, stands
abbrev pub Described : ℕ → ℕ → DescriptorStep → Type 0
Described at len DescriptorEnd = Unit
Described at len DescriptorBroken = Unit
Described at len (HasDescriptor d n) = (n ≡ at + 3) × (n ≤ len)

pub descriptor_within : (s : List ℕ) (at : ℕ) → Described at (length s) (descriptor_step s at)
unfolding descriptor_step
descriptor_within s at =
    let P = Described at (length s) in
    by_cond P (leb (length s) at) (λ _. tt) (λ a.
    by_cond P (eqb (get_or s at 0) 0) (λ _. tt) (λ _.
    by_cond P (ltb (length s - at) 3) (λ _. tt) (λ b. (refl, omega (arith, leb-false, ltb-false)))))

pub descriptor_end : (s : List ℕ) (at : ℕ) → length s ≤ at → descriptor_step s at ≡ DescriptorEnd
unfolding descriptor_step
descriptor_end s at h = simp (le-leb _ _ h)

abbrev pub Contained : ℕ → ℕ → ContainerStep → Type 0
Contained at len ContainerEnd = Unit
Contained at len ContainerBroken = Unit
Contained at len (Value d w n) = (at + 4 + w ≡ n) × (n ≤ len)
Contained at len (Indication d o n) = (at + 4 ≡ n) × (n ≤ len)

from_descriptor : (s : List ℕ) (at : ℕ) (x : DescriptorStep) → Described at (length s) x → Contained at (length s) (container_from s x)
from_descriptor s at DescriptorEnd h = tt
from_descriptor s at DescriptorBroken h = tt
from_descriptor s at (HasDescriptor d from) h =
    let P = Contained at (length s) in
    let o = get_or s from 0 in
    by_cond P (leb (length s) from) (λ _. tt) (λ a.
    by_cond P (leb 128 o) (λ _. (omega arith, omega (arith, leb-false))) (λ _.
    by_cond P (ltb (length s - (from + 1)) (width_of o)) (λ _. tt) (λ b. (omega arith, omega (arith, leb-false, ltb-false)))))

pub container_within : (s : List ℕ) (at : ℕ) → Contained at (length s) (container_step s at)
unfolding container_step
container_within s at = from_descriptor s at (descriptor_step s at) (descriptor_within s at)

pub container_end : (s : List ℕ) (at : ℕ) → length s ≤ at → container_step s at ≡ ContainerEnd
unfolding container_step
container_end s at h = ap (container_from s) (descriptor_end s at h)
