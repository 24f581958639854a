-- Where the part after one stands: every part leads on within the body, and so a walk needs no count of steps.
use Prim.Native.Nat.{ℕ}
use mathlib.Core.Path.{◌≡◌, ap}
use mathlib.Core.List.{List}
use native.Mathlib.Omega.{arith}
use lib.ListN.{length}
use Rattle.frame_tlvs.specs.Walk.{Next, on_next, walk}
use Rattle.frame_tlvs.specs.Events.{event_step, next_of}
use Rattle.frame_body.specs.Information.{information_step, next_of as information_next_of}
use Rattle.frame_body.specs.Variables.{descriptor_step, descriptor_next, container_step, container_next}
use Rattle.frame_body.specs.Variables.{DescriptorStep}
use Rattle.frame_body.specs.Variables.{DescriptorEnd, DescriptorBroken, Has}
use Rattle.frame_body.specs.Variables.{ContainerStep}
use Rattle.frame_body.specs.Variables.{End, Broken, Value, Indication}
use Rattle.frame_tlvs.proofs.Walks.{Ahead, Leads, unrolls}
use Rattle.frame_tlvs.proofs.Items.{event_leads}
use Rattle.frame_body.proofs.Judging.{information_leads}
use Rattle.frame_body.proofs.Wholes.{Described, descriptor_within, descriptor_end, Contained, container_within, container_end}

module _ (s : List ℕ) (at : ℕ) where
  descriptor_ahead : (x : DescriptorStep) → Described at (length s) x → Ahead at (length s) (descriptor_next x)
  descriptor_ahead DescriptorEnd h = tt
  descriptor_ahead DescriptorBroken h = tt
  descriptor_ahead (Has d n) h = (omega arith, h.1)

  container_ahead : (x : ContainerStep) → Contained at (length s) x → Ahead at (length s) (container_next s x)
  container_ahead End h = tt
  container_ahead Broken h = tt
  container_ahead (Value d w n) h = (omega arith, h.1)
  container_ahead (Indication d o n) h = (omega arith, h.1)

module _ (s : List ℕ) where
  pub descriptor_leads : Leads (λ at. descriptor_next (descriptor_step s at)) (length s)
  descriptor_leads =
      record {
        end = λ at h. ap descriptor_next (descriptor_end s at h);
        ahead = λ at. descriptor_ahead s at (descriptor_step s at) (descriptor_within s at);
      }

  pub container_leads : Leads (λ at. container_next s (container_step s at)) (length s)
  container_leads =
      record {
        end = λ at h. ap (container_next s) (container_end s at h);
        ahead = λ at. container_ahead s at (container_step s at) (container_within s at);
      }

-- the walk over a body from an octet: what stands there, then the walk from the octet after it
abbrev Unrolls : {P : Type 0} → (ℕ → Next P) → List ℕ → Type 0
Unrolls next s = (at : ℕ) → walk next (length s) at ≡ on_next (next at) (λ n. walk next (length s) n)

pub record Unrolled (s : List ℕ) : Type 0 where
  pub information : Unrolls (λ at. information_next_of (information_step s at)) s
  pub events : Unrolls (λ at. next_of (event_step s at)) s
  pub descriptors : Unrolls (λ at. descriptor_next (descriptor_step s at)) s
  pub containers : Unrolls (λ at. container_next s (container_step s at)) s

pub unrolled : (s : List ℕ) → Unrolled s
unrolled s =
    record {
      information = unrolls (λ at. information_next_of (information_step s at)) (length s) (information_leads s);
      events = unrolls (λ at. next_of (event_step s at)) (length s) (event_leads s);
      descriptors = unrolls (λ at. descriptor_next (descriptor_step s at)) (length s) (descriptor_leads s);
      containers = unrolls (λ at. container_next s (container_step s at)) (length s) (container_leads s);
    }
