-- The frame that a call writes, as the history has it: it is counted where there is one, an enable is written only by an active
-- end in SEND_ANY, and what is read of any frame fits what an end keeps of it.
use Prim.Native.Nat.{ℕ, ◌≤◌}
use mathlib.Core.Path.{◌≡◌, refl, sym, ap, ◌∙◌}
use mathlib.Core.List.{List, [], ◌∷◌}
use mathlib.Core.Bool.{true}
use mathlib.Core.Logic.{◌⊎◌, inl, inr}
use native.Mathlib.Omega.{arith}
use lib.ListN.{length}
use Rattle.frame.specs.Frame.{Message, accepted, decode}
use Rattle.frame_writer.specs.Encode.{encode}
use Rattle.frame_writer.proofs.Lengths.{plain_body_lem}
use Rattle.theorems_frame.proofs.Sizes.{encode-length}
use Rattle.octets.specs.Bits.{bit}
use Rattle.link_end.specs.declared.End.{End}
use Rattle.link_end.specs.Parts.{in_any}
use Rattle.theorems_reach.specs.Machine.{Call, outcome_of, frame_of, meant}
use Rattle.theorems_reach.specs.Runs.{wrote}
use Rattle.theorems_reach.proofs.Hearing.{HeardFits, plain_heard}
use Rattle.theorems_reach.proofs.Framing.{Silent, Writes}
use Rattle.theorems_reach.proofs.Counting.{writes_wrote, silent_wrote}
use Rattle.theorems_reach.proofs.Saying.{writes_none, writes_meant, wrote_meant}
use Rattle.theorems_reach.proofs.Effects.{Effect}
use Rattle.theorems_pair.specs.Safe.{Enable, some_octets}
use Rattle.theorems_pair.proofs.Looping.{enable_meant}

-- a frame of some octets is one
some_octets_lem : (f : List ℕ) → 60 ≤ length f → some_octets f ≡ true
some_octets_lem [] h = absurd (omega arith)
some_octets_lem (x ∷ f) h = refl

module _ (c : Call) (e : End) where
  -- it is counted where one was written
  pub counted : Silent c e ⊎ Writes c e → wrote c e ≡ some_octets (frame_of c e)
  counted (inl w) = rw (silent_wrote c e w, writes_none c e w)
  counted (inr w) = rw (writes_wrote c e w, writes_meant c e w) (sym (some_octets_lem (encode (meant c e)) (encode-length (meant c e) w.plainly).0))

  pub wrote_fits : Silent c e ⊎ Writes c e → (m : Message) → decode (frame_of c e) ≡ accepted m → HeardFits m.body
  wrote_fits w m d =
      let k = wrote_meant c e w m d in
      rw k.1 (plain_heard (meant c e).body (plain_body_lem (meant c e) k.0.plainly))

  pub wrote_enable : Silent c e ⊎ Writes c e → (t : Effect c e) → Enable (frame_of c e)
      → (bit 0 e.settings.configuration ≡ true) × (in_any t.next ≡ true)
  wrote_enable w t n =
      let k = wrote_meant c e w n.message n.reads in
      enable_meant e (outcome_of c e).end c.input t.next t.how (ap (λ (m : Message). m.body) (sym k.1) ∙ n.enables)
