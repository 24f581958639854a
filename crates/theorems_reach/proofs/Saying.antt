-- What is read of the frame that a call wrote is what was meant. So a frame says where the discovery of its end stood after the
-- call: one whose local field is 2 was written in SEND_LOCAL_REMOTE_OK or SEND_ANY.
use Prim.Native.Nat.{ℕ, ◌≤◌}
use mathlib.Core.Path.{◌≡◌, refl, sym, ap, ◌∙◌}
use mathlib.Core.List.{List, []}
use mathlib.Core.Bool.{true}
use mathlib.Core.Logic.{◌⊎◌, inl, inr}
use native.Mathlib.Omega.{arith}
use lib.ListN.{length, take}
use lib.Seq.{sets-eq, take_at}
use Rattle.frame.specs.declared.Flags.{Flags}
use Rattle.frame.specs.Flags.{flags_of}
use Rattle.frame.specs.Frame.{Message, accepted, header_answer, decode}
use Rattle.frame.proofs.FlagLaws.{split_join}
use Rattle.frame_writer.specs.Encode.{encode}
use Rattle.link_discovery.specs.declared.Discovery.{Discovery}
use Rattle.link_discovery.specs.declared.Discovery.TheVariants.{Fault, ActiveSendLocal, PassiveWait, SendLocalRemote, SendLocalRemoteOk, SendAny}
use Rattle.link_discovery.specs.Sending.{local_field}
use Rattle.link_end.specs.declared.End.{End}
use Rattle.link_end.specs.Parts.{discovery_of}
use Rattle.link_end.specs.Sending.{flags_to_send}
use Rattle.link_end.specs.Ranges.{ranged}
use Rattle.theorems_reach.specs.Machine.{Call, outcome_of, frame_of, meant}
use Rattle.theorems_reach.specs.Premises.{OfOctets}
use Rattle.theorems_reach.proofs.Standing.{ranged_is}
use Rattle.theorems_reach.proofs.Keeping.{octets_fit}
use Rattle.theorems_reach.proofs.Ranging.{keeps_ranged}
use Rattle.theorems_reach.proofs.Framing.{Silent, Writes, ranged_writes}
use Rattle.theorems_reach.proofs.Plainly.{local_le, remote_le}

-- no message is read of no octets
nothing_read : {A : Type 0} {f : List ℕ} {m : Message} → f ≡ [] → decode f ≡ accepted m → A
unfolding decode header_answer
nothing_read n d = let z : ◌≡◌ {A = ℕ} 0 1 = cc in absurd (omega arith)

same_message : {m n : Message} → accepted m ≡ accepted n → m ≡ n
same_message h = cc

module _ (c : Call) (e : End) where
  pub writes_none : Silent c e → frame_of c e ≡ []
  writes_none w = rw w.none

  pub writes_meant : Writes c e → frame_of c e ≡ encode (meant c e)
  writes_meant w =
      let x = encode (meant c e) in
      rw (w.octets, w.output) (ap (take (length x)) (sets-eq x c.out 0 (omega (arith, w.within))) ∙ take_at x _ (length x) refl)

  -- the frame reads as what was meant
  pub wrote_meant : Silent c e ⊎ Writes c e → (m : Message) → decode (frame_of c e) ≡ accepted m → Writes c e × (m ≡ meant c e)
  wrote_meant (inl w) m d = nothing_read (writes_none w) d
  wrote_meant (inr w) m d = (w, same_message (sym d ∙ ap decode (writes_meant w) ∙ w.reads))

-- ---- the local field

field_sent : (e : End) → e.peer.kept ≤ 2 → (flags_of (flags_to_send e)).local ≡ local_field (discovery_of e)
unfolding flags_to_send
field_sent e k =
    let l = local_le (discovery_of e) in
    let r = remote_le e.peer.kept e.peer.held k in
    ap (λ (f : Flags). f.local) (split_join _ (omega arith) (omega arith))

-- "2 in SEND_LOCAL_REMOTE_OK and SEND_ANY"
complete_stands : (d : Discovery) → local_field d ≡ 2 → (d ≡ SendLocalRemoteOk) ⊎ (d ≡ SendAny)
complete_stands Fault h = absurd (omega (arith, h))
complete_stands ActiveSendLocal h = absurd (omega (arith, h))
complete_stands PassiveWait h = absurd (omega (arith, h))
complete_stands SendLocalRemote h = absurd (omega (arith, h))
complete_stands SendLocalRemoteOk h = inl refl
complete_stands SendAny h = inr refl

module _ (c : Call) (e : End) (o : OfOctets c.input) (r : ranged e ≡ true) (m : Message) (d : decode (frame_of c e) ≡ accepted m) where
  -- "Local field sent: 2 in SEND_LOCAL_REMOTE_OK and SEND_ANY, 1 in ACTIVE_SEND_LOCAL, else 0."
  pub says_field : (flags_of m.flags).local ≡ local_field (discovery_of (outcome_of c e).end)
  says_field =
      let fits = octets_fit c.input o in
      let s = ranged_is e r in
      let k = (wrote_meant c e (ranged_writes c e fits s) m d).1 in
      ap (λ (x : Message). (flags_of x.flags).local) k ∙ field_sent (outcome_of c e).end (keeps_ranged c e fits s).stands.peer.kept

  pub says_complete : (flags_of m.flags).local ≡ 2
      → (discovery_of (outcome_of c e).end ≡ SendLocalRemoteOk) ⊎ (discovery_of (outcome_of c e).end ≡ SendAny)
  says_complete h = complete_stands (discovery_of (outcome_of c e).end) (sym says_field ∙ h)
