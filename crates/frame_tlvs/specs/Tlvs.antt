-- The TLVs of Information and Event Notification bodies.
use Rattle.std.specs.Prelude.{ℕ, zero, suc, ◌+◌, ◌-◌, List, [], ◌∷◌, cond, ◌||◌, length, get_or, replicate, ltb, leb, eqb, Option, None, Some, Result, Ok, Err}
use Rattle.octets.specs.Octets.{total}
use Rattle.octets.specs.declared.refusal.Refusal.{Refusal}
use Rattle.frame_tlvs.specs.declared.tlvs.Tlv.{Tlv as FoundTlv}
use Rattle.frame_tlvs.specs.declared.Placed.{Placed}
use Rattle.frame_tlvs.specs.declared.Kind.{Kind}
use Rattle.frame_tlvs.specs.declared.Kind.TheVariants.{Information, Events}

-- The end of the walk, a broken TLV, or one with its type, its length and the octet after it.
pub data Tlv : Type 0 where
  TlvEnd : Tlv
  TlvBroken : Tlv
  At : ℕ → ℕ → ℕ → Tlv

-- the TLV that the code finds
abbrev pub as_tlv : Option (Result FoundTlv Refusal) → Tlv
as_tlv None = TlvEnd
as_tlv (Some (Err r)) = TlvBroken
as_tlv (Some (Ok t)) = At t.kind t.length t.end

-- What stands at an octet, as a kind of body sees it: an unknown TLV, or a known one with its type; with the octet after it.
pub data Mark : Type 0 where
  End : Mark
  Broken : Mark
  Unknown : ℕ → Mark
  Known : ℕ → ℕ → Mark

abbrev pub placed_mark : Option ℕ → ℕ → Mark
placed_mark None next = Unknown next
placed_mark (Some t) next = Known t next

-- the mark that the code finds
abbrev pub as_mark : Option (Result (Placed (Option ℕ)) Refusal) → Mark
as_mark None = End
as_mark (Some (Err r)) = Broken
as_mark (Some (Ok m)) = placed_mark m.part m.end

-- "Length counts the type and length octets. Type 00 ends the walk, even as the last octet, and the rest is ignored; the
-- frame's end ends it too. Broken: no length octet, length below 2, running past the frame".
unfoldable pub tlv_at : List ℕ → ℕ → Tlv
tlv_at s at =
    cond (leb (length s) at) TlvEnd
    (cond (eqb (get_or s at 0) 0) TlvEnd
    (cond (ltb (length s - at) 2) TlvBroken
    (cond (ltb (get_or s (at + 1) 0) 2) TlvBroken
    (cond (ltb (length s - at) (get_or s (at + 1) 0)) TlvBroken
    (At (get_or s at 0) (get_or s (at + 1) 0) (at + get_or s (at + 1) 0))))))

-- "Information 01 (Local) and 02 (Remote), length 16"; 0 for a type that is not known
abbrev pub information_length : ℕ → ℕ
information_length t = cond (eqb t 1 || eqb t 2) 16 0

-- "Event TLVs, width in octets of each field": timestamp, window, threshold, errors, error total, event total, by type from 1 on
abbrev pub rows : List (List ℕ)
rows =
    (2 ∷ 8 ∷ 8 ∷ 8 ∷ 8 ∷ 4 ∷ [])
    ∷ (2 ∷ 2 ∷ 4 ∷ 4 ∷ 8 ∷ 4 ∷ [])
    ∷ (2 ∷ 4 ∷ 4 ∷ 4 ∷ 8 ∷ 4 ∷ [])
    ∷ (2 ∷ 2 ∷ 2 ∷ 2 ∷ 4 ∷ 4 ∷ [])
    ∷ []

unfoldable pub row : ℕ → List ℕ
row zero = []
row (suc t) = get_or rows t []

-- the row of a type, zeros for a type that is not in the table
unfoldable pub event_widths : ℕ → List ℕ
event_widths t = cond (eqb t 0) (replicate 6 0) (cond (ltb 4 t) (replicate 6 0) (row t))

-- the length of an event TLV by its row, 0 for a type that is not in the table
unfoldable pub event_length : ℕ → ℕ
event_length t = cond (eqb t 0) 0 (cond (ltb 4 t) 0 (2 + total (row t)))

abbrev pub known : Kind → ℕ → ℕ
known Information t = information_length t
known Events t = event_length t

-- "or a known type with another length. Unknown types are skipped."
abbrev pub mark_of : ℕ → ℕ → ℕ → ℕ → Mark
mark_of t n next expected = cond (eqb expected 0) (Unknown next) (cond (eqb n expected) (Known t next) Broken)

abbrev pub marked : Kind → Tlv → Mark
marked kind TlvEnd = End
marked kind TlvBroken = Broken
marked kind (At t n next) = mark_of t n next (known kind t)

-- what stands at octet `at` of a body of TLVs
unfoldable pub mark_at : Kind → List ℕ → ℕ → Mark
mark_at kind s at = marked kind (tlv_at s at)

-- How `mark_at` comes to it (`known_mark_lem` and `unknown_mark_lem` in proofs/Marks.antt): by the type first. The mark of a TLV whose
-- type is not known,
abbrev pub unknown_mark : Tlv → Mark
unknown_mark TlvEnd = End
unknown_mark TlvBroken = Broken
unknown_mark (At t n next) = Unknown next

-- and of one whose type is known: its length is the expected one, and so many octets stand there
abbrev pub known_mark : List ℕ → ℕ → ℕ → Mark
known_mark s at expected =
    cond (ltb (length s) (at + expected)) Broken
    (cond (eqb (get_or s (at + 1) 0) expected) (Known (get_or s at 0) (at + expected)) Broken)
