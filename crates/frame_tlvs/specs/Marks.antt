-- The TLVs of a body by their marks alone, each with the octet at which it stands.
use Rattle.std.specs.Prelude.{ℕ, List, length, Option, None, Some, Result}
use Rattle.octets.specs.declared.refusal.Refusal.{Refusal}
use Rattle.frame_tlvs.specs.Walk.{Next, stop, broken, has, walk, given}
use Rattle.frame_tlvs.specs.Tlvs.{Mark, End, Broken, Unknown, Known, mark_at}
use Rattle.frame_tlvs.specs.declared.Kind.{Kind}
use Rattle.frame_tlvs.specs.declared.TlvMarks.{TlvMarks}

-- the mark at octet `at` as a step of a walk
abbrev pub mark_next : ℕ → Mark → Next (ℕ × Option ℕ)
mark_next at End = stop
mark_next at Broken = broken
mark_next at (Unknown n) = has (at, None) n
mark_next at (Known t n) = has (at, Some t) n

-- the marks of a body from an octet, in at most `steps` steps
abbrev pub marks_from : Kind → List ℕ → ℕ → ℕ → List (Result (ℕ × Option ℕ) Refusal)
marks_from kind s steps at = given (walk (λ n. mark_next n (mark_at kind s n)) steps at)

abbrev pub marks_of : Kind → List ℕ → List (Result (ℕ × Option ℕ) Refusal)
marks_of kind s = marks_from kind s (length s) 0

-- what an iterator has left
abbrev pub left : TlvMarks → List (Result (ℕ × Option ℕ) Refusal)
left m = marks_from m.kind m.body.now (length m.body.now) m.at
