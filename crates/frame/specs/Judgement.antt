-- What a frame comes to, by numbers, and the judge's answer seen so.
use Rattle.std.specs.Prelude.{ℕ, Result, Ok, Err}
use Rattle.octets.specs.declared.refusal.Refusal.{Refusal}
use Rattle.octets.specs.Refusals.{number}
use Rattle.frame.specs.declared.Accepted.{Accepted as Acceptance}

-- the number of a frame's refusal, or where the Local TLV stands in its body, the body's length where it has none, and how many
-- TLVs were skipped
pub data Judgement : Type 0 where
  Refused : ℕ → Judgement
  Accepted : ℕ → ℕ → Judgement

abbrev pub as_judgement : Result Acceptance Refusal → Judgement
as_judgement (Ok a) = Accepted a.local a.skipped
as_judgement (Err r) = Refused (number r)
