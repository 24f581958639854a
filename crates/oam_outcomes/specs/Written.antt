-- The outcome of an entry that writes.
use Rattle.std.specs.Prelude.{ℕ, ◌*◌, ◌%◌, ◌^◌, Result, Ok, Err}
use Rattle.frame_writer.specs.Writing.{Written, Refused, Wrote}

-- The answer in the low 8 bits, 0 where it is accepted, and the length written above them. "Every refusal returns its number
-- and length 0."
abbrev pub written_number : Written → ℕ
written_number (Refused answer) = answer
written_number (Wrote octets) = octets % 2 ^ 32 * 256

-- what a writer answers, by the number of what it answers in place of a length
abbrev pub as_written_by : {A : Type 0} → (A → ℕ) → Result ℕ A → Written
as_written_by answer (Ok octets) = Wrote octets
as_written_by answer (Err refused) = Refused (answer refused)
