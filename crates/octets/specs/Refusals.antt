-- The refusals by their numbers: those of the answers that a C caller gets (include/oam.h), and 16 to 18, which listings of capture
-- files show beside them.
use Rattle.std.specs.Prelude.{ℕ, Result, Ok, Err}
use Rattle.octets.specs.declared.refusal.Refusal.{Refusal}
use Rattle.octets.specs.declared.refusal.Refusal.TheVariants.{WrongLength, WrongDestination, WrongType, WrongSubtype, WrongCode, Broken, SecondTlv, WrongCommand, ShortOutput, OutOfRange, NotInSendAny, ExceedsMaximum, TenFramesWritten, NotALine, Forbidden, NotACapture, Shortened, CutOff}

abbrev pub number : Refusal → ℕ
number WrongLength = 1
number WrongDestination = 2
number WrongType = 3
number WrongSubtype = 4
number WrongCode = 5
number Broken = 6
number SecondTlv = 7
number WrongCommand = 8
number ShortOutput = 9
number OutOfRange = 10
number NotInSendAny = 11
number ExceedsMaximum = 12
number TenFramesWritten = 13
number NotALine = 14
number Forbidden = 15
number NotACapture = 16
number Shortened = 17
number CutOff = 18

-- what is tested and may be refused, by its number: 0 where it is not
abbrev pub as_answer : Result (Unit {0}) Refusal → ℕ
as_answer (Ok u) = 0
as_answer (Err refusal) = number refusal
