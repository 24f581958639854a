-- Nothing is cut off in an outcome of a writer: it is 10, or 9, or the length above eight zero bits.
use Prim.Native.Nat.{ℕ, ◌*◌, ◌^◌, ◌<◌}
use mathlib.Core.Path.{◌≡◌, refl, ap}
use mathlib.Core.List.{List}
use mathlib.Core.Bool.{Bool, true, false, cond}
use native.Mathlib.Nat.{mod-eq_of_lt}
use native.Mathlib.Omega.{arith}
use lib.Dec.{ltb}
use lib.ListN.{length}
use Rattle.frame.specs.Frame.{Message}
use Rattle.frame_writer.specs.Encode.{encode}
use Rattle.frame_writer.specs.Plain.{plain}
use Rattle.frame_writer.specs.Writing.{Refused, Wrote, writes}
use Rattle.theorems_frame.proofs.Sizes.{encode-length}
use Rattle.text_eventlog.specs.Line.{in_range, line_of}
use Rattle.text_eventlog.specs.Logging.{logs}
use Rattle.theorems_log.proofs.Lines.{longest}
use Rattle.oam_outcomes.specs.Written.{written_number}

-- the outcome of n octets that are to be written, where they may be and where the output is too short
abbrev pub outcome_in : Bool → Bool → ℕ → ℕ
outcome_in allowed short n = cond allowed (cond short 9 (n * 256)) 10

whole : (allowed short : Bool) (n : ℕ) → (allowed ≡ true → n < 2 ^ 32)
    → written_number (cond allowed (cond short (Refused 9) (Wrote n)) (Refused 10)) ≡ outcome_in allowed short n
whole true true n h = refl
whole true false n h = ap (λ (octets : ℕ). octets * 256) (mod-eq_of_lt (h refl))
whole false short n h = refl

-- of a frame, and of a line
pub frame_whole : (m : Message) (room : ℕ) → written_number (writes m room) ≡ outcome_in (plain m) (ltb room (length (encode m))) (length (encode m))
unfolding writes
frame_whole m room =
    whole (plain m) (ltb room (length (encode m))) (length (encode m)) (λ p. omega (arith, (encode-length m p).1))

pub line_whole : (number position : ℕ) (event : List ℕ) (room : ℕ)
    → written_number (logs number position event room)
    ≡ outcome_in (in_range number position event) (ltb room (length (line_of number position event))) (length (line_of number position event))
unfolding logs
line_whole number position event room =
    let n = length (line_of number position event) in
    whole (in_range number position event) (ltb room n) n (λ p. omega (arith, longest number position event p))
