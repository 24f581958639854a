-- What an entry that writes gives back: what its writer answered and left, or 10 alone.
use Prim.Native.Nat.{ℕ}
use mathlib.Core.Path.{◌≡◌, refl, ap, ◌∙◌}
use mathlib.Core.List.{List}
use mathlib.Core.Bool.{Bool, true, false}
use Rattle.frame.specs.Frame.{Message}
use Rattle.frame_writer.specs.Writing.{Written, Writing, WritingFormed}
use Rattle.oam_outcomes.specs.Written.{written_number}
use Rattle.oam.specs.Writing.{WritingFrame}

module _ {m : Message} {entry exit : List ℕ} {w : Written} {answer : ℕ} where
  pub of_writer : answer ≡ written_number w → Writing m entry w exit → WritingFrame true m entry answer exit
  of_writer e h = record { answers = e ∙ ap written_number h.answers; output = h.output }

  -- of one that itself tests what is lent for a form
  pub of_forming : {b : Bool} → answer ≡ written_number w → WritingFormed b m entry w exit → WritingFrame b m entry answer exit
  of_forming e h = record { answers = e ∙ ap written_number h.answers; output = h.output }

  -- where what is lent has a form, and where it has none
  pub formed : (b : Bool) → b ≡ true → answer ≡ written_number w → Writing m entry w exit → WritingFrame b m entry answer exit
  formed b t e h = rw t (of_writer e h)

pub unformed : (m : Message) (entry : List ℕ) (b : Bool) → b ≡ false → WritingFrame b m entry 10 entry
unformed m entry b f = rw f (record { answers = refl; output = refl })
