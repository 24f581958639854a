-- A part as numbers one after another, each in its width: the two laws of any such part, from what its numbers make.
use Prim.Native.Nat.{ℕ, ◌+◌, ◌≤◌}
use mathlib.Core.Path.{◌≡◌, sym, ap, ◌∙◌}
use mathlib.Core.List.{List, [], append-nil}
use mathlib.Core.Bool.{true}
use native.Mathlib.Omega.{arith}
use lib.ListN.{length, drop_of_length-le}
use Rattle.octets.specs.Octets.{Octets, total, fields_at, octs, fit}
use Rattle.octets.proofs.Numbers.{fields_read, fields_again}

module _ {P : Type 0} (widths : List ℕ) (numbers : P → List ℕ) (with : List ℕ → P) where
  -- a part's octets are read as the part, where its numbers fit and make it again
  pub part_back : (p : P) → length widths ≡ length (numbers p) → fit widths (numbers p) ≡ true → with (numbers p) ≡ p
      → with (fields_at widths (octs widths (numbers p)) 0) ≡ p
  part_back p l f b =
      let x = octs widths (numbers p) in
      ap with (fields_read widths (numbers p) x 0 [] l f (sym (append-nil x))) ∙ b

  -- octets are those of the part that is read from them, where it has the numbers that are read
  pub part_again : (x : List ℕ) → Octets x → length x ≡ total widths → numbers (with (fields_at widths x 0)) ≡ fields_at widths x 0
      → octs widths (numbers (with (fields_at widths x 0))) ≡ x
  part_again x o l h =
      let none : length x ≤ 0 + total widths = omega (arith, l) in
      let n = fields_at widths x 0 in
      ap (octs widths) h ∙ sym (fields_again x o widths 0 (omega (arith, l)) ∙ rw (drop_of_length-le x none) (append-nil (octs widths n)))
