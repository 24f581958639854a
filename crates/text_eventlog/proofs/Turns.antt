-- One turn of each loop that writes a line.
use Prim.Native.Nat.{ℕ, ◌+◌, ◌-◌, ◌<◌}
use mathlib.Core.Path.{◌≡◌, refl, sym, ap, ◌∙◌}
use mathlib.Core.List.{List, [], ◌∷◌, ◌++◌}
use mathlib.Core.Bool.{cond}
use native.Mathlib.Omega.{arith}
use native.Mathlib.Numerals.{add-one}
use lib.Dec.{eqb, eqb-suc-zero}
use lib.ListN.{length, get_or, drop, length-append, length-drop}
use lib.Seq.{sets, drop-cons}
use Rattle.text.specs.Marks.{tab, newline}
use Rattle.text.specs.Decimal.{field}
use Rattle.octets.proofs.Stores.{sets-append}
use Rattle.text_eventlog.specs.Line.{parting, fields}

-- the octet after a field, by how many fields follow
parting_is : (vs : List ℕ) → parting vs ≡ cond (eqb (length vs) 0) newline tab
parting_is [] = refl
parting_is (v ∷ vs) = rw (eqb-suc-zero (length vs))

-- a field of a line, with the octet after it
abbrev pub field_at : List ℕ → ℕ → List ℕ
field_at vs i = field (get_or vs i 0) (parting (drop (i + 1) vs))

module _ (vs : List ℕ) (i : ℕ) where
  pub parting_at : cond (eqb (length vs - i - 1) 0) newline tab ≡ parting (drop (i + 1) vs)
  parting_at =
      let e : length vs - i - 1 ≡ length (drop (i + 1) vs) = omega (arith, length-drop (i + 1) vs) in
      rw e (sym (parting_is (drop (i + 1) vs)))

  module _ (h : i < length vs) where
    -- the fields left begin with this one
    next_fields : fields (drop i vs) ≡ field_at vs i ++ fields (drop (i + 1) vs)
    next_fields = rw (add-one i, drop-cons vs i 0 h)

    pub next_length : length (fields (drop i vs)) ≡ length (field_at vs i) + length (fields (drop (i + 1) vs))
    next_length = ap length next_fields ∙ length-append (field_at vs i) (fields (drop (i + 1) vs))

    pub next_stored_lem : (out : List ℕ) (at : ℕ)
        → sets out at (fields (drop i vs)) ≡ sets (sets out at (field_at vs i)) (at + length (field_at vs i)) (fields (drop (i + 1) vs))
    next_stored_lem out at = ap (sets out at) next_fields ∙ sets-append out at (field_at vs i) (fields (drop (i + 1) vs))
