-- What a lister's program writes for an input: the header, and all that there is to say of the input.
use Rattle.std.specs.Prelude.{ℕ, List, ◌++◌, replicate}
use Rattle.text.specs.Pieces.{Steps, State, to_say}
use Rattle.text_listing.specs.Rows.{header}

-- the working frame starts as all zeros, and has the octets of a frame
abbrev pub listed : {P : Type 0} → Steps (State P) → P → List ℕ → List ℕ
listed steps start input = header ++ to_say steps (record { progress = start; frame = replicate 1514 0 }) input
