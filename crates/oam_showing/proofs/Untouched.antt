-- Where nothing is stored.
use Prim.Native.Nat.{ℕ}
use mathlib.Core.Path.{refl}
use mathlib.Core.List.{List, []}
use Rattle.oam_showing.specs.Showing.{shows, Showing}

-- an answer, and a lent slice as it was
pub untouched : {answer : ℕ} {entry : List ℕ} → Showing (shows answer []) entry answer entry
untouched = record { answers = refl; stored = refl }
