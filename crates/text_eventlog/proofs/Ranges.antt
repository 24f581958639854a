-- An event whose values are in range, and the three ways in which the log writer answers.
use Prim.Native.Nat.{ℕ, ◌^◌, ◌≤◌, ◌<◌}
use mathlib.Core.Path.{◌≡◌, sym, ap, ◌∙◌}
use mathlib.Core.List.{List, [], ◌∷◌}
use mathlib.Core.Bool.{true, false, ◌&&◌}
use native.Mathlib.Omega.{arith}
use borrow.Author.Tests.{lt-ltb, le-ltb}
use lib.Dec.{ltb}
use lib.ListN.{length, get_or}
use lib.Seq.{sets}
use Rattle.octets.proofs.Bools.{and_r}
use Rattle.octets.proofs.Stores.{empty}
use Rattle.frame_writer.specs.Plain.{between}
use Rattle.frame_writer.specs.Writing.{Refused, Wrote, plain_seven}
use Rattle.frame_writer.proofs.Sevens.{by_cells, Seven, seven_is}
use Rattle.text_eventlog.specs.Line.{last_position, in_range_up_to, in_range, fields, line_of}
use Rattle.text_eventlog.specs.Logging.{logs, logged, Logging}

-- an event whose values are in range is seven numbers
pub in_range_seven : (number position : ℕ) (event : List ℕ) → in_range number position event ≡ true → Seven event
unfolding in_range_up_to
in_range_seven number position event h =
    seven_is event (and_r (between 1 last_position position) (plain_seven event) (and_r (ltb number (256 ^ 2)) (between 1 last_position position && plain_seven event) h))

-- seven numbers, one by one
pub seven_cells : (vs : List ℕ) → length vs ≡ 7
    → get_or vs 0 0 ∷ get_or vs 1 0 ∷ get_or vs 2 0 ∷ get_or vs 3 0 ∷ get_or vs 4 0 ∷ get_or vs 5 0 ∷ get_or vs 6 0 ∷ [] ≡ vs
seven_cells vs l =
    by_cells
    (λ (x : List ℕ). length x ≡ 7 → get_or x 0 0 ∷ get_or x 1 0 ∷ get_or x 2 0 ∷ get_or x 3 0 ∷ get_or x 4 0 ∷ get_or x 5 0 ∷ get_or x 6 0 ∷ [] ≡ x)
    (λ a b c d e f g x k. ap (λ (y : List ℕ). a ∷ b ∷ c ∷ d ∷ e ∷ f ∷ g ∷ y) (sym (empty x (omega arith)))) vs (omega arith) l

module _ (number position : ℕ) (event out : List ℕ) where
  pub refused_10 : in_range number position event ≡ false → Logging number position event out (Refused 10) out
  unfolding logs logged
  refused_10 h = record { answers = rw h; output = rw h }

  module _ (h : in_range number position event ≡ true) where
    pub refused_9 : length out < length (fields (number ∷ position ∷ event)) → Logging number position event out (Refused 9) out
    unfolding logs logged line_of
    refused_9 k =
        let s = lt-ltb (length out) (length (fields (number ∷ position ∷ event))) k in
        record { answers = rw (h, s); output = rw (h, s) }

    pub wrote : (octets : ℕ) (exit : List ℕ) → octets ≡ length (fields (number ∷ position ∷ event)) → octets ≤ length out
        → exit ≡ sets out 0 (fields (number ∷ position ∷ event)) → Logging number position event out (Wrote octets) exit
    unfolding logs logged line_of
    wrote octets exit l k e =
        let s = le-ltb (length out) (length (fields (number ∷ position ∷ event))) (omega arith) in
        record { answers = rw (h, s) (ap Wrote l); output = e ∙ rw (h, s) }
