-- One turn of each loop that stores, and parts that are stored one after another.
use Prim.Native.Nat.{ℕ, suc, ◌+◌, ◌/◌, ◌%◌, ◌<◌}
use mathlib.Core.Path.{◌≡◌, sym, ◌∙◌}
use mathlib.Core.List.{List, ◌++◌}
use native.Mathlib.Numerals.{add-one}
use lib.ListN.{length, get_or, drop, set}
use lib.Seq.{sets, drop-cons}
use Rattle.octets.specs.Octets.{oct, octs}
use Rattle.octets.proofs.Numbers.{length-oct}
use Rattle.octets.proofs.Stores.{sets-append, sets_last}

-- the last octet of a number is stored first
pub put_last : (out : List ℕ) (at w v : ℕ) → sets out at (oct (w + 1) v) ≡ sets (set out (at + w) (v % 256)) at (oct w (v / 256))
put_last out at w v = rw (add-one w, sets_last out at (oct w (v / 256)) (v % 256), length-oct)

-- a turn of `put_fields`: the field i, and what is left after it
pub next_field : (l : List ℕ) (at i : ℕ) (ws vs : List ℕ) → i < length ws → i < length vs → {m : List ℕ} → m ≡ sets l at (oct (get_or ws i 0) (get_or vs i 0))
    → sets l at (octs (drop i ws) (drop i vs)) ≡ sets m (at + get_or ws i 0) (octs (drop (i + 1) ws) (drop (i + 1) vs))
next_field l at i ws vs h k e =
    let w = get_or ws i 0 in
    let v = get_or vs i 0 in
    rw (e, add-one i, drop-cons ws i 0 h, drop-cons vs i 0 k)
    (sets-append l at (oct w v) (octs (drop (suc i) ws) (drop (suc i) vs)) ∙ rw (length-oct w v))

-- three parts stored one after another are stored as one
pub three_stored : (l : List ℕ) (at : ℕ) (x y z : List ℕ) {i j : ℕ} → at + length x ≡ i → at + length x + length y ≡ j
    → sets (sets (sets l at x) i y) j z ≡ sets l at (x ++ (y ++ z))
three_stored l at x y z e f = sym (sets-append l at x (y ++ z) ∙ sets-append (sets l at x) (at + length x) y z ∙ rw (f, e))
