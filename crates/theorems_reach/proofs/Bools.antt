-- Tests that are joined by or, and tests of which one follows from another.
use mathlib.Core.Path.{◌≡◌, refl}
use mathlib.Core.Bool.{Bool, true, false, not, ◌||◌}
use Rattle.octets.proofs.Bools.{never, not_both}

-- one of two tests holds: each where the other fails, both ways
pub or_r : (a b : Bool) → a || b ≡ true → a ≡ false → b ≡ true
or_r true b h f = not_both refl f
or_r false b h f = h

pub or_l : (a b : Bool) → a || b ≡ true → b ≡ false → a ≡ true
or_l true b h f = refl
or_l false b h f = not_both h f

pub is_or_r : (a b : Bool) → (a ≡ false → b ≡ true) → a || b ≡ true
is_or_r true b h = refl
is_or_r false b h = h refl

pub is_or_l : (a b : Bool) → (b ≡ false → a ≡ true) → a || b ≡ true
is_or_l true b h = refl
is_or_l false true h = refl
is_or_l false false h = h refl

-- the second test holds where the first does, both ways
pub implies : (a b : Bool) → not a || b ≡ true → a ≡ true → b ≡ true
implies true b h t = h
implies false b h t = never t

pub is_implied : (a b : Bool) → (a ≡ true → b ≡ true) → not a || b ≡ true
is_implied true b h = h refl
is_implied false b h = refl
