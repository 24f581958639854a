-- An octet kept in a working frame leaves its length.
use Rattle.std.proofs.Common.{◌≡◌, ℕ, ltb, List, length, refl, length-set}
use Rattle.octets.proofs.Bools.{by_cond}
use Rattle.text_listing.specs.Taking.{held, keep}

pub length-keep : (f : List ℕ) (n octet : ℕ) → length (keep f n octet) ≡ length f
length-keep f n octet = by_cond (λ (x : List ℕ). length x ≡ length f) (ltb n (held f)) (λ _. length-set f n octet) (λ _. refl)
