-- Flags taken apart and put together again: the parts come back, and so do the seven named bits of a number.
use Prim.Native.Nat.{ℕ, ◌+◌, ◌*◌, ◌/◌, ◌%◌, ◌<◌}
use mathlib.Core.Path.{◌≡◌}
use mathlib.Core.Bool.{Bool}
use native.Mathlib.Omega.{arith}
use native.Mathlib.Nat.{mod-mod}
use lib.Dec.{lit<}
use mir.Val.{bool_byte}
use lib.Arith.{mod-mul, digits_div, digits_mod}
use Rattle.frame.specs.declared.Flags.{Flags}
use Rattle.octets.specs.Bits.{bit_of}
use Rattle.frame.specs.Flags.{flags_of, flags_number}
use lib.Bits.{bit_or}
use Rattle.octets.proofs.Masks.{or_sum, bit_lt, bit_back, bit_again}

-- yes and no as a bit, as `From<bool>` has it
pub bit_byte : (on : Bool) → bool_byte on ≡ bit_of on
bit_byte on = grind arith

-- the digit at c of x, where x is (q * m + r) * c + s
digit : (x q r s : ℕ) {m c : ℕ} → x ≡ (q * m + r) * c + s → s < c → r < m → x / c % m ≡ r
digit x q r s {m} {c} e hs hr = rw (e, digits_div (q * m + r) hs, digits_mod q hr)

-- the parts at their places, with no cut
abbrev placed : ℕ → ℕ → ℕ → ℕ → ℕ → ℕ
placed fault gasp critical local remote = remote * 32 + (local * 8 + (critical * 4 + (gasp * 2 + fault)))

pub split_join : (f : Flags) → f.local < 4 → f.remote < 4 → flags_of (flags_number f) ≡ f
unfolding flags_number
split_join f hl hr =
    let a = bit_of f.fault in
    let b = bit_of f.gasp in
    let c = bit_of f.critical in
    let ha = bit_lt f.fault in
    let hb = bit_lt f.gasp in
    let hc = bit_lt f.critical in
    let l = f.local in
    let r = f.remote in
    let x = placed a b c l r in
    let whole : flags_number f ≡ x = omega arith in
    let e1 : x % 2 ≡ a = omega arith in
    let e2 : x / 2 % 2 ≡ b = digit x (r * 8 + (l * 2 + c)) b a (omega arith) ha hb in
    let e3 : x / 4 % 2 ≡ c = digit x (r * 4 + l) c (b * 2 + a) (omega arith) (omega arith) hc in
    let e4 : x / 8 % 4 ≡ l = digit x r l (c * 4 + (b * 2 + a)) (omega arith) (omega arith) hl in
    let e5 : x / 32 % 4 ≡ r = digit x 0 r (l * 8 + (c * 4 + (b * 2 + a))) (omega arith) (omega arith) hr in
    rw (whole, e1, e2, e3, e4, e5, bit_back f.fault, bit_back f.gasp, bit_back f.critical)

pub join_split : (n : ℕ) → flags_number (flags_of n) ≡ n % 128
unfolding flags_number
join_split n =
    simp (mod-mod, bit_again (n % 2) (omega arith), bit_again (n / 2 % 2) (omega arith), bit_again (n / 4 % 2) (omega arith))
    (rw (
      mod-mul n {m = 4} {c = 32} (lit< tt) (lit< tt),
      mod-mul n {m = 4} {c = 8} (lit< tt) (lit< tt),
      mod-mul n {m = 2} {c = 4} (lit< tt) (lit< tt),
      mod-mul n {m = 2} {c = 2} (lit< tt) (lit< tt),
    ))

-- the flags' parts at their places
pub flags_sum : (a b c d e : ℕ) → a < 4 → b < 4 → c < 2 → d < 2 → e < 2
    → bit_or (bit_or (bit_or (bit_or (a * 32 % 65536) (b * 8 % 65536)) (c * 4 % 65536)) (d * 2 % 65536)) e
    ≡ a * 32 + (b * 8 + (c * 4 + (d * 2 + e)))
flags_sum a b c d e ha hb hc hd he =
    let a' = a * 32 % 65536 in
    let b' = b * 8 % 65536 in
    let c' = c * 4 % 65536 in
    let d' = d * 2 % 65536 in
    rw (
      or_sum 5 a' b' (omega arith) (omega arith),
      or_sum 3 (a' + b') c' (omega arith) (omega arith),
      or_sum 2 (a' + b' + c') d' (omega arith) (omega arith),
      or_sum 1 (a' + b' + c' + d') e (omega arith) (omega arith),
    )
    (omega arith)
