-- Numbers in octets and the octets of numbers: lengths, bounds, and that what is written is read and
-- what is read is written again.
use Prim.Native.Nat.{ℕ, zero, suc, ◌+◌, ◌*◌, ◌/◌, ◌%◌, ◌^◌, ◌<◌, ◌≤◌}
use mathlib.Core.Path.{◌≡◌, refl, sym, ap, ◌∙◌}
use mathlib.Core.List.{List, [], ◌∷◌, ◌++◌, append_assoc}
use mathlib.Core.Bool.{true}
use native.Mathlib.Omega.{arith}
use native.Mathlib.Nat.{pow-suc, pow-le-pow_right, add-zero, add-suc, add_assoc}
use borrow.Author.Tests.{ltb-true, lt-ltb}
use lib.Arith.{digits_div, digits_mod}
use lib.Dec.{ltb}
use lib.ListN.{length, length-append, get_or, drop}
use lib.Seq.{get_or-drop, get_or_at, drop_at, drop-drop, drop-cons}
use Rattle.octets.specs.Octets.{Octets, num, total, fields_at, oct, octs, fit}
use Rattle.octets.proofs.Bools.{and_l, and_r}

-- octets joined are the number that stands in them
module _ (s : List ℕ) (at : ℕ) where
  pub num_one : num 1 s at ≡ get_or s at 0
  num_one = rw add-zero (omega arith)

  pub num_two : (a b : ℕ) → a ≡ get_or s at 0 → b ≡ get_or s (at + 1) 0 → num 2 (a ∷ b ∷ []) 0 ≡ num 2 s at
  num_two a b p q = rw (add-zero, p, q)

  pub num_three : (a b c : ℕ) → a ≡ get_or s at 0 → b ≡ get_or s (at + 1) 0 → c ≡ get_or s (at + 2) 0
      → num 3 (a ∷ b ∷ c ∷ []) 0 ≡ num 3 s at
  num_three a b c p q r = rw (add-zero, p, q, r)

  pub num_four : (a b c d : ℕ) → a ≡ get_or s at 0 → b ≡ get_or s (at + 1) 0 → c ≡ get_or s (at + 2) 0 → d ≡ get_or s (at + 3) 0
      → num 4 (a ∷ b ∷ c ∷ d ∷ []) 0 ≡ num 4 s at
  num_four a b c d p q r t = rw (add-zero, p, q, r, t)

-- an octet by its place, however that is added up
pub octet_at : (s : List ℕ) (m n : ℕ) → m ≡ n → get_or s m 0 ≡ get_or s n 0
octet_at s m n e = ap (λ (k : ℕ). get_or s k 0) e

-- four octets and four more are eight
pub num_eight : (s : List ℕ) (at : ℕ) → num 4 s at * 4294967296 + num 4 s (at + 4) ≡ num 8 s at
num_eight s at =
    omega (
      arith,
      octet_at s (at + 4 + 0) (at + 4) (omega arith),
      octet_at s (at + 4 + 1) (at + 5) (omega arith),
      octet_at s (at + 4 + 2) (at + 6) (omega arith),
      octet_at s (at + 4 + 3) (at + 7) (omega arith),
    )

-- what stands in some octets fits them
pub num_lt : (width : ℕ) (s : List ℕ) (at : ℕ) → Octets s → num width s at < 256 ^ width
num_lt zero s at h = omega arith
num_lt (suc width) s at h = rw pow-suc (omega (arith, num_lt width s at h, h (at + width)))

pub pow_upto : (i j : ℕ) → i ≤ j → 256 ^ i ≤ 256 ^ j
pow_upto i j h = pow-le-pow_right (omega arith) h

-- a number takes its width, and numbers one after another take all of theirs
pub length-oct : (w v : ℕ) → length (oct w v) ≡ w
length-oct zero v = refl
length-oct (suc w) v = omega (arith, length-append (oct w (v / 256)) (v % 256 ∷ []), length-oct w (v / 256))

pub length-octs : (ws vs : List ℕ) → length ws ≤ length vs → length (octs ws vs) ≡ total ws
length-octs [] vs h = refl
length-octs (w ∷ ws) [] h = absurd (omega arith)
length-octs (w ∷ ws) (v ∷ vs) h =
    omega (arith, length-append (oct w v) (octs ws vs), length-oct w v, length-octs ws vs (omega arith))

-- what is left of octets is octets
pub octets_from : (s : List ℕ) → Octets s → (n : ℕ) → Octets (drop n s)
octets_from s o n i = rw get_or-drop (o (n + i))

-- numbers that fit their widths: each of them
pub fit_at : (ws vs : List ℕ) (i : ℕ) → i < length ws → i < length vs → fit ws vs ≡ true → get_or vs i 0 < 256 ^ get_or ws i 0
fit_at [] vs i h k e = absurd (omega arith)
fit_at (w ∷ ws) [] i h k e = absurd (omega arith)
fit_at (w ∷ ws) (v ∷ vs) zero h k e = ltb-true v (256 ^ w) (and_l (ltb v (256 ^ w)) (fit ws vs) e)
fit_at (w ∷ ws) (v ∷ vs) (suc i) h k e = fit_at ws vs i (omega arith) (omega arith) (and_r (ltb v (256 ^ w)) (fit ws vs) e)

-- ---- what was written is read

-- what stands after the octets x
pub past : (s : List ℕ) (at n : ℕ) (x y : List ℕ) → length x ≡ n → drop at s ≡ x ++ y → drop (at + n) s ≡ y
past s at n x y l h = sym (drop-drop n at s) ∙ ap (drop n) h ∙ drop_at x y n l

-- where the octets of a number stand, the number is read
pub number_read : (w v : ℕ) (s : List ℕ) (at : ℕ) (y : List ℕ) → v < 256 ^ w → drop at s ≡ oct w v ++ y → num w s at ≡ v
number_read zero v s at y h e = omega arith
number_read (suc w) v s at y h e =
    let x = oct w (v / 256) in
    let h' : v < 256 ^ w * 256 = rw pow-suc at h in
    let e' : drop at s ≡ x ++ (v % 256 ∷ y) = e ∙ append_assoc x (v % 256 ∷ []) y in
    let last : get_or s (at + w) 0 ≡ v % 256 =
    sym (get_or-drop at s w 0) ∙ ap (λ (l : List ℕ). get_or l w 0) e' ∙ get_or_at x (v % 256) y 0 w (length-oct w (v / 256)) in
    rw (number_read w (v / 256) s at (v % 256 ∷ y) (omega arith) e', last) (omega arith)

-- the same of numbers one after another
pub fields_read : (ws vs s : List ℕ) (at : ℕ) (y : List ℕ) → length ws ≡ length vs → fit ws vs ≡ true → drop at s ≡ octs ws vs ++ y → fields_at ws s at ≡ vs
fields_read [] [] s at y l h e = refl
fields_read [] (v ∷ vs) s at y l h e = absurd (omega arith)
fields_read (w ∷ ws) [] s at y l h e = absurd (omega arith)
fields_read (w ∷ ws) (v ∷ vs) s at y l h e =
    let small : ltb v (256 ^ w) ≡ true = search and_l in
    let others : fit ws vs ≡ true = search and_r in
    let e' = e ∙ append_assoc (oct w v) (octs ws vs) y in
    rw (
      number_read w v s at (octs ws vs ++ y) (ltb-true v (256 ^ w) small) e',
      fields_read ws vs s (at + w) y (omega arith) others (past s at w (oct w v) (octs ws vs ++ y) (length-oct w v) e'),
    )

-- ---- what is read is written again

module _ (s : List ℕ) (o : Octets s) where
  -- where a number is read its octets stand
  pub number_again : (w at : ℕ) → at + w ≤ length s → drop at s ≡ oct w (num w s at) ++ drop (at + w) s
  number_again zero at h = rw add-zero
  number_again (suc w) at h =
      let n = num w s at in
      let b = get_or s (at + w) 0 in
      rw (digits_div n (o (at + w)), digits_mod n (o (at + w)), append_assoc (oct w n) (b ∷ []), add-suc, ← drop-cons s (at + w) 0 (omega arith))
      (number_again w at (omega arith))

  -- the same of numbers one after another
  pub fields_again : (ws : List ℕ) (at : ℕ) → at + total ws ≤ length s → drop at s ≡ octs ws (fields_at ws s at) ++ drop (at + total ws) s
  fields_again [] at h = rw add-zero
  fields_again (w ∷ ws) at h = number_again w at (omega arith) ∙ ap (λ (l : List ℕ). oct w (num w s at) ++ l) (fields_again ws (at + w) (omega arith)) ∙ rw (append_assoc, add_assoc)

  -- what is read fits its widths
  pub fields_fit : (ws : List ℕ) (at : ℕ) → fit ws (fields_at ws s at) ≡ true
  fields_fit [] at = refl
  fields_fit (w ∷ ws) at = rw (lt-ltb (num w s at) (256 ^ w) (num_lt w s at o), fields_fit ws (at + w))
