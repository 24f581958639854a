-- No eleven successive intervals of a history have more than ten frames, wherever they begin; and so no timer second has.
use Prim.Native.Nat.{ℕ, ◌+◌, ◌-◌, ◌%◌, ◌<◌, ◌≤◌}
use mathlib.Core.Path.{◌≡◌, refl, ap, ◌∙◌}
use mathlib.Core.List.{List, [], ◌∷◌}
use mathlib.Core.Bool.{Bool, true, false, cond, ◌&&◌, and-true, and-false}
use native.Mathlib.Omega.{arith}
use borrow.Author.Tests.{lt-leb, le-leb, leb-true, leb-false, eqb-true, eqb-false}
use lib.Dec.{leb, eqb}
use Rattle.octets.specs.Tests.{between}
use Rattle.octets.proofs.Bools.{by_cond, never, whether}
use Rattle.link_peer.specs.declared.Settings.{Settings}
use Rattle.theorems_reach.specs.Machine.{Call}
use Rattle.theorems_reach.specs.Runs.{after, entry_of, history}
use Rattle.theorems_reach.specs.Intervals.{Entry, count, ticks_in, frames_back, frames_from}
use Rattle.theorems_reach.specs.Seconds.{closed_by, frames_in}
use Rattle.theorems_reach.specs.Premises.{Accepted, AllOfOctets}
use Rattle.theorems_reach.proofs.Counting.{run_limit}

-- ---- eleven intervals from one on

count_both : (a b : Bool) → count (a && b) ≤ count a
count_both true true = omega arith
count_both true false = omega arith
count_both false b = omega arith

count_within : (frame : Bool) (first last n : ℕ) → first ≤ n → n ≤ last → count (frame && between first last n) ≡ count frame
count_within frame first last n a b = rw (le-leb first n a, le-leb n last b, and-true frame)

-- what stands before or behind them is not counted
count_before : (frame : Bool) (first last n : ℕ) → n < first → count (frame && between first last n) ≡ 0
count_before frame first last n h = rw (lt-leb first n h, and-false frame)

count_behind : (frame : Bool) (first last n : ℕ) → last < n → count (frame && between first last n) ≡ 0
count_behind frame first last n h = rw (lt-leb n last h, and-false (leb first n), and-false frame)

from_later : (first : ℕ) (xs : List Entry) → ticks_in xs < first → frames_from first xs ≡ 0
from_later first [] h = refl
from_later first (x ∷ xs) h =
    omega (arith, from_later first xs (omega arith), count_before x.frame first (first + 10) (ticks_in (x ∷ xs)) h)

-- whether a call opens the oldest of the present interval and the k before it, so that those have no older frame
opens : (tick : Bool) (k : ℕ) → tick && eqb k 0 ≡ true → (count tick ≡ 1) × (k ≡ 0)
opens true k h = (refl, eqb-true k 0 h)
opens false k h = never h

not_opens : (tick : Bool) (k : ℕ) → tick && eqb k 0 ≡ false → count tick ≤ k
not_opens true k h = omega (arith, eqb-false k 0 h)
not_opens false k h = omega arith

-- as long as the present interval is at most k after the first of the eleven, they are among the present and the k before it
from_back : (first k : ℕ) (xs : List Entry) → ticks_in xs ≤ first + k → frames_from first xs ≤ frames_back k xs
from_back first k [] h = omega arith
from_back first k (x ∷ xs) h =
    let older : frames_from first xs ≤ cond (x.tick && eqb k 0) 0 (frames_back (k - count x.tick) xs) =
    by_cond (λ (n : ℕ). frames_from first xs ≤ n) (x.tick && eqb k 0)
    (λ t. omega (arith, from_later first xs (omega (arith, h, opens x.tick k t))))
    (λ f. from_back first (k - count x.tick) xs (omega (arith, h, not_opens x.tick k f))) in
    omega (arith, older, count_both x.frame (between first (first + 10) (ticks_in (x ∷ xs))))

-- a call more: eleven intervals that the present one has not passed have at most the frames of the present stretch, and others are
-- as they were
pub keeps_stretches : (x : Entry) (xs : List Entry) → frames_back 10 (x ∷ xs) ≤ 10 → ((first : ℕ) → frames_from first xs ≤ 10)
    → (first : ℕ) → frames_from first (x ∷ xs) ≤ 10
keeps_stretches x xs now before first =
    let n : ℕ = ticks_in (x ∷ xs) in
    whether (leb n (first + 10))
    (λ t. omega (arith, from_back first 10 (x ∷ xs) (leb-true n (first + 10) t), now))
    (λ f. omega (arith, count_behind x.frame first (first + 10) n (leb-false n (first + 10) f), before first))

-- "ten frames over any eleven successive ones"
pub any_stretch : (s : Settings) → Accepted s → (cs : List Call) → AllOfOctets cs → (first : ℕ) → frames_from first (history s cs) ≤ 10
any_stretch s a [] o first = omega arith
any_stretch s a (c ∷ cs) o first = keeps_stretches (entry_of c (after s cs)) (history s cs) (run_limit s a (c ∷ cs) o) (any_stretch s a cs o.1) first

-- and the one that ends with the present interval has the frames of the present and the ten before it
from_is_back : (k : ℕ) (xs : List Entry) → k ≤ 10 → frames_from (ticks_in xs - k) xs ≡ frames_back k xs
from_is_back k [] h = refl
from_is_back k (x ∷ xs) h =
    let n : ℕ = ticks_in (x ∷ xs) in
    let older : frames_from (n - k) xs ≡ cond (x.tick && eqb k 0) 0 (frames_back (k - count x.tick) xs) =
    by_cond (λ (m : ℕ). frames_from (n - k) xs ≡ m) (x.tick && eqb k 0)
    (λ t. from_later (n - k) xs (omega (arith, opens x.tick k t)))
    (λ f.
    let e : n - k ≡ ticks_in xs - (k - count x.tick) = omega (arith, not_opens x.tick k f) in
    ap (λ (m : ℕ). frames_from m xs) e ∙ from_is_back (k - count x.tick) xs (omega arith)) in
    let counted = count_within x.frame (n - k) (n - k + 10) n (omega arith) (omega arith) in
    λ i. older i + counted i

pub stretch_present : (xs : List Entry) → frames_from (ticks_in xs - 10) xs ≡ frames_back 10 xs
stretch_present xs = from_is_back 10 xs (omega arith)

-- ---- a timer second

-- a timer second of k ticks so far lies in the present interval and the k before it
second_back : (k : ℕ) (xs : List Entry) → ticks_in xs % 10 ≤ k → frames_in xs ≤ frames_back k xs
second_back k [] h = omega arith
second_back k (x ∷ xs) h =
    by_cond (λ (n : ℕ). n + count x.frame ≤ frames_back k (x ∷ xs)) (closed_by x xs)
    (λ _. omega arith)
    (λ f.
    let goes_on = not_opens x.tick (ticks_in (x ∷ xs) % 10) f in
    let older : frames_in xs ≤ cond (x.tick && eqb k 0) 0 (frames_back (k - count x.tick) xs) =
    by_cond (λ (n : ℕ). frames_in xs ≤ n) (x.tick && eqb k 0)
    (λ t. absurd (omega (arith, h, goes_on, opens x.tick k t)))
    (λ g. second_back (k - count x.tick) xs (omega (arith, h, goes_on, not_opens x.tick k g))) in
    omega (arith, older))

-- "No end writes more than ten frames in one of its timer seconds."
pub second_limit : (s : Settings) → Accepted s → (cs : List Call) → AllOfOctets cs → frames_in (history s cs) ≤ 10
second_limit s a cs o = omega (arith, second_back 10 (history s cs) (omega arith), run_limit s a cs o)
