-- The two ways in which a writer of text keeps its promise, what the promise comes to where the text fits, and two texts one
-- after the other.
use Prim.Native.Nat.{ℕ, ◌+◌, ◌≤◌, ◌<◌}
use mathlib.Core.Path.{◌≡◌, refl, ap, ◌∙◌}
use mathlib.Core.List.{List, [], ◌++◌, append_assoc}
use native.Mathlib.Omega.{arith}
use borrow.Author.Tests.{le-leb, lt-leb}
use lib.ListN.{length, take, drop, length-append}
use lib.Seq.{sets, sets-eq, length-sets, length-take-le, take_at, drop_at}
use native.Mathlib.Nat.{add_assoc}
use Rattle.text.specs.Put.{Put, Stored}
use Rattle.text.proofs.Bounds.{by_bound}
use Rattle.octets.proofs.Stores.{sets-append}

-- a text that is stored where it fits
abbrev Placed : List ℕ → List ℕ → ℕ → ℕ → List ℕ → Type 0
Placed text entry at r exit = at + length text ≤ length entry → Stored text entry at r exit

module _ (text entry : List ℕ) (at : ℕ) where
  -- it fits
  pub stored : {r : ℕ} {exit : List ℕ} → at + length text ≤ length entry → r ≡ at + length text → exit ≡ sets entry at text → Put text entry at r exit
  stored h next output = record { next = next ∙ simp (le-leb (at + length text) (length entry) h); output = output ∙ simp (le-leb (at + length text) (length entry) h) }

  -- it does not fit
  pub refused : length entry < at + length text → Put text entry at at entry
  refused h = record { next = simp (lt-leb (at + length text) (length entry) h); output = simp (lt-leb (at + length text) (length entry) h) }

  -- what is promised where it fits
  pub fitting : {r : ℕ} {exit : List ℕ} → Put text entry at r exit → Placed text entry at r exit
  fitting p h = record { within = h; next = p.next ∙ simp (le-leb (at + length text) (length entry) h); output = p.output ∙ simp (le-leb (at + length text) (length entry) h) }

  -- either way the result is within the output
  pub next_within : {r : ℕ} {exit : List ℕ} → Put text entry at r exit → at ≤ length entry → r ≤ length entry
  next_within {r} p h =
      by_bound (length entry) (at + length text)
      (λ short. let same : r ≡ at = p.next ∙ simp (lt-leb (at + length text) (length entry) short) in omega arith)
      (λ room. omega (arith, (fitting p room).next))

-- nothing is stored, whether there is room or not
pub nothing : (entry : List ℕ) (at : ℕ) → Put [] entry at at entry
nothing entry at = by_bound (length entry) (at + 0) (refused [] entry at) (λ h. stored [] entry at h (omega arith) refl)

-- one text leaves room for another after it, where both fit
pub room_after : {a entry middle : List ℕ} {at r : ℕ} (b : List ℕ) → Placed a entry at r middle → at + length (a ++ b) ≤ length entry → r + length b ≤ length middle
room_after {a} {entry} {at = at} b p room =
    let first = p (omega (arith, length-append a b)) in
    omega (arith, first.next, length-append a b, ap length first.output, length-sets entry at a)

pub joined : {a b entry middle exit : List ℕ} {at r r' : ℕ} → Placed a entry at r middle → Placed b middle r r' exit → Placed (a ++ b) entry at r' exit
joined {a} {b} {entry} {at = at} p q room =
    let first = p (omega (arith, length-append a b)) in
    let second = q (room_after b p room) in
    record {
      within = room;
      next = second.next ∙ rw (first.next, length-append a b) (add_assoc at (length a) (length b));
      output = second.output ∙ rw (first.output, first.next, sets-append entry at a b);
    }

-- octets that were stored are read from where they stand
pub stored_there : (out : List ℕ) (at : ℕ) (text : List ℕ) → at + length text ≤ length out → take (length text) (drop at (sets out at text)) ≡ text
stored_there out at text h =
    ap (λ (x : List ℕ). take (length text) (drop at x)) (sets-eq text out at h ∙ append_assoc (take at out) text _)
    ∙ ap (take (length text)) (drop_at (take at out) _ at (length-take-le at out (omega arith)))
    ∙ take_at text _ (length text) refl
