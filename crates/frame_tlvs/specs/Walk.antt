-- A walk over the parts of a body, whatever the parts are.
use Rattle.std.specs.Prelude.{ℕ, zero, suc, ◌+◌, ◌≡◌, List, [], ◌∷◌, Bool, true, false, Option, None, Some, Result, Ok, Err}
use Rattle.octets.specs.declared.refusal.Refusal.{Refusal}
use Rattle.octets.specs.declared.refusal.Refusal.TheVariants.{Broken}

-- What stands at an octet: nothing more, something broken, something to be skipped, or a part; with the octet after it.
pub data Next (P : Type 0) : Type 0 where
  stop : Next P
  broken : Next P
  skip : ℕ → Next P
  has : P → ℕ → Next P

-- A step of the code is nothing, a part, or the refusal of what is broken, and no other refusal.
abbrev pub OnlyBroken : {A : Type 0} → Option (Result A Refusal) → Type 0
OnlyBroken None = Unit
OnlyBroken (Some (Ok a)) = Unit
OnlyBroken (Some (Err r)) = r ≡ Broken

-- A walk: what was met and what was passed over, in order, until it ends or breaks off.
pub data Walk (P : Type 0) : Type 0 where
  ends : Walk P
  breaks : Walk P
  over : Walk P → Walk P
  part : P → Walk P → Walk P

abbrev pub on_next : {P : Type 0} → Next P → (ℕ → Walk P) → Walk P
on_next stop go = ends
on_next broken go = breaks
on_next (skip n) go = over (go n)
on_next (has p n) go = part p (go n)

-- The walk from octet `at`, in at most `steps` steps. Where every step leads on, as in a body, its length is steps enough
-- (`unrolls` in proofs/Walks.antt).
unfoldable pub walk : {P : Type 0} → (ℕ → Next P) → ℕ → ℕ → Walk P
walk next zero at = ends
walk next (suc steps) at = on_next (next at) (λ n. walk next steps n)

-- the parts of a body in order, or the number of its refusal
pub data Parsed (P : Type 0) : Type 0 where
  refused : ℕ → Parsed P
  parts : List P → Parsed P

abbrev pub also : {P : Type 0} → P → Parsed P → Parsed P
also p (refused n) = refused n
also p (parts ps) = parts (p ∷ ps)

-- The parts of a walk; "a TLV, descriptor or container is broken" is 6.
abbrev pub listed : {P : Type 0} → Walk P → Parsed P
listed ends = parts []
listed breaks = refused 6
listed (over w) = listed w
listed (part p w) = also p (listed w)

-- What an iterator over a body gives: each part, nothing in the place of what is passed over, and as the last the refusal of what is
-- broken.
abbrev pub items : {P : Type 0} → Walk P → List (Result (Option P) Refusal)
items ends = []
items breaks = Err Broken ∷ []
items (over w) = Ok None ∷ items w
items (part p w) = Ok (Some p) ∷ items w

-- the same of a walk that passes over nothing
abbrev pub given : {P : Type 0} → Walk P → List (Result P Refusal)
given ends = []
given breaks = Err Broken ∷ []
given (over w) = given w
given (part p w) = Ok p ∷ given w

-- what a caller has met who took the steps until the walk ended or broke off
abbrev pub met : {P : Type 0} → Walk P → List P
met ends = []
met breaks = []
met (over w) = met w
met (part p w) = p ∷ met w

-- whether a walk ends, and does not break off
abbrev pub whole : {P : Type 0} → Walk P → Bool
whole ends = true
whole breaks = false
whole (over w) = whole w
whole (part p w) = whole w

-- ---- what was passed over

-- how many TLVs a walk skips
abbrev pub skipped_in : {P : Type 0} → Walk P → ℕ
skipped_in ends = 0
skipped_in breaks = 0
skipped_in (over w) = suc (skipped_in w)
skipped_in (part p w) = skipped_in w

-- the parts of a walk, beside each the number skipped before it, where so many were skipped before the walk
abbrev pub beside : {P : Type 0} → ℕ → Walk P → List (P × ℕ)
beside skipped ends = []
beside skipped breaks = []
beside skipped (over w) = beside (skipped + 1) w
beside skipped (part p w) = (p, skipped) ∷ beside skipped w
