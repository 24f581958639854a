-- The TLVs that are skipped: who takes the steps of a body counts them as its walk does, and how many there can be.
use Prim.Native.Nat.{ℕ, zero, suc, ◌+◌, ◌*◌, ◌-◌, ◌^◌, ◌<◌, ◌≤◌}
use mathlib.Core.Path.{◌≡◌, refl, sym, ap, ◌∙◌}
use mathlib.Core.List.{List}
use mathlib.Core.Bool.{cond}
use native.Mathlib.Nat.{add-zero, zero-add}
use native.Mathlib.Omega.{arith}
use borrow.Author.Tests.{lt-ltb}
use lib.ListN.{length, drop, length-drop}
use lib.Dec.{eqb}
use Rattle.octets.specs.Layout.{longest_frame, body_start, events_start}
use Rattle.octets.proofs.Bools.{by_cond}
use Rattle.frame_tlvs.specs.Walk.{Next, stop, broken, skip, has, Walk, ends, breaks, over, part, on_next, walk, whole, skipped_in, beside}
use Rattle.frame_tlvs.specs.Tlvs.{tlv_at, event_length, known, marked, mark_at, Tlv, TlvEnd, TlvBroken, At, Mark, End as MarkEnd, Broken as MarkBroken, Unknown, Known}
use Rattle.frame_tlvs.specs.Events.{step_of, event_step, next_of, event_walk, EventStep, End as EventsEnd, Broken as EventBroken, Skip as EventSkip, Has}
use Rattle.frame_tlvs.specs.Counting.{start, more, behind, skipping, counted_step, event_next}
use Rattle.frame_tlvs.specs.declared.Cursor.{Cursor}
use Rattle.frame_tlvs.specs.declared.Kind.{Kind}
use Rattle.frame_tlvs.specs.declared.Kind.TheVariants.{Information as InformationKind, Events}
use Rattle.frame_tlvs.proofs.Walks.{Ahead, Leads, enough}
use Rattle.frame_tlvs.proofs.Marks.{Within, tlv_within}
use Rattle.frame_body.specs.Information.{step_of as information_step_of, information_step, next_of as information_next_of, information_walk, InformationStep, End, Broken, Skip, Local, Remote}
use Rattle.frame_body.specs.Counting.{counted_step as information_counted, information_next}
use Rattle.frame_body.proofs.Judging.{information_leads}
use Rattle.frame_tlvs.proofs.Items.{event_leads}
use Rattle.frame.specs.Frame.{Body, information, notification, request, response, loopback, organization, Message, accepted, header_answer, body_answer, decode}
use Rattle.frame.specs.Steps.{skipped_by}
use Rattle.frame.proofs.Stepping.{decode_counts}
use Rattle.frame_writer.specs.Encode.{header_octets}
use Rattle.theorems_frame.proofs.Heading.{header_accepted}
use Rattle.theorems_frame.specs.Skipping.{ends_with, breaks_off, Tally, only, first, on_event, on_information, event_tally, information_tally, tally_of, Over, most_skipped, rows}
use Rattle.theorems_frame.specs.Tables.{all_found, all_expected}

-- ---- what a caller counts who takes the steps

-- what is left of a walk, where so many were skipped before it
abbrev tally_from : {P : Type 0} → ℕ → Walk P → Tally P
tally_from skipped w = record { parts = beside skipped w; ending = cond (whole w) (ends_with (skipped + skipped_in w)) breaks_off }

one_skipped : {P : Type 0} (skipped : ℕ) (w : Walk P) → tally_from (skipped + 1) w ≡ tally_from skipped (over w)
one_skipped skipped w =
    let one : skipped + 1 + skipped_in w ≡ skipped + suc (skipped_in w) = omega arith in
    ap (λ (n : ℕ). record { parts = beside (skipped + 1) w; ending = cond (whole w) (ends_with n) breaks_off }) one

-- what one step at a cursor gives, and then what comes of going on
abbrev on_step : {P : Type 0} → Cursor → Next P → (Cursor → Tally P) → Tally P
on_step c stop go = only (ends_with c.skipped)
on_step c broken go = only breaks_off
on_step c (skip n) go = go (skipping c n)
on_step c (has p n) go = first p (behind c n) (go (behind c n))

-- Any kind of steps that lead on in a body: no more TLVs are skipped than octets are passed, so that the number never stays at
-- the largest of 64 bits.
module _ {P : Type 0} (next : ℕ → Next P) (len : ℕ) (leads : Leads next len) (small : len < 2 ^ 64) (tally : ℕ → Cursor → Tally P)
    (takes : (steps : ℕ) (c : Cursor) → tally (suc steps) c ≡ on_step c (next c.at) (λ d. tally steps d)) where
  -- what holds before each step, where so many are left; they are enough to come to the end
  abbrev Going : ℕ → Cursor → Type 0
  Going steps c = (c.skipped ≤ c.at) × (c.at ≤ len) × (len < c.at + steps)

  onward : (steps : ℕ) → ((c : Cursor) → Going steps c → tally steps c ≡ tally_from c.skipped (walk next steps c.at))
      → (c : Cursor) → Going (suc steps) c → (x : Next P) → Ahead c.at len x
      → on_step c x (λ d. tally steps d) ≡ tally_from c.skipped (on_next x (λ n. walk next steps n))
  onward steps go c g stop a = ap (λ (n : ℕ). only (ends_with n)) (sym (add-zero c.skipped))
  onward steps go c g broken a = refl
  onward steps go c g (skip n) a =
      let counted : more c.skipped ≡ c.skipped + 1 = rw (lt-ltb c.skipped (2 ^ 64 - 1) (omega arith)) in
      let d = skipping c n in
      go d (omega (arith, counted), a.1, omega arith) ∙ ap (λ (k : ℕ). tally_from k (walk next steps n)) counted ∙ one_skipped c.skipped (walk next steps n)
  onward steps go c g (has p n) a = ap (first p (behind c n)) (go (behind c n) (omega arith, a.1, omega arith))

  counts_from : (steps : ℕ) (c : Cursor) → Going steps c → tally steps c ≡ tally_from c.skipped (walk next steps c.at)
  unfolding walk
  counts_from zero c g = absurd (omega arith)
  counts_from (suc steps) c g = takes steps c ∙ onward steps (counts_from steps) c g (next c.at) (leads.ahead c.at)

  -- the whole walk, which is the same in as many steps as the body has octets
  counts : (steps : ℕ) → len < steps → tally steps start ≡ tally_of (walk next len 0)
  counts steps h =
      let w = walk next len 0 in
      counts_from steps start (omega arith, omega arith, omega arith) ∙ ap (tally_from 0) (enough next len leads steps len 0 (omega arith) (omega arith))
      ∙ ap (λ (n : ℕ). record { parts = beside 0 w; ending = cond (whole w) (ends_with n) breaks_off }) (zero-add (skipped_in w))

event_takes : (s : List ℕ) (steps : ℕ) (c : Cursor) → event_tally (suc steps) s c ≡ on_step c (next_of (event_step s c.at)) (λ d. event_tally steps s d)
unfolding event_tally event_next
event_takes s steps c = by_step (event_step s c.at)
  where
    by_step : (x : EventStep) → on_event (counted_step c x) (λ d. event_tally steps s d) ≡ on_step c (next_of x) (λ d. event_tally steps s d)
    by_step EventsEnd = refl
    by_step EventBroken = refl
    by_step (EventSkip n) = refl
    by_step (Has e n) = refl

information_takes : (s : List ℕ) (steps : ℕ) (c : Cursor)
    → information_tally (suc steps) s c ≡ on_step c (information_next_of (information_step s c.at)) (λ d. information_tally steps s d)
unfolding information_tally information_next
information_takes s steps c = by_step (information_step s c.at)
  where
    by_step : (x : InformationStep) → on_information (information_counted c x) (λ d. information_tally steps s d) ≡ on_step c (information_next_of x) (λ d. information_tally steps s d)
    by_step End = refl
    by_step Broken = refl
    by_step (Skip n) = refl
    by_step (Local i n) = refl
    by_step (Remote i n) = refl

-- Who takes the steps of a body from its start, more of them than it has octets, meets exactly what the walk meets: beside each
-- part stands the number that was skipped before it, and at the end the number of all.
pub steps_give_counts : (s : List ℕ) → length s < 2 ^ 64 → (steps : ℕ) → length s < steps
    → (event_tally steps s start ≡ tally_of (event_walk s)) × (information_tally steps s start ≡ tally_of (information_walk s))
unfolding event_walk information_walk
steps_give_counts s small steps h = (
  counts (λ at. next_of (event_step s at)) (length s) (event_leads s) small (λ n c. event_tally n s c) (event_takes s) steps h,
  counts (λ at. information_next_of (information_step s at)) (length s) (information_leads s) small (λ n c. information_tally n s c) (information_takes s) steps h,
)

-- ---- whether any is skipped

-- none is skipped exactly where nothing is passed over
pub none_skipped : {P : Type 0} (w : Walk P) → (skipped_in w ≡ 0 → Over w → ⊥) × ((Over w → ⊥) → skipped_in w ≡ 0)
none_skipped ends = (λ _ o. o, λ _. refl)
none_skipped breaks = (λ _ o. o, λ _. refl)
none_skipped (over w) = (λ z _. absurd (omega arith), λ none. absurd (none tt))
none_skipped (part p w) = none_skipped w

-- ---- how many there can be

-- what holds at every mark, where an unknown TLV has at least its type and length octets
by_mark : (kind : Kind) (s : List ℕ) (at : ℕ) (Q : Mark → Type 0) → Q MarkEnd → Q MarkBroken → ((n : ℕ) → at + 2 ≤ n → Q (Unknown n))
    → ((t n : ℕ) → Q (Known t n)) → Q (mark_at kind s at)
unfolding mark_at
by_mark kind s at Q at_end at_broken at_unknown at_known = by_tlv (tlv_at s at) (tlv_within s at)
  where
    by_tlv : (x : Tlv) → Within at (length s) x → Q (marked kind x)
    by_tlv TlvEnd h = at_end
    by_tlv TlvBroken h = at_broken
    by_tlv (At t n next) h =
        by_cond Q (eqb (known kind t) 0) (λ _. at_unknown next (omega arith)) (λ _. by_cond Q (eqb n (known kind t)) (λ _. at_known t next) (λ _. at_broken))

-- what is skipped has two octets or more
abbrev Wide : {P : Type 0} → ℕ → Next P → Type 0
Wide at stop = Unit
Wide at broken = Unit
Wide at (skip n) = at + 2 ≤ n
Wide at (has p n) = Unit

event_wide : (s : List ℕ) (at : ℕ) → Wide at (next_of (event_step s at))
unfolding event_step
event_wide s at = by_mark Events s at (λ m. Wide at (next_of (step_of s at m))) tt tt (λ n h. h) (λ t n. tt)

information_wide : (s : List ℕ) (at : ℕ) → Wide at (information_next_of (information_step s at))
unfolding information_step
information_wide s at =
    by_mark InformationKind s at (λ m. Wide at (information_next_of (information_step_of s at m))) tt tt (λ n h. h)
    (λ t n. by_cond (λ (x : InformationStep). Wide at (information_next_of x)) (eqb t 1) (λ _. tt) (λ _. tt))

-- so a body has twice as many octets as TLVs are skipped in it
module _ {P : Type 0} (next : ℕ → Next P) (len : ℕ) (leads : Leads next len) (wide : (at : ℕ) → Wide at (next at)) where
  passed : (go : ℕ → Walk P) → ((n : ℕ) → n ≤ len → n + 2 * skipped_in (go n) ≤ len) → (at : ℕ) → at ≤ len
      → (x : Next P) → Ahead at len x → Wide at x → at + 2 * skipped_in (on_next x go) ≤ len
  passed go h at l stop a w = omega arith
  passed go h at l broken a w = omega arith
  passed go h at l (skip n) a w = omega (arith, h n a.1)
  passed go h at l (has p n) a w = omega (arith, h n a.1)

  twice_from : (steps at : ℕ) → at ≤ len → at + 2 * skipped_in (walk next steps at) ≤ len
  unfolding walk
  twice_from zero at l = omega arith
  twice_from (suc steps) at l = passed (λ n. walk next steps n) (twice_from steps) at l (next at) (leads.ahead at) (wide at)

event_twice : (s : List ℕ) → 2 * skipped_in (event_walk s) ≤ length s
unfolding event_walk
event_twice s = omega (arith, twice_from (λ at. next_of (event_step s at)) (length s) (event_leads s) (event_wide s) (length s) 0 (omega arith))

information_twice : (s : List ℕ) → 2 * skipped_in (information_walk s) ≤ length s
unfolding information_walk
information_twice s =
    omega (arith, twice_from (λ at. information_next_of (information_step s at)) (length s) (information_leads s) (information_wide s) (length s) 0 (omega arith))

few_in : (f : List ℕ) → length f ≤ longest_frame → (b : Body) → skipped_by f b ≤ most_skipped b
few_in f short (information ps) = omega (arith, information_twice (drop body_start f), length-drop body_start f)
few_in f short (notification n es) = omega (arith, event_twice (drop events_start f), length-drop events_start f)
few_in f short (request ds) = omega arith
few_in f short (response cs) = omega arith
few_in f short (loopback n) = omega arith
few_in f short (organization oui x) = omega arith

-- no message tells of more than there is room for
pub few_skipped : (f : List ℕ) (m : Message) → decode f ≡ accepted m → m.skipped ≤ most_skipped m.body
few_skipped f m e = rw (decode_counts f m e) (few_in f (header_accepted f m e).short m.body)

-- ---- examples

pub skips_hold : all_found rows ≡ all_expected rows
unfolding decode header_answer body_answer header_octets information_walk information_step event_walk event_step event_length mark_at tlv_at walk
skips_hold = refl
