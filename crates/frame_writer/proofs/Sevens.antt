-- Laws of events that are lent as seven numbers.
use Prim.Native.Nat.{ℕ, zero, suc, ◌+◌, ◌-◌, ◌*◌, ◌/◌, ◌%◌, ◌^◌, ◌<◌, ◌≤◌}
use mathlib.Core.Path.{◌≡◌, refl, sym, ap, ◌∙◌}
use mathlib.Core.List.{List, [], ◌∷◌}
use mathlib.Core.Bool.{Bool, true, false, cond, ◌&&◌}
use native.Mathlib.Nat.{zero-add}
use native.Mathlib.Omega.{arith}
use borrow.Author.Tests.{eqb-true, leb-true, le-leb, lt-ltb, le-ltb, ne_eqb, eq-eqb}
use lib.Dec.{leb, eqb}
use lib.ListN.{length, get_or, take, drop, length-take, length-drop}
use lib.Seq.{sets, drop-drop}
use Rattle.std.specs.Prelude.{Option, None, Some}
use Rattle.std.specs.Simd.{first_chunks}
use Rattle.octets.specs.Octets.{octs, fit}
use Rattle.frame_tlvs.specs.Tlvs.{row, event_widths, event_length}
use Rattle.frame_tlvs.specs.declared.Event.{Event}
use Rattle.frame.specs.Frame.{notification}
use Rattle.frame_writer.specs.Encode.{event_values, event_octets, joined}
use Rattle.octets.specs.Tests.{between, every}
use Rattle.frame_writer.specs.Plain.{plain_event, most_events, plain_events, events_length, plain_body, some_octets}
use Rattle.frame_writer.specs.Writing.{event_from, plain_seven, events_from, events_of, measured_events, measured_seven}
use Rattle.octets.proofs.Bools.{never, and_l, and_r}
use Rattle.octets.proofs.Stores.{sets-append}
use Rattle.frame_writer.proofs.Lengths.{tabled, events_short}

-- what holds of every list of seven numbers and more
pub by_cells : (P : List ℕ → Type 0) → ((a b c d e f g : ℕ) (x : List ℕ) → P (a ∷ b ∷ c ∷ d ∷ e ∷ f ∷ g ∷ x)) → (vs : List ℕ) → 7 ≤ length vs → P vs
by_cells P h [] l = absurd (omega arith)
by_cells P h (a ∷ []) l = absurd (omega arith)
by_cells P h (a ∷ b ∷ []) l = absurd (omega arith)
by_cells P h (a ∷ b ∷ c ∷ []) l = absurd (omega arith)
by_cells P h (a ∷ b ∷ c ∷ d ∷ []) l = absurd (omega arith)
by_cells P h (a ∷ b ∷ c ∷ d ∷ e ∷ []) l = absurd (omega arith)
by_cells P h (a ∷ b ∷ c ∷ d ∷ e ∷ f ∷ []) l = absurd (omega arith)
by_cells P h (a ∷ b ∷ c ∷ d ∷ e ∷ f ∷ g ∷ x) l = h a b c d e f g x

-- the six values after the type
pub six_values : (vs : List ℕ) → length vs ≡ 7 → drop 1 vs ≡ event_values (event_from vs)
six_values vs l = by_cells (λ (x : List ℕ). length x ≡ 7 → drop 1 x ≡ event_values (event_from x)) cells vs (omega arith) l
  where
    cells : (a b c d e f g : ℕ) (x : List ℕ) → suc (suc (suc (suc (suc (suc (suc (length x))))))) ≡ 7
        → b ∷ c ∷ d ∷ e ∷ f ∷ g ∷ x ≡ b ∷ c ∷ d ∷ e ∷ f ∷ g ∷ []
    cells a b c d e f g [] k = refl
    cells a b c d e f g (y ∷ x) k = absurd (omega arith)

-- what the test of a range tells
pub is_between : (least most n : ℕ) → between least most n ≡ true → (least ≤ n) × (n ≤ most)
is_between least most n t = (leb-true least n (and_l _ _ t), leb-true n most (and_r _ _ t))

-- the widths of a type in the table are its row
pub widths_row : (t : ℕ) → 0 < t → t ≤ 4 → event_widths t ≡ row t
unfolding event_widths
widths_row t l h = simp (ne_eqb t 0 (λ e. omega arith), le-ltb 4 t h)

-- what an event in plain form is
pub record Seven (vs : List ℕ) : Type 0 where
  pub long : length vs ≡ 7
  pub least : 0 < get_or vs 0 0
  pub most : get_or vs 0 0 ≤ 4
  pub fits : fit (row (get_or vs 0 0)) (event_values (event_from vs)) ≡ true

pub seven_is : (vs : List ℕ) → plain_seven vs ≡ true → Seven vs
unfolding plain_seven
seven_is vs h = by (eqb (length vs) 7) refl h
  where
    by : (b : Bool) → eqb (length vs) 7 ≡ b → cond b (plain_event (event_from vs)) false ≡ true → Seven vs
    by true l p =
        let t = tabled (event_from vs) p in
        record { long = eqb-true (length vs) 7 l; least = t.least; most = t.most; fits = t.fits }
    by false l p = never p

-- seven numbers of a type in the table are plain where their values fit
pub fits_plain : (vs : List ℕ) → length vs ≡ 7 → 0 < get_or vs 0 0 → get_or vs 0 0 ≤ 4 → fit (event_widths (get_or vs 0 0)) (drop 1 vs) ≡ plain_seven vs
unfolding plain_seven plain_event
fits_plain vs l a b =
    rw (widths_row (get_or vs 0 0) a b, six_values vs l)
    (simp (eq-eqb (length vs) 7 l, le-leb 1 (get_or vs 0 0) a, le-leb (get_or vs 0 0) 4 b))

-- and of a type that is not in the table they are not
pub untyped : (vs : List ℕ) → length vs ≡ 7 → between 1 4 (get_or vs 0 0) ≡ false → false ≡ plain_seven vs
unfolding plain_seven plain_event
untyped vs l h = rw (eq-eqb (length vs) 7 l, h)

-- what `put_event` stores are the octets of the event
pub event_octets_lem : (vs : List ℕ) → Seven vs
    → octs (1 ∷ 1 ∷ row (get_or vs 0 0)) (get_or vs 0 0 ∷ event_length (get_or vs 0 0) ∷ drop 1 vs) ≡ event_octets (event_from vs)
unfolding event_octets
event_octets_lem vs s =
    let k = get_or vs 0 0 in
    ap (λ (values : List ℕ). octs (1 ∷ 1 ∷ row k) (k ∷ event_length k ∷ values)) (six_values vs s.long)

-- ---- a turn of a loop over events

-- the numbers of the i-th event, as they are lent, and the events from the i-th of n on
abbrev pub seven_at : List ℕ → ℕ → List ℕ
seven_at vs i = take (i * 7 + 7 - i * 7) (drop (i * 7) vs)

abbrev pub onward : List ℕ → ℕ → ℕ → List Event
onward vs n i = events_from (n - i) (drop (i * 7) vs)

-- of all that the numbers are
abbrev pub left_from : List ℕ → ℕ → List Event
left_from vs i = onward vs (length vs / 7) i

-- what is measured of events after a sum
abbrev pub summed : ℕ → List Event → ℕ
summed sum es = cond (every plain_event es) (sum + events_length es) 0

module _ (vs : List ℕ) (n i : ℕ) (h : i < n) (k : n * 7 ≤ length vs) where
  -- there are seven
  all_seven : length (seven_at vs i) ≡ 7
  all_seven = omega (arith, length-take (i * 7 + 7 - i * 7) (drop (i * 7) vs), length-drop (i * 7) vs)

  -- they are the first of the events that are left
  split : onward vs n i ≡ event_from (seven_at vs i) ∷ onward vs n (i + 1)
  split =
      let left : n - i ≡ suc (n - (i + 1)) = omega arith in
      let part : i * 7 + 7 - i * 7 ≡ 7 = omega arith in
      let next : i * 7 + 7 ≡ (i + 1) * 7 = omega arith in
      let first : event_from (take 7 (drop (i * 7) vs)) ≡ event_from (drop (i * 7) vs) =
      by_cells (λ (x : List ℕ). event_from (take 7 x) ≡ event_from x) (λ a b c d e f g x. refl) (drop (i * 7) vs) (omega (arith, length-drop (i * 7) vs)) in
      rw (left, part) (λ j. sym first j ∷ events_from (n - (i + 1)) ((drop-drop 7 (i * 7) vs ∙ ap (λ (m : ℕ). drop m vs) next) j))

  abbrev event_at : Event
  event_at = event_from (seven_at vs i)

  -- what is measured from it on: nothing where it is not plain
  pub next_summed : (sum octets : ℕ) → octets ≡ measured_seven (seven_at vs i)
      → (summed sum (onward vs n i) ≡ cond (eqb octets 0) 0 (summed (sum + octets) (onward vs n (i + 1)))) × (octets ≤ 40)
  unfolding measured_seven plain_seven
  next_summed sum octets e = by (plain_event event_at) refl (e ∙ rw (eq-eqb (length (seven_at vs i)) 7 all_seven))
    where
      by : (b : Bool) → plain_event event_at ≡ b → octets ≡ cond b (event_length event_at.kind) 0
          → (summed sum (onward vs n i) ≡ cond (eqb octets 0) 0 (summed (sum + octets) (onward vs n (i + 1)))) × (octets ≤ 40)
      by true p z =
          let t = tabled event_at p in
          let a : sum + (event_length event_at.kind + events_length (onward vs n (i + 1))) ≡ sum + octets + events_length (onward vs n (i + 1)) = omega arith in
          (rw (split, p, ne_eqb octets 0 (λ y. omega (arith, t.sized)), a), omega (arith, t.short))
      by false p z = (rw (split, p, eq-eqb octets 0 z), omega arith)

-- a chunk of seven numbers
chunk : (n i : ℕ) (vs : List ℕ) → i < n → get_or (first_chunks 7 n vs) i [] ≡ take 7 (drop (i * 7) vs)
chunk zero i vs h = absurd (omega arith)
chunk (suc n) zero vs h = refl
chunk (suc n) (suc i) vs h =
    let e : 7 + i * 7 ≡ suc i * 7 = omega arith in
    chunk n i (drop 7 vs) (omega arith) ∙ ap (take 7) (drop-drop (i * 7) 7 vs ∙ ap (λ (k : ℕ). drop k vs) e)

module _ (vs : List ℕ) {sevens : List (List ℕ)} (e : sevens ≡ first_chunks 7 (length vs / 7) vs) (i : ℕ) (h : i < length vs / 7) where
  -- the i-th event's numbers, and the event
  abbrev seven : List ℕ
  seven = get_or sevens i []

  abbrev event : Event
  event = event_from seven

  seven_is_chunk : seven ≡ seven_at vs i
  seven_is_chunk =
      let part : i * 7 + 7 - i * 7 ≡ 7 = omega arith in
      ap (λ (x : List (List ℕ)). get_or x i []) e ∙ chunk (length vs / 7) i vs h ∙ rw part

  -- it is the first of the events that are left
  split_left : left_from vs i ≡ event ∷ left_from vs (i + 1)
  split_left = rw seven_is_chunk (split vs (length vs / 7) i h (omega arith))

  -- whether it is plain
  plain_is : plain_seven seven ≡ plain_event event
  unfolding plain_seven
  plain_is = rw (eq-eqb (length seven) 7 (ap length seven_is_chunk ∙ all_seven vs (length vs / 7) i h (omega arith)))

  pub event_short : plain_seven seven ≡ true → (1 ≤ event_length event.kind) × (event_length event.kind ≤ 40)
  event_short t = let t = tabled event (sym plain_is ∙ t) in (omega (arith, t.sized), t.short)

  -- what is measured from it on, by whether it is plain
  pub none_summed : (sum : ℕ) → plain_seven seven ≡ false → summed sum (left_from vs i) ≡ 0
  unfolding measured_seven
  none_summed sum f = (next_summed vs (length vs / 7) i h (omega arith) sum 0 (rw (← seven_is_chunk, f))).0

  pub plain_summed : (sum : ℕ) → plain_seven seven ≡ true → summed sum (left_from vs i) ≡ summed (sum + event_length event.kind) (left_from vs (i + 1))
  unfolding measured_seven
  plain_summed sum t =
      let n = event_length event.kind in
      let some : eqb n 0 ≡ false = ne_eqb n 0 (λ z. omega (arith, z, event_short t)) in
      (next_summed vs (length vs / 7) i h (omega arith) sum n (rw (← seven_is_chunk, t))).0 ∙ rw some

  -- where all that are left are plain: that it is, and what is stored from it on
  pub record Stored : Type 0 where
    pub plain : plain_seven seven ≡ true
    pub long : events_length (left_from vs i) ≡ event_length event.kind + events_length (left_from vs (i + 1))
    pub rest : every plain_event (left_from vs (i + 1)) ≡ true
    pub stored : (l : List ℕ) (at : ℕ) → sets l at (joined event_octets (left_from vs i))
        ≡ sets (sets l at (event_octets event)) (at + event_length event.kind) (joined event_octets (left_from vs (i + 1)))

  pub next_stored_lem : every plain_event (left_from vs i) ≡ true → Stored
  next_stored_lem p =
      let all : (plain_event event && every plain_event (left_from vs (i + 1))) ≡ true = sym (ap (every plain_event) split_left) ∙ p in
      let first : plain_event event ≡ true = search and_l in
      record {
        plain = plain_is ∙ first;
        long = ap events_length split_left;
        rest = search and_r;
        stored =
            λ l at.
            ap (λ (es : List Event). sets l at (joined event_octets es)) split_left
            ∙ sets-append l at (event_octets event) (joined event_octets (left_from vs (i + 1)))
            ∙ rw (tabled event first).long;
      }

-- ---- events as a list of numbers

length_from : (n : ℕ) (vs : List ℕ) → length (events_from n vs) ≡ n
length_from zero vs = refl
length_from (suc n) vs = ap suc (length_from n (drop 7 vs))

-- numbers that are no whole events are not measured
pub uneven : (vs : List ℕ) → (length vs % 7 ≡ 0 → ⊥) → measured_events (events_of vs) ≡ 0
unfolding events_of measured_events
uneven vs h = rw (ne_eqb (length vs % 7) 0 h)

-- whole ones are, where there are 1 to 16
pub even : (vs : List ℕ) → length vs % 7 ≡ 0 → {b : Bool} → b ≡ between 1 most_events (length vs / 7)
    → measured_events (events_of vs) ≡ cond b (summed 0 (events_from (length vs / 7) vs)) 0
unfolding events_of measured_events
even vs h {b = true} e = rw (eq-eqb (length vs % 7) 0 h, length_from (length vs / 7) vs, sym e, zero-add)
even vs h {b = false} e = rw (eq-eqb (length vs % 7) 0 h, length_from (length vs / 7) vs, sym e)

-- what the plain form says of a list of numbers
pub record Eventful (vs : List ℕ) : Type 0 where
  pub every_plain : every plain_event (events_from (length vs / 7) vs) ≡ true
  pub are : events_of vs ≡ events_from (length vs / 7) vs

pub eventful : (vs : List ℕ) → plain_events (events_of vs) ≡ true → Eventful vs
unfolding events_of
eventful vs h = by (eqb (length vs % 7) 0) refl h
  where
    by : (b : Bool) → eqb (length vs % 7) 0 ≡ b → plain_events (cond b (events_from (length vs / 7) vs) []) ≡ true → Eventful vs
    by true e p = record { every_plain = search and_r; are = rw e }
    by false e p = never p

-- ---- a notification by the measure of its events

-- events in plain form have some octets
some_events : (es : List Event) → plain_events es ≡ true → 0 < events_length es
some_events [] p = never p
some_events (e ∷ es) p =
    let first : plain_event e ≡ true = search (and_l, and_r) in
    omega (arith, (tabled e first).sized)

module _ (n : ℕ) (es : List Event) (h : n < 256 ^ 2) where
  -- it has no plain form where its events are not measured: its number fits by its type
  pub measured_none : None ≡ some_octets (measured_events es) → plain_body (notification n es) ≡ false
  unfolding measured_events
  measured_none e = rw (lt-ltb n (256 ^ 2) h) (by (plain_events es) refl e)
    where
      by : (b : Bool) → plain_events es ≡ b → None ≡ some_octets (cond b (events_length es) 0) → plain_events es ≡ false
      by false f k = f
      by true t k =
          let some = ne_eqb (events_length es) 0 (λ z. omega (arith, some_events es t)) in
          let k' : ◌≡◌ {A = Option ℕ} None (Some (events_length es)) = rw some at k in
          cc

  -- what is said of a notification whose events are measured
  pub record Measured (octets : ℕ) : Type 0 where
    pub plain : plain_body (notification n es) ≡ true
    pub long : octets ≡ events_length es
    pub short : octets ≤ 40 * most_events

  pub measured_some : {octets : ℕ} → Some octets ≡ some_octets (measured_events es) → Measured octets
  unfolding measured_events
  measured_some {octets} e = by (plain_events es) refl e
    where
      by : (b : Bool) → plain_events es ≡ b → Some octets ≡ some_octets (cond b (events_length es) 0) → Measured octets
      by false f k = cc
      by true t k =
          let some = ne_eqb (events_length es) 0 (λ z. omega (arith, some_events es t)) in
          let k' : ◌≡◌ {A = Option ℕ} (Some octets) (Some (events_length es)) = rw some at k in
          let long : octets ≡ events_length es = cc in
          let few : leb (length es) most_events ≡ true = search (and_l, and_r) in
          let all : every plain_event es ≡ true = search and_r in
          record {
            plain = rw (lt-ltb n (256 ^ 2) h, t);
            long = long;
            short = omega (arith, leb-true (length es) most_events few, events_short es all);
          }

-- a notification in plain form has such events
pub plain_events_of : (n : ℕ) (es : List Event) → plain_body (notification n es) ≡ true → plain_events es ≡ true
plain_events_of n es h = and_r _ _ h
