-- A frame that is read, alone or with its parts: what is stored where it is refused, and where it is accepted.
use Prim.Native.Nat.{ℕ, ◌*◌, ◌≤◌, ◌<◌}
use mathlib.Core.Path.{◌≡◌, refl, sym, ap, subst, ◌∙◌}
use mathlib.Core.Bool.{Bool, true, false, cond}
use mathlib.Core.List.{List, []}
use native.Mathlib.Omega.{arith}
use borrow.Author.Tests.{lt-ltb, le-ltb}
use lib.Dec.{ltb}
use lib.ListN.{length, get_or, length-map}
use lib.Seq.{sets}
use Rattle.frame.specs.Frame.{Message, Answer, refused, accepted, decode, judgement_of, header_of, fixed_number}
use Rattle.frame.specs.declared.Header.{Header}
use Rattle.frame.specs.Judgement.{Refused, Accepted}
use Rattle.frame.proofs.Decoding.{header_long, header_short}
use Rattle.frame.proofs.Stepping.{shown, refused_number}
use Rattle.frame.proofs.Judging.{judged_refused, judged_accepted}
use Rattle.oam_showing.specs.Showing.{Shown, shows, Showing}
use Rattle.oam_showing.specs.Parts.{rows_of, stored_rows}
use Rattle.oam_showing.specs.Reading.{header_numbers, header_shown, count_in, answer_shown, frame_shown, AllShown, refuses, answer_all, all_shown, ShowingAll}
use Rattle.oam_showing.specs.Storing.{row_at, rows_from, start_of, StoringRows}
use Rattle.oam_showing.proofs.Untouched.{untouched}
use Rattle.oam_showing.proofs.Taking.{rows_counted, rows_by_code, few}

-- a header and a number that are the message's
header_shown_lem : {h i : Header} {n k : ℕ} {entry : List ℕ} {answer : ℕ} {exit : List ℕ} → h ≡ i → n ≡ k
    → Showing (header_shown h n) entry answer exit → Showing (header_shown i k) entry answer exit
header_shown_lem {entry = entry} {answer = answer} {exit = exit} e d shown = subst (λ (x : Shown). Showing x entry answer exit) (λ i. header_shown (e i) (d i)) shown

-- what is shown of a frame by the header's room and its judgement
module _ (f header : List ℕ) where
  pub shows_short : length header < header_numbers → Showing (frame_shown f (length header)) header 9 header
  unfolding frame_shown
  shows_short h = rw (lt-ltb (length header) header_numbers h) untouched

  module _ (room : header_numbers ≤ length header) where
    pub shows_refusal : (n : ℕ) → judgement_of f ≡ Refused n → Showing (frame_shown f (length header)) header n header
    unfolding frame_shown
    shows_refusal n j = rw (le-ltb (length header) header_numbers room, judged_refused f n j) untouched

    pub shows_accepted : (at skipped : ℕ) → judgement_of f ≡ Accepted at skipped → {h : Header} {n answer : ℕ} {exit : List ℕ} → h ≡ header_of f skipped → n ≡ fixed_number f
        → Showing (header_shown h n) header answer exit → Showing (frame_shown f (length header)) header answer exit
    unfolding frame_shown
    shows_accepted at skipped j e d s =
        let is = (judged_accepted f at skipped j).1 in
        rw (le-ltb (length header) header_numbers room, is.decoded) (header_shown_lem (e ∙ is.header) (d ∙ is.number) s)

  -- a refusal is no 0
  pub refused_some : (n : ℕ) → judgement_of f ≡ Refused n → n ≡ 0 → ⊥
  refused_some n j z = absurd (omega (arith, (refused_number f n (judged_refused f n j)).0))

-- what is shown by both, where the header's room and the answer to the frame are such
abbrev showing : Bool → Answer → Shown
showing short x = cond short (shows 9 []) (answer_shown x)

abbrev all_showing : List ℕ → ℕ → ℕ → Bool → Answer → AllShown
all_showing f first room short x = cond short (refuses 9) (answer_all f first room x)

-- ---- a refusal

refused_all : (f : List ℕ) (first room : ℕ) (short : Bool) (x : Answer) → ((showing short x).answer ≡ 0 → ⊥)
    → record { result = (showing short x).answer; header = (showing short x).numbers; rows = [] } ≡ all_showing f first room short x
refused_all f first room true x h = refl
refused_all f first room false (refused n) h = refl
refused_all f first room false (accepted m) h = absurd (h refl)

pub refusing : (f : List ℕ) (first : ℕ) (header rows : List ℕ) {answer : ℕ} {header_exit : List ℕ}
    → Showing (frame_shown f (length header)) header answer header_exit → (answer ≡ 0 → ⊥)
    → ShowingAll (all_shown f first (length header) (length rows)) header rows answer header_exit rows
unfolding frame_shown all_shown
refusing f first header rows h refuses =
    let e = refused_all f first (length rows) (ltb (length header) header_numbers) (decode f) (λ z. refuses (h.answers ∙ z)) in
    record {
      results = h.answers ∙ ap (λ (x : AllShown). x.result) e;
      headed = h.stored ∙ ap (λ (x : AllShown). sets header 0 x.header) e;
      stored = ap (λ (x : AllShown). sets rows 0 x.rows) e;
    }

-- ---- a frame that is accepted

-- its message, and all that is shown
pub record Accepting (f : List ℕ) (first header_room room : ℕ) : Type 0 where
  pub message : Message
  pub accepts : decode f ≡ accepted message
  pub all : record { result = count_in message.body * 256; header = (frame_shown f header_room).numbers; rows = stored_rows first room (rows_of f message.body) } ≡ all_shown f first header_room room

accepted_by : (f : List ℕ) (first room : ℕ) (short : Bool) (x : Answer) → decode f ≡ x → (showing short x).answer ≡ 0
    → (m : Message) × (decode f ≡ accepted m)
    × (record { result = count_in m.body * 256; header = (showing short x).numbers; rows = stored_rows first room (rows_of f m.body) } ≡ all_showing f first room short x)
accepted_by f first room true x e h = absurd (omega (arith, h))
accepted_by f first room false (refused n) e h = absurd (omega (arith, h, (refused_number f n e).0))
accepted_by f first room false (accepted m) e h = (m, e, refl)

accepted_all : (f : List ℕ) (first header_room room : ℕ) → (frame_shown f header_room).answer ≡ 0 → Accepting f first header_room room
unfolding frame_shown all_shown
accepted_all f first header_room room h =
    let a = accepted_by f first room (ltb header_room header_numbers) (decode f) refl h in
    record { message = a.0; accepts = a.1; all = a.2 }

-- its length
pub message_length : (f : List ℕ) (m : Message) → decode f ≡ accepted m → (60 ≤ length f) × (length f ≤ 1514)
message_length f m e = let passed = (shown f m e).passed in (header_long f passed, header_short f passed)

pub accepted_length : (f : List ℕ) (header_room : ℕ) → (frame_shown f header_room).answer ≡ 0 → (60 ≤ length f) × (length f ≤ 1514)
accepted_length f header_room h = let a = accepted_all f 0 header_room 0 h in message_length f a.message a.accepts

pub accepting : (f : List ℕ) (first : ℕ) (header rows : List ℕ) {answer from count : ℕ} {header_exit rows_exit : List ℕ}
    → Showing (frame_shown f (length header)) header answer header_exit → answer ≡ 0
    → from ≡ start_of (get_or f 17 0) → StoringRows (rows_from (get_or f 17 0) f from) first rows count rows_exit
    → ShowingAll (all_shown f first (length header) (length rows)) header rows (count * 256) header_exit rows_exit
accepting f first header rows h z b s =
    let a = accepted_all f first (length header) (length rows) (sym h.answers ∙ z) in
    let e = ap (λ (from : ℕ). rows_from (get_or f 17 0) f from) b ∙ rows_by_code f a.message a.accepts in
    record {
      results = ap (λ (n : ℕ). n * 256) (s.counted ∙ ap length e ∙ rows_counted f a.message a.accepts) ∙ ap (λ (x : AllShown). x.result) a.all;
      headed = h.stored ∙ ap (λ (x : AllShown). sets header 0 x.header) a.all;
      stored = s.stored ∙ ap (λ (l : List (List ℕ)). sets rows 0 (stored_rows first (length rows) l)) e ∙ ap (λ (x : AllShown). sets rows 0 x.rows) a.all;
    }

-- its rows are few
pub few_rows : (f : List ℕ) (code at : ℕ) → length (rows_from code f at) ≤ length f
few_rows f code at = rw length-map (few (λ n. row_at code f n) (length f) at 0)
