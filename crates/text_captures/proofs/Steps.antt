-- How a call goes on over a piece: the octets before the last one that is awaited, and that one.
use Rattle.std.proofs.Common.{◌≡◌, ℕ, suc, ◌+◌, ◌-◌, ◌^◌, ◌<◌, ◌≤◌, min, true, false, List, [], ◌∷◌, ◌++◌, length, get_or, take, drop, set, sym, refl, ap, ◌∙◌, append-nil, add-zero, add-one, arith, length-drop, length-set, take-append-drop, length-take-le, drop-drop, le-ltb, eq-eqb, ne_eqb}
use lib.Seq.{sets, length-sets}
use Rattle.text.specs.Put.{Put, Stored}
use Rattle.text.specs.Pieces.{Fed, fed_from, Stage, gone_on, stage_after, stage, Feeds}
use Rattle.text.proofs.Puts.{fitting}
use Rattle.text.proofs.Stages.{ended, stopped, one_further}
use Rattle.text_listing.specs.Rows.{row_room}
use Rattle.text_captures.specs.declared.progress.Awaited.{Awaited}
use Rattle.text_captures.specs.declared.progress.Awaited.TheVariants.{FileHeader, RecordHeader, Frame, Nothing}
use Rattle.text_captures.specs.declared.progress.Progress.{Progress}
use Rattle.text.specs.declared.pieces.Place.{Place}
use Rattle.text_captures.specs.Feeding.{is_stopped, wanted, ahead, is_last, with_filled, acted, Acted, row_said, State, captures, Leads, Collects}

-- a call that has come to a progress and a working frame at a place of a piece
abbrev reached : Progress → List ℕ → ℕ → List ℕ → Fed State
reached p f at said = record { state = record { progress = p; frame = f }; taken = at; said = said }

-- no more octets are awaited than a record's length can say
pub wanted_small : (awaited : Awaited) (stored : ℕ) → stored < 2 ^ 32 → wanted awaited stored < 2 ^ 32
wanted_small FileHeader stored h = omega arith
wanted_small RecordHeader stored h = omega arith
wanted_small Frame stored h = h
wanted_small Nothing stored h = omega arith

-- ---- before the last octet

one_collected : (p : Progress) (f : List ℕ) (room at : ℕ) (said : List ℕ) (c : ℕ) (rest : List ℕ) → is_stopped p.awaited ≡ false → 0 < ahead p
    → fed_from captures room (reached p f at said) (c ∷ rest) ≡ fed_from captures room (reached (with_filled p (p.filled + 1)) (set f p.filled c) (at + 1) said) rest
unfolding fed_from
one_collected p f room at said c rest going more =
    simp (going, ne_eqb (ahead p) 0 (λ e. absurd (omega (arith, e))), le-ltb (room - length said) 0 (omega arith), append-nil said)

all_collected : (octets rest : List ℕ) (p : Progress) (f : List ℕ) (room at : ℕ) (said : List ℕ) → is_stopped p.awaited ≡ false → length octets ≤ ahead p
    → fed_from captures room (reached p f at said) (octets ++ rest)
    ≡ fed_from captures room (reached (with_filled p (p.filled + length octets)) (sets f p.filled octets) (at + length octets) said) rest
all_collected [] rest p f room at said going few = rw (add-zero p.filled, add-zero at)
all_collected (c ∷ octets) rest p f room at said going few =
    let filled : p.filled + 1 + length octets ≡ p.filled + suc (length octets) = omega arith in
    let place : at + 1 + length octets ≡ at + suc (length octets) = omega arith in
    one_collected p f room at said c (octets ++ rest) going (omega arith)
    ∙ all_collected octets rest (with_filled p (p.filled + 1)) (set f p.filled c) room (at + 1) said going (omega arith)
    ∙ rw (filled, place, add-one p.filled)

-- a piece from a place on, in two parts
in_two : (piece : List ℕ) (at count : ℕ) → drop at piece ≡ take count (drop at piece) ++ drop (at + count) piece
in_two piece at count = sym (take-append-drop count (drop at piece)) ∙ ap (λ (rest : List ℕ). take count (drop at piece) ++ rest) (drop-drop count at piece)

module _ (piece : List ℕ) (p : Progress) (f : List ℕ) (at : ℕ) (going : is_stopped p.awaited ≡ false) where
  -- so many octets of a piece
  octets_collected : (count : ℕ) → count ≤ ahead p → at + count ≤ length piece
      → Leads piece p f at (with_filled p (p.filled + count)) (sets f p.filled (take count (drop at piece))) (at + count)
  unfolding gone_on
  octets_collected count few within waiting out =
      let octets = take count (drop at piece) in
      let many : length octets ≡ count = length-take-le count (drop at piece) (omega (arith, length-drop at piece)) in
      let room = length out - waiting in
      let all : fed_from captures room (reached p f at []) (drop at piece)
      ≡ fed_from captures room (reached (with_filled p (p.filled + count)) (sets f p.filled octets) (at + count) []) (drop (at + count) piece) =
      ap (fed_from captures room (reached p f at [])) (in_two piece at count)
      ∙ all_collected octets (drop (at + count) piece) p f room at [] going (omega (arith, many)) ∙ rw many in
      ap (stage_after (stage p (record { taken = at; waiting = waiting }) f out)) all

  -- as many as come before the last one that is awaited, or as the piece has
  pub collects : (count : ℕ) → count ≡ min (ahead p) (length piece - at) → at ≤ length piece
      → Collects piece p f at (with_filled p (p.filled + count)) (sets f p.filled (take count (drop at piece))) (at + count)
  collects count is within =
      record {
        onward = omega arith;
        within = omega arith;
        leads = octets_collected count (omega arith) (omega arith);
        stops = λ h. simp (going, eq-eqb (ahead (with_filled p (p.filled + count))) 0 (omega arith));
      }

-- ---- where nothing is awaited

module _ (p : Progress) (f : List ℕ) (stopped : is_stopped p.awaited ≡ true) where
  all_passed : (octets : List ℕ) (room at : ℕ) (said : List ℕ) → fed_from captures room (reached p f at said) octets ≡ reached p f (at + length octets) said
  unfolding fed_from
  all_passed [] room at said = rw (add-zero at)
  all_passed (c ∷ octets) room at said =
      let place : at + 1 + length octets ≡ at + suc (length octets) = omega arith in
      simp (stopped, le-ltb (room - length said) 0 (omega arith), append-nil said) (all_passed octets room (at + 1) said ∙ rw place)

  pub passes : (piece : List ℕ) (at : ℕ) → at ≤ length piece → Collects piece p f at p f (length piece)
  unfolding gone_on
  passes piece at within =
      record {
        onward = within;
        within = omega arith;
        leads = λ waiting out.
            let place : at + length (drop at piece) ≡ length piece = omega (arith, length-drop at piece) in
            rw (all_passed (drop at piece) (length out - waiting) at [], place, add-zero waiting)
            (sym (ended captures piece (stage p (record { taken = length piece; waiting = waiting }) f out) (omega arith)));
        stops = λ h. absurd (omega arith);
      }

-- ---- the last octet

completed : (piece : List ℕ) (p : Progress) (f : List ℕ) (at waiting : ℕ) (out : List ℕ) {r : Acted} {f' : List ℕ} {waiting' : ℕ} {out' : List ℕ}
    → is_last p ≡ true → at < length piece → row_room ≤ length out - waiting
    → f' ≡ set f p.filled (get_or piece at 0) → r ≡ acted p f' → Stored (row_said p.number r.said) out waiting waiting' out'
    → gone_on captures piece (stage p (record { taken = at; waiting = waiting }) f out)
    ≡ gone_on captures piece (stage r.progress (record { taken = at + 1; waiting = waiting' }) f' out')
completed piece p f at waiting out last within room frame is stored =
    one_further captures piece (stage p (record { taken = at; waiting = waiting }) f out) within (rw last room)
    ∙ rw (last, stored.next, stored.output, is, frame)

-- ---- where a call of `feed` stands

module _ (p₀ : Progress) (from : Place) (f₀ piece out₀ : List ℕ) where
  -- from here the call comes to the same as from its start
  pub record Stands (p : Progress) (taken waiting : ℕ) (f out : List ℕ) : Type 0 where
    pub same : gone_on captures piece (stage p₀ from f₀ out₀) ≡ gone_on captures piece (stage p (record { taken = taken; waiting = waiting }) f out)
    pub room : from.waiting ≤ length out₀ → waiting ≤ length out₀
    pub frames : length f ≡ length f₀
    pub outputs : length out ≡ length out₀

  -- at the start
  pub starts : Stands p₀ from.taken from.waiting f₀ out₀
  starts = record { same = refl; room = λ h. h; frames = refl; outputs = refl }

  module _ {f out : List ℕ} {p : Progress} {taken waiting : ℕ} (s : Stands p taken waiting f out) where
    -- after octets before the last one that is awaited
    pub goes : {q : Progress} {f' : List ℕ} {at : ℕ} → Collects piece p f taken q f' at → length f' ≡ length f → Stands q at waiting f' out
    goes c kept = record { same = s.same ∙ c.leads waiting out; room = s.room; frames = kept ∙ s.frames; outputs = s.outputs }

    -- after that one, and what is said
    pub says : {r : Acted} {f' out' : List ℕ} {waiting' : ℕ} → is_last p ≡ true → taken < length piece → row_room ≤ length out - waiting
        → f' ≡ set f p.filled (get_or piece taken 0) → r ≡ acted p f' → length (row_said p.number r.said) ≤ row_room
        → Put (row_said p.number r.said) out waiting waiting' out'
        → Stands r.progress (taken + 1) waiting' f' out'
    says {r} last within room frame is most put =
        let row = row_said p.number r.said in
        let stored = fitting row out waiting put (omega arith) in
        record {
          same = s.same ∙ completed piece p f taken waiting out last within room frame is stored;
          room = λ h. omega (arith, stored.within, stored.next, s.outputs);
          frames = ap length frame ∙ length-set f p.filled _ ∙ s.frames;
          outputs = ap length stored.output ∙ length-sets out waiting row ∙ s.outputs;
        }

    -- at the call's end
    abbrev here : Stage State
    here = stage p (record { taken = taken; waiting = waiting }) f out

    feeds : gone_on captures piece here ≡ here → Feeds captures piece (stage p₀ from f₀ out₀) here
    feeds e = record { comes = sym (s.same ∙ e); fits = s.room }

    pub feeds_all : length piece ≤ taken → Feeds captures piece (stage p₀ from f₀ out₀) here
    feeds_all h = feeds (ended captures piece here h)

    pub feeds_some : is_last p ≡ true → taken < length piece → length out - waiting < row_room → Feeds captures piece (stage p₀ from f₀ out₀) here
    feeds_some last within short = feeds (stopped captures piece here within (rw last short))
