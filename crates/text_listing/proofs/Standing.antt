-- Where a call of `feed` stands between two lines, and how it goes on from there.
use Rattle.std.proofs.Common.{◌≡◌, ℕ, ◌+◌, ◌-◌, ◌<◌, ◌≤◌, List, [], ◌++◌, length, get_or, drop, sym, refl, ap, ◌∙◌, arith, length-append, drop_of_length-le, le-ltb, lt-ltb, eq-eqb}
use lib.Seq.{sets, length-sets}
use Rattle.text.specs.Put.{Stored}
use Rattle.text.specs.Pieces.{Fed, fed_from, takes, stage_after, gone_on, stage, Feeds}
use Rattle.text.proofs.Stages.{next_cell}
use Rattle.octets.proofs.Stores.{sets-append}
use Rattle.text_listing.specs.declared.line.Line.{Line}
use Rattle.text_listing.specs.declared.row.Entry.{Entry}
use Rattle.text_listing.specs.declared.feeding.Progress.{Progress}
use Rattle.text.specs.Marks.{newline}
use Rattle.text_listing.specs.Rows.{row_of, row_room}
use Rattle.text_listing.specs.Listing.{following}
use Rattle.text_listing.specs.Taking.{fresh, decoded_of, decoded_entry}
use Rattle.text_listing.specs.Feeding.{State, lister, reached, Scans}

-- ---- what a call comes to at a newline, and at the end

module _ (room : ℕ) (o : Fed State) (piece : List ℕ) (at : ℕ) where
  pub ended : length piece ≤ at → fed_from lister room o (drop at piece) ≡ o
  unfolding fed_from
  ended h = rw (drop_of_length-le piece h)

  module _ (within : at < length piece) (e : get_or piece at 0 ≡ newline) where
    pub stopped : room - length o.said < row_room → fed_from lister room o (drop at piece) ≡ o
    unfolding fed_from
    stopped h = rw (next_cell piece at within) (simp (eq-eqb (get_or piece at 0) newline e, lt-ltb (room - length o.said) row_room h))

    pub line_ended : row_room ≤ room - length o.said → fed_from lister room o (drop at piece) ≡ fed_from lister room (takes lister o newline) (drop (at + 1) piece)
    unfolding fed_from
    line_ended h = rw (next_cell piece at within, e, le-ltb (room - length o.said) row_room h)

-- ---- where a call stands

module _ (f₀ piece out₀ : List ℕ) (p₀ : Progress) (taken₀ waiting₀ : ℕ) where
  -- where the call begins
  abbrev from : Fed State
  from = record { state = record { progress = p₀; frame = f₀ }; taken = taken₀; said = [] }

  abbrev room₀ : ℕ
  room₀ = length out₀ - waiting₀

  -- the rows said so far are stored after what waited, and from here the call comes to the same as from its start
  pub record Stands (f out : List ℕ) (number : ℕ) (line : Line) (taken waiting : ℕ) : Type 0 where
    pub said : List ℕ
    pub same : fed_from lister room₀ from (drop taken₀ piece) ≡ fed_from lister room₀ (reached number said line f taken) (drop taken piece)
    pub count : waiting ≡ waiting₀ + length said
    pub stored : out ≡ sets out₀ waiting₀ said
    pub room : waiting₀ ≤ length out₀ → waiting ≤ length out₀
    pub frames : length f ≡ length f₀
    pub outputs : length out ≡ length out₀

  -- at the start
  pub starts : Stands f₀ out₀ p₀.number p₀.line taken₀ waiting₀
  starts = record { said = []; same = refl; count = omega arith; stored = refl; room = λ h. h; frames = refl; outputs = refl }

  -- after the characters up to a newline or the piece's end
  pub scans : {f out f' : List ℕ} {number : ℕ} {line line' : Line} {taken taken' waiting : ℕ}
      → Stands f out number line taken waiting → Scans piece line f taken line' f' taken' → length f' ≡ length f → Stands f' out number line' taken' waiting
  scans {number = number} s p kept =
      record {
        said = s.said;
        same = s.same ∙ p.leads room₀ number s.said;
        count = s.count;
        stored = s.stored;
        room = s.room;
        frames = kept ∙ s.frames;
        outputs = s.outputs;
      }

  -- after a newline and its row
  pub ends_line : {f out out' : List ℕ} {number : ℕ} {line : Line} {taken taken' waiting waiting' : ℕ} {entry : Entry}
      → Stands f out number line taken waiting → taken < length piece → get_or piece taken 0 ≡ newline → row_room ≤ length out - waiting
      → decoded_entry f (decoded_of line) ≡ entry → Stored (row_of number entry) out waiting waiting' out' → taken' ≡ taken + 1
      → Stands f out' (following number) fresh taken' waiting'
  ends_line {f} {out} {out'} {number} {line} {taken} {taken'} {waiting} {waiting'} {entry} s within e room is row next =
      let row_now = row_of number (decoded_entry f (decoded_of line)) in
      let now : Stored row_now out waiting waiting' out' = rw is row in
      let enough : row_room ≤ room₀ - length s.said = omega (arith, s.count, s.outputs) in
      record {
        said = s.said ++ row_now;
        same = s.same ∙ line_ended room₀ (reached number s.said line f taken) piece taken within e enough ∙ rw next;
        count = now.next ∙ rw (length-append s.said row_now) (omega (arith, s.count));
        stored = now.output ∙ rw (s.stored, sets-append out₀ waiting₀ s.said row_now, s.count);
        room = λ h. omega (arith, now.within, now.next, s.outputs);
        frames = s.frames;
        outputs = ap length now.output ∙ length-sets out waiting row_now ∙ s.outputs;
      }

  -- at the call's end
  pub feeds : {f out : List ℕ} {number : ℕ} {line : Line} {taken waiting : ℕ} (s : Stands f out number line taken waiting)
      → fed_from lister room₀ (reached number s.said line f taken) (drop taken piece) ≡ reached number s.said line f taken
      → Feeds lister piece (stage p₀ (record { taken = taken₀; waiting = waiting₀ }) f₀ out₀)
      (stage (record { number = number; line = line }) (record { taken = taken; waiting = waiting }) f out)
  unfolding gone_on
  feeds {f} {out} {number} {line} {taken} {waiting} s e =
      let a = stage p₀ (record { taken = taken₀; waiting = waiting₀ }) f₀ out₀ in
      record {
        comes = rw (s.count, s.stored) (ap (stage_after a) (sym (s.same ∙ e)));
        fits = s.room;
      }
