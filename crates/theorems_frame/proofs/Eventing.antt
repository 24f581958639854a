-- The event TLVs of an Event Notification, written and read.
use Prim.Native.Nat.{ℕ, ◌+◌}
use mathlib.Core.Path.{◌≡◌, refl, sym, ap, ◌∙◌}
use mathlib.Core.List.{List, ◌∷◌, ◌++◌}
use native.Mathlib.Omega.{arith}
use borrow.Author.Tests.{le-leb}
use lib.ListN.{length, drop}
use Rattle.frame_tlvs.specs.Tlvs.{row, event_length, mark_at, Mark, End, Broken, Unknown, Known}
use Rattle.frame_tlvs.specs.Walk.{Next, has}
use Rattle.octets.specs.Octets.{fields_at, Octets, octs, fit}
use Rattle.frame_tlvs.specs.Events.{event_of, event_at, step_of, event_step, next_of, Has}
use Rattle.frame_tlvs.specs.declared.Kind.TheVariants.{Events as EventKind}
use Rattle.frame_tlvs.specs.declared.Event.{Event}
use Rattle.frame_tlvs.proofs.Rows.{four}
use Rattle.frame_tlvs.proofs.Marks.{Marked, mark_within, event_tabled}
use Rattle.frame_writer.specs.Encode.{event_values, event_octets}
use Rattle.frame_writer.specs.Plain.{plain_event}
use Rattle.frame_writer.proofs.Lengths.{Tabled, tabled}
use Rattle.frame_writer.proofs.Sevens.{six_values}
use Rattle.octets.proofs.Numbers.{fields_fit}
use Rattle.frame_writer.proofs.Walking.{Each, Shown, Codes}
use Rattle.theorems_frame.proofs.Marking.{mark_stop, tlv_read, OnKnown, Stands, mark_again}

module _ (s : List ℕ) where
  abbrev next : ℕ → Next Event
  next at = next_of (event_step s at)

  -- the step where an event was written
  step_read : (at : ℕ) (e : Event) (y : List ℕ) → Tabled e → drop at s ≡ event_octets e ++ y → event_step s at ≡ Has e (at + event_length e.kind)
  unfolding event_step event_at event_octets
  step_read at e y h d =
      let t = e.kind in
      let r = tlv_read EventKind t (row t) (event_values e) s at y h.least (omega arith) (omega arith) h.sized h.six h.fits d in
      let found : event_at s at t ≡ e = ap (event_of t) r.1 in
      rw (r.0, found)

  -- what is read where a TLV is marked
  shows : Octets s → (at : ℕ) (mark : Mark) → Marked EventKind at (length s) mark → OnKnown (Stands EventKind s at) mark
      → Each (Shown event_octets plain_event s at) Unit (next_of (step_of s at mark))
  unfolding row event_at event_octets plain_event
  shows o at End m h = tt
  shows o at Broken m h = tt
  shows o at (Unknown n) m h = tt
  shows o at (Known t n) m h =
      let k = event_tabled t m.4 in
      let seven = t ∷ fields_at (row t) s (at + 2) in
      let values = six_values seven (four (λ (ws : List ℕ). length (t ∷ fields_at ws s (at + 2)) ≡ 7) refl refl refl refl t m.3 k.upto) in (
        h (row t) k.long ∙ ap (λ (vs : List ℕ). octs (1 ∷ 1 ∷ row t) (t ∷ event_length t ∷ vs) ++ drop n s) values,
        rw (le-leb 1 t m.3, le-leb t 4 k.upto) (ap (fit (row t)) (sym values) ∙ fields_fit s o (row t) (at + 2)),
      )

  -- event TLVs are met where they were written, and stand where they are met
  pub event_codes : Codes event_octets plain_event Unit s next
  unfolding event_step
  event_codes =
      record {
        some = λ e h. omega (arith, (tabled e h).long, (tabled e h).sized);
        meets = λ at e y h d. ap next_of (step_read at e y (tabled e h) d) ∙ ap (λ (n : ℕ). has e (at + n)) (sym (tabled e h).long);
        stops = λ at h. ap (λ (x : Mark). next_of (step_of s at x)) (mark_stop EventKind s at h);
        shows = λ o at. shows o at (mark_at EventKind s at) (mark_within EventKind s at) (mark_again EventKind s at o);
      }
