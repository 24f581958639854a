-- Laws of the iterator over the TLVs of a body by their marks.
use Rattle.std.proofs.Common.{ℕ, ◌≡◌, ◌≤◌, refl, sym, ap, List, [], ◌∷◌, length, Option, None, Some, Ok, Err}
use Rattle.octets.specs.declared.refusal.Refusal.{Refusal}
use Rattle.octets.specs.declared.refusal.Refusal.TheVariants.{Broken as Refused}
use Rattle.frame_tlvs.specs.Walk.{stop, has, given}
use Rattle.frame_tlvs.specs.Tlvs.{Mark, End, Broken, Unknown, Known, placed_mark, mark_at}
use Rattle.frame_tlvs.specs.Marks.{mark_next, marks_from, marks_of, left}
use Rattle.frame_tlvs.specs.declared.Kind.{Kind}
use Rattle.frame_tlvs.specs.declared.TlvMarks.{TlvMarks}
use Rattle.frame_tlvs.proofs.Walks.{Ahead, Leads, left as left_by, left_broken, few_given}
use Rattle.frame_tlvs.proofs.Marks.{Marked, mark_within, mark_end}

module _ (kind : Kind) (s : List ℕ) where
  ahead : (at : ℕ) (mark : Mark) → Marked kind at (length s) mark → Ahead at (length s) (mark_next at mark)
  ahead at End h = tt
  ahead at Broken h = tt
  ahead at (Unknown n) h = h
  ahead at (Known t n) h = (h.0, h.1)

  -- what stands in a body leads on
  pub marks_lead : Leads (λ n. mark_next n (mark_at kind s n)) (length s)
  marks_lead =
      record {
        end = λ at h. ap (mark_next at) (mark_end kind s at h);
        ahead = λ at. ahead at (mark_at kind s at) (mark_within kind s at);
      }

  -- no more TLVs stand in a body than it has octets
  pub few_marks : length (marks_of kind s) ≤ length s
  few_marks = few_given (λ n. mark_next n (mark_at kind s n)) (length s) 0

module _ (m : TlvMarks) where
  abbrev s : List ℕ
  s = m.body.now

  -- what is left by the mark that was found
  pub ended : End ≡ mark_at m.kind s m.at → left m ≡ []
  ended h = left_by _ _ (marks_lead m.kind s) m.at given stop (ap (mark_next m.at) (sym h))

  pub broke : (r : Refusal) → Broken ≡ mark_at m.kind s m.at → r ≡ Refused → left m ≡ Err r ∷ marks_from m.kind s (length s) (length s)
  broke r h b =
      left_broken _ _ (marks_lead m.kind s) m.at given (Err r) (ap (λ (x : Refusal). Err x ∷ []) (sym b)) refl (ap (mark_next m.at) (sym h))

  pub gives : (mark : Option ℕ) (n : ℕ) → placed_mark mark n ≡ mark_at m.kind s m.at → left m ≡ Ok (m.at, mark) ∷ marks_from m.kind s (length s) n
  gives None n h = left_by _ _ (marks_lead m.kind s) m.at given (has (m.at, None) n) (ap (mark_next m.at) (sym h))
  gives (Some t) n h = left_by _ _ (marks_lead m.kind s) m.at given (has (m.at, Some t) n) (ap (mark_next m.at) (sym h))
