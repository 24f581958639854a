-- Laws of the iterator over the events of a notification: what is left of it, and its cursor, by the step that it takes.
use Rattle.std.proofs.Common.{ℕ, ◌≡◌, refl, sym, ap, ◌∙◌, List, [], ◌∷◌, length, true, false, Option, Some, None, Result, Ok, Err}
use Rattle.std.specs.Option.{is_some}
use Rattle.octets.specs.declared.refusal.Refusal.{Refusal}
use Rattle.octets.specs.declared.refusal.Refusal.TheVariants.{Broken as Refused}
use Rattle.frame_tlvs.specs.Walk.{stop, skip, has, walk, items}
use Rattle.frame_tlvs.specs.Tlvs.{Mark, End as MarkEnd, Broken as MarkBroken, Unknown, Known, mark_at}
use Rattle.frame_tlvs.specs.Events.{EventStep, End, Broken, placed_event, step_of, event_step, next_of}
use Rattle.frame_tlvs.specs.Counting.{Skip, more, counted_step, event_next, cursor_after, as_event_next, left}
use Rattle.frame_tlvs.specs.declared.Kind.TheVariants.{Events as EventKind}
use Rattle.frame_tlvs.specs.declared.Event.{Event}
use Rattle.frame_tlvs.specs.declared.Cursor.{Cursor}
use Rattle.frame_tlvs.specs.declared.Events.{Events}
use Rattle.frame_tlvs.proofs.Walks.{Ahead, Leads, left as left_by, left_broken}
use Rattle.frame_tlvs.proofs.Marks.{Marked, mark_within, mark_end}

ahead : (s : List ℕ) (at : ℕ) (mark : Mark) → Marked EventKind at (length s) mark → Ahead at (length s) (next_of (step_of s at mark))
ahead s at MarkEnd h = tt
ahead s at MarkBroken h = tt
ahead s at (Unknown n) h = h
ahead s at (Known t n) h = (h.0, h.1)

-- what stands in a notification leads on
pub event_leads : (s : List ℕ) → Leads (λ at. next_of (event_step s at)) (length s)
unfolding event_step
event_leads s =
    record {
      end = λ at h. ap (λ (m : Mark). next_of (step_of s at m)) (mark_end EventKind s at h);
      ahead = λ at. ahead s at (mark_at EventKind s at) (mark_within EventKind s at);
    }

-- the step with the cursor after it
pub counted : (s : List ℕ) (c : Cursor) (x : EventStep) → x ≡ event_step s c.at → counted_step c x ≡ event_next s c
unfolding event_next
counted s c x e = ap (counted_step c) e

module _ (e : Events) where
  abbrev s : List ℕ
  s = e.body.now

  abbrev rest : ℕ → List (Result (Option Event) Refusal)
  rest at = items (walk (λ n. next_of (event_step s n)) (length s) at)

  pub ended : End ≡ event_step s e.cursor.at → left e ≡ []
  ended h = left_by _ _ (event_leads s) e.cursor.at items stop (ap next_of (sym h))

  pub broke : (r : Refusal) → Broken ≡ event_step s e.cursor.at → r ≡ Refused → left e ≡ Err r ∷ rest (length s)
  broke r h b =
      left_broken _ _ (event_leads s) e.cursor.at items (Err r) (ap (λ (x : Refusal). Err x ∷ []) (sym b)) refl (ap next_of (sym h))

  pub gives : (part : Option Event) (n : ℕ) → placed_event part n ≡ event_step s e.cursor.at → left e ≡ Ok part ∷ rest n
  gives None n h = left_by _ _ (event_leads s) e.cursor.at items (skip n) (ap next_of (sym h))
  gives (Some x) n h = left_by _ _ (event_leads s) e.cursor.at items (has x n) (ap next_of (sym h))

  -- the cursor after a TLV that is skipped, and after an event
  pub skips : (part : Option Event) (n skipped : ℕ) → placed_event part n ≡ event_step s e.cursor.at → is_some part ≡ false → skipped ≡ more e.cursor.skipped
      → as_event_next (Some (Ok part)) (record { at = n; skipped = skipped }) ≡ event_next s e.cursor
  skips None n skipped h none m = ap (λ (k : ℕ). Skip (record { at = n; skipped = k })) m ∙ counted s e.cursor _ h
  skips (Some x) n skipped h none m = absurd (cc)

  pub keeps : (part : Option Event) (n : ℕ) → placed_event part n ≡ event_step s e.cursor.at → is_some part ≡ true
      → as_event_next (Some (Ok part)) (record { at = n; skipped = e.cursor.skipped }) ≡ event_next s e.cursor
  keeps None n h some = absurd (cc)
  keeps (Some x) n h some = counted s e.cursor _ h

  -- the same by `cursor_after`, and after each other step
  abbrev after : EventStep → Cursor
  after x = cursor_after (length s) e.cursor (next_of x)

  pub stands : (x : EventStep) → x ≡ event_step s e.cursor.at → after x ≡ after (event_step s e.cursor.at)
  stands x h = ap after h

  pub stands_skipping : (part : Option Event) (n skipped : ℕ) → placed_event part n ≡ event_step s e.cursor.at → is_some part ≡ false → skipped ≡ more e.cursor.skipped
      → ◌≡◌ {A = Cursor} (record { at = n; skipped = skipped }) (after (event_step s e.cursor.at))
  stands_skipping None n skipped h none m = (λ i. record { at = n; skipped = m i }) ∙ stands _ h
  stands_skipping (Some x) n skipped h none m = absurd (cc)

  pub stands_behind : (part : Option Event) (n : ℕ) → placed_event part n ≡ event_step s e.cursor.at → is_some part ≡ true
      → ◌≡◌ {A = Cursor} (record { at = n; skipped = e.cursor.skipped }) (after (event_step s e.cursor.at))
  stands_behind None n h some = absurd (cc)
  stands_behind (Some x) n h some = stands _ h
