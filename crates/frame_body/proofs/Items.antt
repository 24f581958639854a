-- Laws of the iterator over an Information body: what is left of it, and its cursor, by the step that it takes.
use Rattle.std.proofs.Common.{ℕ, ◌≡◌, refl, sym, ap, ◌∙◌, List, [], ◌∷◌, length, true, false, Option, Some, None, Result, Ok, Err}
use Rattle.std.specs.Option.{is_some}
use Rattle.octets.specs.declared.refusal.Refusal.{Refusal}
use Rattle.octets.specs.declared.refusal.Refusal.TheVariants.{Broken as Refused}
use Rattle.frame_tlvs.specs.Walk.{stop, skip, has, walk, items}
use Rattle.frame_tlvs.specs.Counting.{more, cursor_after}
use Rattle.frame_tlvs.specs.declared.Cursor.{Cursor}
use Rattle.frame_tlvs.proofs.Walks.{left as left_by, left_broken}
use Rattle.frame_body.specs.Information.{InformationStep, End, Broken, placed_part, information_step, next_of}
use Rattle.frame_body.specs.Counting.{Skip, counted_step, information_next, as_information_next, left}
use Rattle.frame_body.specs.declared.InformationPart.{InformationPart}
use Rattle.frame_body.specs.declared.InformationPart.TheVariants.{Local as local, Remote as remote}
use Rattle.frame_body.specs.declared.Informations.{Informations}
use Rattle.frame_body.proofs.Judging.{information_leads}

-- the step with the cursor after it
pub counted : (s : List ℕ) (c : Cursor) (x : InformationStep) → x ≡ information_step s c.at → counted_step c x ≡ information_next s c
unfolding information_next
counted s c x e = ap (counted_step c) e

module _ (e : Informations) where
  abbrev s : List ℕ
  s = e.body.now

  abbrev rest : ℕ → List (Result (Option InformationPart) Refusal)
  rest at = items (walk (λ n. next_of (information_step s n)) (length s) at)

  pub ended : End ≡ information_step s e.cursor.at → left e ≡ []
  ended h = left_by _ _ (information_leads s) e.cursor.at items stop (ap next_of (sym h))

  pub broke : (r : Refusal) → Broken ≡ information_step s e.cursor.at → r ≡ Refused → left e ≡ Err r ∷ rest (length s)
  broke r h b =
      left_broken _ _ (information_leads s) e.cursor.at items (Err r) (ap (λ (x : Refusal). Err x ∷ []) (sym b)) refl (ap next_of (sym h))

  pub gives : (part : Option InformationPart) (n : ℕ) → placed_part part n ≡ information_step s e.cursor.at → left e ≡ Ok part ∷ rest n
  gives None n h = left_by _ _ (information_leads s) e.cursor.at items (skip n) (ap next_of (sym h))
  gives (Some (local i)) n h = left_by _ _ (information_leads s) e.cursor.at items (has (local i) n) (ap next_of (sym h))
  gives (Some (remote i)) n h = left_by _ _ (information_leads s) e.cursor.at items (has (remote i) n) (ap next_of (sym h))

  -- the cursor after a TLV that is skipped, and after a Local or Remote
  pub skips : (part : Option InformationPart) (n skipped : ℕ) → placed_part part n ≡ information_step s e.cursor.at → is_some part ≡ false → skipped ≡ more e.cursor.skipped
      → as_information_next (Some (Ok part)) (record { at = n; skipped = skipped }) ≡ information_next s e.cursor
  skips None n skipped h none m = ap (λ (k : ℕ). Skip (record { at = n; skipped = k })) m ∙ counted s e.cursor _ h
  skips (Some x) n skipped h none m = absurd (cc)

  pub keeps : (part : Option InformationPart) (n : ℕ) → placed_part part n ≡ information_step s e.cursor.at → is_some part ≡ true
      → as_information_next (Some (Ok part)) (record { at = n; skipped = e.cursor.skipped }) ≡ information_next s e.cursor
  keeps None n h some = absurd (cc)
  keeps (Some (local i)) n h some = counted s e.cursor _ h
  keeps (Some (remote i)) n h some = counted s e.cursor _ h

  -- the same by `cursor_after`, and after each other step
  abbrev after : InformationStep → Cursor
  after x = cursor_after (length s) e.cursor (next_of x)

  pub stands : (x : InformationStep) → x ≡ information_step s e.cursor.at → after x ≡ after (information_step s e.cursor.at)
  stands x h = ap after h

  pub stands_skipping : (part : Option InformationPart) (n skipped : ℕ) → placed_part part n ≡ information_step s e.cursor.at → is_some part ≡ false → skipped ≡ more e.cursor.skipped
      → ◌≡◌ {A = Cursor} (record { at = n; skipped = skipped }) (after (information_step s e.cursor.at))
  stands_skipping None n skipped h none m = (λ i. record { at = n; skipped = m i }) ∙ stands _ h
  stands_skipping (Some x) n skipped h none m = absurd (cc)

  pub stands_behind : (part : Option InformationPart) (n : ℕ) → placed_part part n ≡ information_step s e.cursor.at → is_some part ≡ true
      → ◌≡◌ {A = Cursor} (record { at = n; skipped = e.cursor.skipped }) (after (information_step s e.cursor.at))
  stands_behind None n h some = absurd (cc)
  stands_behind (Some (local i)) n h some = stands _ h
  stands_behind (Some (remote i)) n h some = stands _ h
