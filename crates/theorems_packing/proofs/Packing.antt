-- The octets of an end that keeps to its ranges, and behind them those of a watch that may stand beside it, are unpacked to both,
-- and no other octets are; and each of the two is stored without the other.
use Prim.Native.Nat.{ℕ, ◌+◌, ◌≤◌}
use mathlib.Core.Path.{◌≡◌, sym, ap, ◌∙◌}
use mathlib.Core.List.{List, [], ◌∷◌, ◌++◌, append-nil}
use mathlib.Core.Bool.{true, cond, ◌&&◌}
use native.Mathlib.Omega.{arith}
use borrow.Author.Tests.{eqb-true, eq-eqb}
use lib.Dec.{eqb}
use lib.ListN.{length, get_or, take, drop, length-append, length-drop, drop_of_length-le}
use lib.Seq.{sets-eq, take_all, take_at, drop_at, length-take-le}
use Rattle.octets.specs.Octets.{Octets}
use Rattle.octets.proofs.Bools.{whether, by_cond, and_l, and_r}
use Rattle.link_end.specs.declared.End.{End}
use Rattle.link_end.specs.Parts.{Is, Refused, MaybeEnd}
use Rattle.link_end.specs.Ranges.{tests, ranged, checked}
use Rattle.link_end.proofs.Ranging.{all_at}
use Rattle.link_windows.specs.declared.Watch.{Watch}
use Rattle.link_windows.specs.Watches.{phase_of}
use Rattle.link_windows.specs.Ranges.{new_watch, proper}
use Rattle.oam_packing.specs.Link.{is_link}
use Rattle.oam_packing.specs.Peers.{is_peer}
use Rattle.oam_packing.specs.Roles.{is_role}
use Rattle.oam_packing.specs.Own.{is_own}
use Rattle.oam_packing.specs.Watches.{watch_length, watch_octets, watch_from, is_watch}
use Rattle.oam_packing.specs.Octets.{end_length, part_lengths, state_length, end_parts, packed, packed_in, watch_packed_in, part, is_state, end_of, watch_held, is_watched, unpacked, watch_in}
use Rattle.oam_packing.proofs.Joining.{lengths, parts_long, packed_long, watch_long}
use Rattle.theorems_packing.proofs.Parting.{part_at, together_last, parts_again, parts_octets}
use Rattle.theorems_packing.proofs.Storing.{kept_long, kept_before, kept_behind}
use Rattle.theorems_packing.proofs.SettingsLaws.{settings_back, settings_again}
use Rattle.theorems_packing.proofs.LinkLaws.{link_back, link_is, link_again}
use Rattle.theorems_packing.proofs.PeerLaws.{peer_back, peer_is, peer_again}
use Rattle.theorems_packing.proofs.RoleLaws.{role_back, role_again}
use Rattle.theorems_packing.proofs.MeterLaws.{meter_back, meter_again}
use Rattle.theorems_packing.proofs.OwnLaws.{own_back, own_is, own_again}
use Rattle.theorems_packing.proofs.WatchLaws.{watch_back, watch_is, watch_again}

-- octets of a watch that may stand beside an end with such ticks
record Watched (y : List ℕ) (ticks : ℕ) : Type 0 where
  stamp : is_watch y ≡ true
  counted : proper (watch_from y) ≡ true
  phase : phase_of (watch_from y) ≡ ticks

-- ---- an end's octets, and as many behind them as a watch has

module _ (e : End) (y : List ℕ) (l : length y ≡ watch_length) where
  -- each part stands in its place
  part_joined : (k : ℕ) → part k (packed e ++ y) ≡ get_or (end_parts e ++ (y ∷ [])) k []
  unfolding packed
  part_joined k =
      let long : lengths (end_parts e ++ (y ∷ [])) ≡ part_lengths = λ i. parts_long e i ++ (l i ∷ []) in
      ap (part k) (sym (together_last (end_parts e) y)) ∙ part_at part_lengths (end_parts e ++ (y ∷ [])) k long

  joined_long : length (packed e ++ y) ≡ state_length
  joined_long = omega (arith, length-append (packed e) y, packed_long e)

  joined_is : is_state (packed e ++ y) ≡ true
  unfolding is_state
  joined_is =
      let at = part_joined in
      rw (at 1, at 2, at 3, at 5, link_is e.link, peer_is e.peer, (role_back e.role).1, own_is e.own)

  joined_back : ranged e ≡ true → end_of (packed e ++ y) ≡ e
  unfolding end_of ranged
  joined_back h =
      let at = part_joined in
      let test : (n : ℕ) → _ = λ n. all_at (tests e) n h in
      rw (at 0, at 1, at 2, at 3, at 4, at 5)
      (rw (
        settings_back e.settings (test 0) (test 1),
        link_back e.link (test 2),
        peer_back e.peer (test 3) (test 4) (test 5),
        (role_back e.role).0,
        meter_back e.meter (test 10),
        own_back e.own (test 11) (test 12),
      ))

  joined_watch : watch_in (packed e ++ y) ≡ watch_from y
  unfolding watch_in watch_held
  joined_watch = rw (eq-eqb (length (packed e ++ y)) state_length joined_long) (ap watch_from (part_joined 6))

  joined_unpacked : ranged e ≡ true → Watched y e.meter.ticks → unpacked (packed e ++ y) ≡ Is e
  unfolding unpacked checked is_watched watch_held end_of
  joined_unpacked h w =
      let x = packed e ++ y in
      let back = joined_back h in
      let phase = w.phase ∙ sym (ap (λ (f : End). f.meter.ticks) back) in
      rw (eq-eqb (length x) state_length joined_long, joined_is, part_joined 6, w.stamp, w.counted, eq-eqb _ _ phase, back, h)

-- ---- what is unpacked

-- a state holds the end that is unpacked, which keeps to its ranges, and a watch beside it
record Unpacked (state : List ℕ) (e : End) : Type 0 where
  long : length state ≡ state_length
  is : is_state state ≡ true
  held : end_of state ≡ e
  ranges : ranged e ≡ true
  watched : Watched (part 6 state) e.meter.ticks

watched_is : (state : List ℕ) → is_watched state ≡ true → Watched (part 6 state) (end_of state).meter.ticks
unfolding is_watched watch_held end_of
watched_is state h =
    let stamp : is_watch (part 6 state) ≡ true = search and_l in
    let counted : proper (watch_from (part 6 state)) ≡ true = search (and_l, and_r) in
    let phase : eqb (phase_of (watch_from (part 6 state))) (end_of state).meter.ticks ≡ true = search (and_l, and_r) in
    record { stamp = stamp; counted = counted; phase = eqb-true (phase_of (watch_from (part 6 state))) (end_of state).meter.ticks phase }

watch_is_held : (state : List ℕ) → length state ≡ state_length → watch_in state ≡ watch_held state
unfolding watch_in
watch_is_held state l = rw (eq-eqb (length state) state_length l)

-- the last part is all that stands behind an end
last_part : (state : List ℕ) → length state ≡ state_length → part 6 state ≡ drop end_length state
last_part state l = take_all watch_length (drop end_length state) (omega (arith, length-drop end_length state))

-- the end that is there
abbrev end_in : End → MaybeEnd → End
end_in e (Refused n) = e
end_in e (Is x) = x

unpacked_is : (state : List ℕ) (e : End) → unpacked state ≡ Is e → Unpacked state e
unfolding unpacked checked
unpacked_is state e =
    let P : MaybeEnd → Type 0 = λ (f : MaybeEnd). f ≡ Is e → Unpacked state e in
    let never : Refused 10 ≡ Is e → Unpacked state e = λ k. let z : ◌≡◌ {A = ℕ} 0 1 = cc in absurd (omega arith) in
    let x = end_of state in
    by_cond P (eqb (length state) state_length)
    (λ long. by_cond P (is_state state && is_watched state)
    (λ both. by_cond P (ranged x)
    (λ r k.
    let held : x ≡ e = ap (end_in e) k in
    record {
      long = eqb-true (length state) state_length long;
      is = and_l (is_state state) (is_watched state) both;
      held = held;
      ranges = rw (← held) r;
      watched = rw (← held) (watched_is state (and_r (is_state state) (is_watched state) both));
    })
    (λ _. never))
    (λ _. never))
    (λ _. never)

packed_again : (state : List ℕ) → Octets state → length state ≡ state_length → is_state state ≡ true → is_watch (part 6 state) ≡ true
    → packed (end_of state) ++ watch_octets (watch_held state) ≡ state
unfolding packed end_of watch_held is_state
packed_again state o l h stamp =
    let link : is_link (part 1 state) ≡ true = search and_l in
    let peer : is_peer (part 2 state) ≡ true = search (and_l, and_r) in
    let role : is_role (part 3 state) ≡ true = search (and_l, and_r) in
    let own : is_own (part 5 state) ≡ true = search (and_l, and_r) in
    let at : (k : ℕ) → _ = parts_octets part_lengths state 0 o (omega (arith, l)) in
    sym (together_last (end_parts (end_of state)) (watch_octets (watch_held state)))
    ∙ rw (
      settings_again (part 0 state) (at 0).0 (at 0).1,
      link_again (part 1 state) (at 1).0 (at 1).1 link,
      peer_again (part 2 state) (at 2).0 (at 2).1 peer,
      role_again (part 3 state) (at 3).0 (at 3).1 role,
      meter_again (part 4 state) (at 4).0 (at 4).1,
      own_again (part 5 state) (at 5).0 (at 5).1 own,
      watch_again (part 6 state) (at 6).0 (at 6).1 stamp,
    )
    (parts_again part_lengths state l)

-- ---- the two laws, of the end and of the watch

-- a proper watch may stand beside an end with which its second began
pub unpacked-packed : (e : End) (w : Watch) → ranged e ≡ true → proper w ≡ true → phase_of w ≡ e.meter.ticks
    → unpacked (packed e ++ watch_octets w) ≡ Is e
unpacked-packed e w r p t =
    let back = watch_back w p in
    joined_unpacked e (watch_octets w) (watch_long w) r (record { stamp = watch_is w; counted = rw back p; phase = rw back t })

pub watch_packed : (e : End) (w : Watch) → proper w ≡ true → watch_in (packed e ++ watch_octets w) ≡ w
watch_packed e w p = joined_watch e (watch_octets w) (watch_long w) ∙ watch_back w p

-- no other octets are unpacked
pub packed-unpacked : (state : List ℕ) (e : End) → Octets state → unpacked state ≡ Is e → packed e ++ watch_octets (watch_in state) ≡ state
packed-unpacked state e o h =
    let u = unpacked_is state e h in
    rw (← u.held, watch_is_held state u.long) (packed_again state o u.long u.is u.watched.stamp)

-- ---- from call to call

-- octets that are unpacked are those of a state
pub unpacked_long : (state : List ℕ) (e : End) → unpacked state ≡ Is e → length state ≡ state_length
unpacked_long state e h = (unpacked_is state e h).long

-- the end keeps to its ranges
pub unpacked-ranged : (state : List ℕ) (e : End) → unpacked state ≡ Is e → ranged e ≡ true
unpacked-ranged state e h = (unpacked_is state e h).ranges

-- and the watch beside it is proper, in the same second
pub unpacked_beside : (state : List ℕ) (e : End) → unpacked state ≡ Is e
    → (proper (watch_in state) ≡ true) × (phase_of (watch_in state) ≡ e.meter.ticks)
unfolding watch_held
unpacked_beside state e h =
    let u = unpacked_is state e h in
    rw (watch_is_held state u.long) (u.watched.counted, u.watched.phase)

-- ---- what is stored

-- the length stays
pub stored_long : (e : End) (state : List ℕ) → length (packed_in e state) ≡ length state
unfolding packed_in
stored_long e state = kept_long 0 (packed e) state

pub watch_stored_long : (w : Watch) (state : List ℕ) → length (watch_packed_in w state) ≡ length state
unfolding watch_packed_in
watch_stored_long w state = kept_long end_length (watch_octets w) state

-- an end is stored before the octets of the watch, and a watch behind those of the end: each leaves the other
pub stored_behind : (e : End) (state : List ℕ) → drop end_length (packed_in e state) ≡ drop end_length state
unfolding packed_in
stored_behind e state = kept_behind 0 (packed e) state end_length (omega (arith, packed_long e))

pub stored_before : (w : Watch) (state : List ℕ) → take end_length (watch_packed_in w state) ≡ take end_length state
unfolding watch_packed_in
stored_before w state = kept_before end_length (watch_octets w) state end_length (omega arith)

-- what a state is with an end stored in it, and with a watch
stored_as : (e : End) (state : List ℕ) → length state ≡ state_length → packed_in e state ≡ packed e ++ drop end_length state
unfolding packed_in
stored_as e state l =
    let n = packed_long e in
    rw (eq-eqb (length state) state_length l) (sets-eq (packed e) state 0 (omega arith) ∙ rw n)

watch_stored_as : (w : Watch) (state : List ℕ) → length state ≡ state_length → watch_packed_in w state ≡ take end_length state ++ watch_octets w
unfolding watch_packed_in
watch_stored_as w state l =
    let n = watch_long w in
    let none : length state ≤ end_length + watch_length = omega arith in
    rw (eq-eqb (length state) state_length l)
    (sets-eq (watch_octets w) state end_length (omega arith) ∙ rw (n, drop_of_length-le state none) (append-nil (take end_length state ++ watch_octets w)))

-- an end stored in the place of another is unpacked again, where it keeps to its ranges and its second is still the watch's
pub stored_unpacked : (state : List ℕ) (before e : End) → unpacked state ≡ Is before → ranged e ≡ true → e.meter.ticks ≡ before.meter.ticks
    → unpacked (packed_in e state) ≡ Is e
stored_unpacked state before e h r t =
    let u = unpacked_is state before h in
    let long : length (drop end_length state) ≡ watch_length = omega (arith, length-drop end_length state, u.long) in
    rw (stored_as e state u.long) (joined_unpacked e (drop end_length state) long r (rw (t, ← last_part state u.long) u.watched))

-- the watch beside it stays; what is no state has its length after it
pub stored_watch : (e : End) (state : List ℕ) → watch_in (packed_in e state) ≡ watch_in state
unfolding watch_in watch_held
stored_watch e state =
    let n = stored_long e state in
    let rest = stored_behind e state in
    λ i. cond (eqb (n i) state_length) (watch_from (take watch_length (rest i))) (new_watch 0 0 0 0)

-- ---- both stored: nothing is left of what the octets were, and either may be stored first

module _ (e : End) (w : Watch) (state : List ℕ) (l : length state ≡ state_length) where
  pub both_stored : watch_packed_in w (packed_in e state) ≡ packed e ++ watch_octets w
  both_stored =
      watch_stored_as w (packed_in e state) (stored_long e state ∙ l)
      ∙ ap (λ (x : List ℕ). take end_length x ++ watch_octets w) (stored_as e state l)
      ∙ ap (λ (x : List ℕ). x ++ watch_octets w) (take_at (packed e) (drop end_length state) end_length (packed_long e))

  both_turned : packed_in e (watch_packed_in w state) ≡ packed e ++ watch_octets w
  both_turned =
      let long = length-take-le end_length state (omega arith) in
      stored_as e (watch_packed_in w state) (watch_stored_long w state ∙ l)
      ∙ ap (λ (x : List ℕ). packed e ++ drop end_length x) (watch_stored_as w state l)
      ∙ ap (λ (x : List ℕ). packed e ++ x) (drop_at (take end_length state) (watch_octets w) end_length long)

  pub both_unpacked : ranged e ≡ true → proper w ≡ true → phase_of w ≡ e.meter.ticks → unpacked (watch_packed_in w (packed_in e state)) ≡ Is e
  both_unpacked r p t = rw both_stored (unpacked-packed e w r p t)

  pub both_watch : proper w ≡ true → watch_in (watch_packed_in w (packed_in e state)) ≡ w
  both_watch p = rw both_stored (watch_packed e w p)

pub stores_commute : (e : End) (w : Watch) (state : List ℕ) → packed_in e (watch_packed_in w state) ≡ watch_packed_in w (packed_in e state)
unfolding packed_in watch_packed_in
stores_commute e w state =
    whether (eqb (length state) state_length)
    (λ t. let l = eqb-true (length state) state_length t in both_turned e w state l ∙ sym (both_stored e w state l))
    (λ f. simp f)
