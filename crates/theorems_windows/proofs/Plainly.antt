-- What arises of a proper watch makes a plain notification, and reaches its threshold: the notification request never answers 10 for
-- it.
use Rattle.std.specs.Prelude.{Option, None, Some}
use Prim.Native.Nat.{ℕ, ◌^◌, ◌<◌, ◌≤◌}
use mathlib.Core.Path.{◌≡◌, refl}
use mathlib.Core.Bool.{Bool, true}
use native.Mathlib.Omega.{arith}
use borrow.Author.Tests.{lt-ltb, le-leb}
use lib.Dec.{leb}
use lib.ListN.{length}
use Rattle.octets.specs.Tests.{every}
use Rattle.octets.proofs.Bools.{by_cond, and_l, and_r}
use Rattle.frame_tlvs.specs.declared.Event.{Event}
use Rattle.frame_tlvs.specs.Tlvs.{row}
use Rattle.frame_writer.specs.Plain.{plain_event, most_events, plain_events}
use Rattle.link_windows.specs.declared.Watch.{Watch}
use Rattle.link_windows.specs.declared.Window.{Window}
use Rattle.link_windows.specs.Windows.{ends, summed, arises, advanced, arisen_in}
use Rattle.link_windows.specs.Watches.{stamp_after, errored_by, frames_after, seconds_after, taken_count}
use Rattle.link_windows.specs.Ranges.{proper}
use Rattle.theorems_windows.specs.History.{event_in, events_in}
use Rattle.theorems_windows.specs.Runs.{shown_by, reaches_own}
use Rattle.link_windows.proofs.Settings.{frames_set, seconds_set_lem}
use Rattle.theorems_windows.proofs.Parts.{Kept, proper_kept}
use Rattle.theorems_windows.proofs.Keeping.{added_most, proper_counted}

-- ---- the events of a tick, by those of each window

of_both : (test : Event → Bool) (f s : Option Event) → every test (event_in f) ≡ true → every test (event_in s) ≡ true → every test (events_in f s) ≡ true
of_both test None s p q = q
of_both test (Some e) s p q = rw (and_l (test e) true p) q

pub at_most_two : (f s : Option Event) → length (events_in f s) ≤ 2
at_most_two None None = omega arith
at_most_two None (Some e) = omega arith
at_most_two (Some e) None = omega arith
at_most_two (Some e) (Some g) = omega arith

-- ---- the plain form

module _ (w : Watch) (count : ℕ) (p : proper w ≡ true) where
  kept : Kept w
  kept = proper_kept w p

  next : Kept (taken_count w count).watch
  next = proper_kept (taken_count w count).watch (proper_counted w count p)

  frames_plain : every plain_event (event_in (taken_count w count).frames) ≡ true
  unfolding taken_count arisen_in plain_event row advanced summed
  frames_plain =
      let set = frames_set w.frames.length w.frames.threshold kept.frames.set in
      let fits = next.frames.fits in
      by_cond (λ (a : Option Event). every plain_event (event_in a) ≡ true) (arises w.frames count)
      (λ _.
      rw (
        lt-ltb (stamp_after w) (2 ^ 16) next.stamp,
        lt-ltb w.frames.length (2 ^ 16) (omega arith),
        lt-ltb w.frames.threshold (2 ^ 32) (omega arith),
        lt-ltb (summed w.frames count) (2 ^ 32) (omega arith),
        lt-ltb (frames_after w count).total (2 ^ 64) fits.total,
        lt-ltb (frames_after w count).events (2 ^ 32) fits.events,
      ))
      (λ _. refl)

  seconds_plain : every plain_event (event_in (taken_count w count).seconds) ≡ true
  unfolding taken_count arisen_in plain_event row advanced summed
  seconds_plain =
      let s = kept.seconds in
      let set = seconds_set_lem w.seconds.length w.seconds.threshold s.set in
      let fits = next.seconds.fits in
      let errors : summed w.seconds (errored_by w count) < 2 ^ 16 = omega (arith, added_most w count) in
      by_cond (λ (a : Option Event). every plain_event (event_in a) ≡ true) (arises w.seconds (errored_by w count))
      (λ _.
      rw (
        lt-ltb (stamp_after w) (2 ^ 16) next.stamp,
        lt-ltb w.seconds.length (2 ^ 16) (omega arith),
        lt-ltb w.seconds.threshold (2 ^ 16) (omega arith),
        lt-ltb (summed w.seconds (errored_by w count)) (2 ^ 16) errors,
        lt-ltb (seconds_after w count).total (2 ^ 32) next.seconds.total,
        lt-ltb (seconds_after w count).events (2 ^ 32) fits.events,
      ))
      (λ _. refl)

  -- with one at least they make a plain notification
  pub arisen_plain : 0 < length (shown_by w count) → plain_events (shown_by w count) ≡ true
  arisen_plain h =
      let f = (taken_count w count).frames in
      let s = (taken_count w count).seconds in
      let es = shown_by w count in
      rw (le-leb 1 (length es) h, le-leb (length es) most_events (omega (arith, at_most_two f s)), of_both plain_event f s frames_plain seconds_plain)

-- ---- the threshold

-- "when errors reach or exceed the threshold"
reaches_in : (kind stamp added : ℕ) (before after : Window) → after.threshold ≡ before.threshold → every reaches_own (event_in (arisen_in kind stamp before added after)) ≡ true
unfolding arisen_in arises
reaches_in kind stamp added before after same =
    by_cond (λ (a : Option Event). every reaches_own (event_in a) ≡ true) (arises before added)
    (λ y. rw (same, and_r (ends before) (leb before.threshold (summed before added)) y)) (λ _. refl)

pub arisen_reaches : (w : Watch) (count : ℕ) → every reaches_own (shown_by w count) ≡ true
unfolding taken_count advanced
arisen_reaches w count =
    of_both reaches_own (taken_count w count).frames (taken_count w count).seconds
    (reaches_in 2 (stamp_after w) count w.frames (frames_after w count) refl)
    (reaches_in 4 (stamp_after w) (errored_by w count) w.seconds (seconds_after w count) refl)
