-- Every watch that counts make of a fresh one is proper, and its phase goes as the ticks of an end's timer second.
use Prim.Native.Nat.{ℕ, ◌+◌, ◌-◌, ◌/◌, ◌%◌, ◌^◌, ◌<◌, ◌≤◌}
use mathlib.Core.Path.{◌≡◌, refl, ◌∙◌}
use mathlib.Core.List.{List, [], ◌∷◌, ◌++◌}
use mathlib.Core.Bool.{Bool, true, false, cond}
use native.Mathlib.Omega.{arith}
use borrow.Author.Tests.{leb-true, leb-false, eqb-true, eqb-false}
use lib.Dec.{leb}
use Rattle.octets.specs.Bits.{bit_of}
use Rattle.octets.proofs.Bools.{whether, by_cond, never}
use Rattle.link_limit.specs.Limit.{second_ticks}
use Rattle.link_windows.specs.declared.Watch.{Watch}
use Rattle.link_windows.specs.declared.Window.{Window}
use Rattle.link_windows.specs.Windows.{ends, summed, arises, events_after, advanced}
use Rattle.link_windows.specs.Watches.{phase_of, closes_second, bad_second, bad_after, errored_by, seconds_after, taken_count}
use Rattle.link_windows.specs.Ranges.{proper}
use Rattle.theorems_windows.specs.Runs.{watch_by, WindowSettings, Accepted, fresh_by}
use Rattle.link_windows.proofs.Settings.{Fits, frames_set, seconds_set_lem}
use Rattle.theorems_windows.proofs.Parts.{SecondsKept, proper_kept, kept_proper}

-- ---- a fresh watch

pub phase_fresh : (s : WindowSettings) → phase_of (fresh_by s) ≡ 0
unfolding phase_of
phase_fresh s = refl

pub proper_fresh : (s : WindowSettings) → Accepted s → proper (fresh_by s) ≡ true
proper_fresh s a =
    let f = frames_set s.frame_window s.frame_threshold a.frames in
    let t = seconds_set_lem s.seconds_window s.seconds_threshold a.seconds in
    kept_proper (fresh_by s)
    (record {
      frames = record { set = a.frames; inside = omega arith; start = λ _. refl; fits = omega arith };
      seconds = record { set = a.seconds; inside = omega arith; seconds = omega arith; total = omega arith; fits = omega arith };
      bad = λ h _. never h;
      stamp = omega arith;
    })

-- ---- a window after a tick

module _ (w : Window) (added : ℕ) where
  advanced_fits : Fits w → Fits (advanced w added)
  unfolding advanced summed events_after
  advanced_fits h =
      record {
        errors = by_cond (λ (n : ℕ). n < 2 ^ 32) (ends w) (λ _. omega arith) (λ _. omega arith);
        total = omega arith;
        events = by_cond (λ (n : ℕ). n < 2 ^ 32) (arises w added) (λ _. omega arith) (λ _. h.events);
      }

  advanced_inside : w.at < w.length → (advanced w added).at < w.length
  unfolding advanced ends
  advanced_inside h =
      by_cond (λ (n : ℕ). n < w.length) (ends w) (λ _. omega arith) (λ f. leb-false w.length (w.at + 1) f)

  -- only a window's end leaves no tick in it
  advanced_start : (advanced w added).at ≡ 0 → (advanced w added).errors ≡ 0
  unfolding advanced
  advanced_start =
      whether (ends w) (λ t _. rw t) (λ f z. absurd (let n : w.at + 1 ≡ 0 = rw f at z in omega arith))

-- ---- a watch after a tick

-- a window of seconds ends where a second does: "a multiple of 10"
phase_advanced : (s : Window) (added : ℕ) → SecondsKept s → (advanced s added).at % second_ticks ≡ (s.at + 1) % second_ticks
unfolding advanced ends
phase_advanced s added k =
    let set = seconds_set_lem s.length s.threshold k.set in
    by_cond (λ (n : ℕ). n % second_ticks ≡ (s.at + 1) % second_ticks) (ends s)
    (λ t. omega (arith, leb-true s.length (s.at + 1) t)) (λ _. refl)

one_on : (n : ℕ) → (n + 1) % second_ticks ≡ cond (leb (second_ticks - 1) (n % second_ticks)) 0 (n % second_ticks + 1)
one_on n =
    by_cond (λ (m : ℕ). (n + 1) % second_ticks ≡ m) (leb (second_ticks - 1) (n % second_ticks))
    (λ t. omega (arith, leb-true (second_ticks - 1) (n % second_ticks) t)) (λ f. omega (arith, leb-false (second_ticks - 1) (n % second_ticks) f))

pub bit_most : (b : Bool) → bit_of b ≤ 1
bit_most true = omega arith
bit_most false = omega arith

module _ (w : Watch) (count : ℕ) where
  -- a tick adds at most one errored second, and that where it closes one
  pub added_most : errored_by w count ≤ (w.seconds.at + 1) / second_ticks - w.seconds.at / second_ticks
  unfolding closes_second phase_of
  added_most =
      by_cond (λ (n : ℕ). n ≤ (w.seconds.at + 1) / second_ticks - w.seconds.at / second_ticks) (closes_second w)
      (λ t. omega (arith, bit_most (bad_second w count), eqb-true (w.seconds.at % second_ticks) (second_ticks - 1) t)) (λ _. omega arith)

  seconds_after_lem : SecondsKept w.seconds → (seconds_after w count).errors ≤ (seconds_after w count).at / second_ticks
  unfolding advanced summed
  seconds_after_lem k =
      whether (ends w.seconds) (λ t. rw t (omega arith)) (λ f. rw f (omega (arith, added_most)))

  -- a second stands open after a tick that does not close one
  bad_after_lem : SecondsKept w.seconds → bad_after (closes_second w) (bad_second w count) ≡ true → phase_of (taken_count w count).watch ≡ 0 → ⊥
  unfolding taken_count phase_of closes_second
  bad_after_lem k =
      whether (closes_second w) (λ t b z. never (rw t at b))
      (λ f b z. eqb-false (w.seconds.at % second_ticks) (second_ticks - 1) f (omega (arith, z, phase_advanced w.seconds (errored_by w count) k)))

  pub phase_counted : proper w ≡ true → phase_of (taken_count w count).watch ≡ cond (leb (second_ticks - 1) (phase_of w)) 0 (phase_of w + 1)
  unfolding taken_count phase_of
  phase_counted h = phase_advanced w.seconds (errored_by w count) (proper_kept w h).seconds ∙ one_on w.seconds.at

  pub proper_counted : proper w ≡ true → proper (taken_count w count).watch ≡ true
  unfolding taken_count advanced
  proper_counted h =
      let k = proper_kept w h in
      kept_proper (taken_count w count).watch
      (record {
        frames = record {
          set = k.frames.set;
          inside = advanced_inside w.frames count k.frames.inside;
          start = advanced_start w.frames count;
          fits = advanced_fits w.frames count k.frames.fits;
        };
        seconds = record {
          set = k.seconds.set;
          inside = advanced_inside w.seconds (errored_by w count) k.seconds.inside;
          seconds = seconds_after_lem k.seconds;
          total = omega arith;
          fits = omega (arith, advanced_fits w.seconds (errored_by w count) k.seconds.fits);
        };
        bad = bad_after_lem k.seconds;
        stamp = omega arith;
      })

-- ---- a watch after any counts

-- some of them after others
pub by_appended : (w : Watch) (h new : List ℕ) → watch_by (watch_by w h) new ≡ watch_by w (h ++ new)
by_appended w [] new = refl
by_appended w (count ∷ h) new = by_appended (taken_count w count).watch h new

pub proper_by : (w : Watch) (h : List ℕ) → proper w ≡ true → proper (watch_by w h) ≡ true
proper_by w [] p = p
proper_by w (count ∷ h) p = proper_by (taken_count w count).watch h (proper_counted w count p)
