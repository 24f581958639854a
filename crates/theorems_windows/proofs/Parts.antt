-- The parts of `proper` as facts on a watch's numbers, both ways.
use Prim.Native.Nat.{◌/◌, ◌^◌, ◌<◌, ◌≤◌}
use mathlib.Core.Path.{◌≡◌, refl, ap}
use mathlib.Core.Bool.{Bool, true, false, not, ◌||◌}
use borrow.Author.Tests.{ltb-true, leb-true, eqb-true, not-true, lt-ltb, le-leb, eq-eqb, ne_eqb}
use lib.Dec.{eqb}
use Rattle.octets.proofs.Bools.{never, not_both, and_l, and_r}
use Rattle.link_limit.specs.Limit.{second_ticks}
use Rattle.link_windows.specs.declared.Watch.{Watch}
use Rattle.link_windows.specs.declared.Window.{Window}
use Rattle.link_windows.specs.Watches.{phase_of}
use Rattle.link_windows.specs.Ranges.{frame_settings, seconds_settings, fitting, frames_proper, seconds_proper, proper}
use Rattle.link_windows.proofs.Settings.{Fits, is_fitting}

implied : (a b : Bool) → not a || b ≡ true → a ≡ true → b ≡ true
implied true b h t = h
implied false b h t = never t

is_implied : (a b : Bool) → (a ≡ true → b ≡ true) → not a || b ≡ true
is_implied true b f = f refl
is_implied false b f = refl

pub record FramesKept (f : Window) : Type 0 where
  pub set : frame_settings f.length f.threshold ≡ true
  pub inside : f.at < f.length
  pub start : f.at ≡ 0 → f.errors ≡ 0
  pub fits : Fits f

pub record SecondsKept (s : Window) : Type 0 where
  pub set : seconds_settings s.length s.threshold ≡ true
  pub inside : s.at < s.length
  pub seconds : s.errors ≤ s.at / second_ticks
  pub total : s.total < 2 ^ 32
  pub fits : Fits s

pub record Kept (w : Watch) : Type 0 where
  pub frames : FramesKept w.frames
  pub seconds : SecondsKept w.seconds
  pub bad : w.bad ≡ true → phase_of w ≡ 0 → ⊥
  pub stamp : w.stamp < 2 ^ 16

fits_is : (w : Window) → fitting w ≡ true → Fits w
fits_is w h =
    record {
      errors = ltb-true w.errors (2 ^ 32) (search and_l);
      total = ltb-true w.total (2 ^ 64) (search (and_l, and_r));
      events = ltb-true w.events (2 ^ 32) (search (and_l, and_r));
    }

frames_kept : (f : Window) → frames_proper f ≡ true → FramesKept f
unfolding frames_proper
frames_kept f h =
    record {
      set = search and_l;
      inside = ltb-true f.at f.length (search (and_l, and_r));
      start = λ z. eqb-true f.errors 0 (implied (eqb f.at 0) (eqb f.errors 0) (search (and_l, and_r)) (eq-eqb f.at 0 z));
      fits = fits_is f (search (and_l, and_r));
    }

is_frames_proper : (f : Window) → FramesKept f → frames_proper f ≡ true
unfolding frames_proper
is_frames_proper f h =
    let start = is_implied (eqb f.at 0) (eqb f.errors 0) (λ z. eq-eqb f.errors 0 (h.start (eqb-true f.at 0 z))) in
    rw (h.set, lt-ltb f.at f.length h.inside, start, is_fitting f h.fits)

seconds_kept : (s : Window) → seconds_proper s ≡ true → SecondsKept s
unfolding seconds_proper
seconds_kept s h =
    record {
      set = search and_l;
      inside = ltb-true s.at s.length (search (and_l, and_r));
      seconds = leb-true s.errors (s.at / second_ticks) (search (and_l, and_r));
      total = ltb-true s.total (2 ^ 32) (search (and_l, and_r));
      fits = fits_is s (search (and_l, and_r));
    }

is_seconds_proper : (s : Window) → SecondsKept s → seconds_proper s ≡ true
unfolding seconds_proper
is_seconds_proper s h =
    rw (
      h.set,
      lt-ltb s.at s.length h.inside,
      le-leb s.errors (s.at / second_ticks) h.seconds,
      lt-ltb s.total (2 ^ 32) h.total,
      is_fitting s h.fits,
    )

pub proper_kept : (w : Watch) → proper w ≡ true → Kept w
unfolding proper
proper_kept w h =
    record {
      frames = frames_kept w.frames (search and_l);
      seconds = seconds_kept w.seconds (search (and_l, and_r));
      bad = λ b z. not_both (eq-eqb (phase_of w) 0 z) (not-true (eqb (phase_of w) 0) (implied w.bad (not (eqb (phase_of w) 0)) (search (and_l, and_r)) b));
      stamp = ltb-true w.stamp (2 ^ 16) (search (and_l, and_r));
    }

pub kept_proper : (w : Watch) → Kept w → proper w ≡ true
unfolding proper
kept_proper w h =
    let bad = is_implied w.bad (not (eqb (phase_of w) 0)) (λ b. ap not (ne_eqb (phase_of w) 0 (h.bad b))) in
    rw (is_frames_proper w.frames h.frames, is_seconds_proper w.seconds h.seconds, bad, lt-ltb w.stamp (2 ^ 16) h.stamp)
