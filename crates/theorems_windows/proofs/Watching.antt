-- What a watch holds after any counts from fresh is what their history says: "The totals must equal sums over the whole history of
-- counts, not over what was sent."
use Prim.Native.Nat.{ℕ, zero, suc, ◌+◌, ◌*◌, ◌/◌, ◌%◌, ◌^◌, ◌<◌, ◌≤◌, min}
use mathlib.Core.Path.{◌≡◌, refl, sym, ap, subst, ◌∙◌}
use mathlib.Core.List.{List, [], ◌∷◌, ◌++◌, append-nil}
use mathlib.Core.Bool.{not, ◌||◌}
use native.Mathlib.Nat.{mod-lt, zero-mod}
use native.Mathlib.Omega.{arith}
use borrow.Author.Tests.{eqb-true, eqb-false, eq-eqb, ne_eqb}
use lib.Dec.{eqb}
use lib.ListN.{length, drop}
use lib.Seq.{append_snoc}
use Rattle.octets.proofs.Bools.{whether}
use Rattle.link_limit.specs.Limit.{second_ticks}
use Rattle.link_windows.specs.declared.Watch.{Watch}
use Rattle.link_windows.specs.declared.Window.{Window}
use Rattle.link_windows.specs.Windows.{most_errors, advanced}
use Rattle.link_windows.specs.Watches.{phase_of, closes_second, bad_second, errored_by, frames_after, seconds_after, taken_count}
use Rattle.theorems_windows.specs.History.{sum_of, windows_of, present_of, errored, errored_of, seconds_of}
use Rattle.theorems_windows.specs.Runs.{watch_by, WindowSettings, Accepted, fresh_by}
use Rattle.theorems_windows.specs.Numbers.{FramesHeld, SecondsHeld, HeldAfter}
use Rattle.link_windows.proofs.Settings.{FrameSet, SecondsSet, frames_set, seconds_set_lem}
use Rattle.theorems_windows.proofs.Keeping.{bit_most}
use Rattle.theorems_windows.proofs.Cutting.{length_more, sum_more, present_length, present_inside, present_ending}
use Rattle.theorems_windows.proofs.Summing.{Sums, last, is_last, not_last, tick_on, sums_of, sums_none, sums_more, seconds_by, by_seconds, second_sums, second_sums_more}
use Rattle.theorems_windows.proofs.Holding.{Holds, advanced_holds}

-- ---- errored seconds are few

errored_few : (k : ℕ) (ws : List (List ℕ)) → sum_of (drop k (errored_of ws)) ≤ length (drop k (errored_of ws))
errored_few zero [] = omega arith
errored_few zero (w ∷ ws) = omega (arith, bit_most (errored w), errored_few zero ws)
errored_few (suc k) [] = omega arith
errored_few (suc k) (w ∷ ws) = errored_few k ws

-- of the present window less than it has seconds
pub seconds_few : (m : ℕ) → 0 < m → (h : List ℕ) → sum_of (present_of m (seconds_of h)) < m
unfolding present_of seconds_of
seconds_few m some h =
    let ws : List (List ℕ) = windows_of second_ticks h in
    let few = errored_few (length (errored_of ws) / m * m) ws in
    omega (arith, few, present_length m (errored_of ws), mod-lt (length (errored_of ws)) some)

-- ---- both windows hold the sums of a history

module _ (n t : ℕ) (h : List ℕ) (f : Window) where
  pub frames_holds : FramesHeld n t h f → Holds n t (sums_of n t h) f
  frames_holds k = record { window = k.window; threshold = k.threshold; at = k.at; errors = k.errors; events = k.events }

  pub seconds_holds : SecondsSet n t → SecondsHeld n t h f → Holds n t (second_sums (n / second_ticks) t h) f
  seconds_holds set k =
      record {
        window = k.window;
        threshold = k.threshold;
        at = k.at;
        errors = omega (arith, k.errors, seconds_few (n / second_ticks) (omega arith) h);
        events = k.events;
      }

-- ---- a tick more

-- a bad frame in a list of counts, or in the one after it
errored_or : (xs : List ℕ) (x : ℕ) → errored (xs ++ (x ∷ [])) ≡ errored xs || not (eqb x 0)
errored_or xs x =
    rw (sum_more xs x)
    (whether (eqb (sum_of xs) 0)
    (λ z. let none : sum_of xs + x ≡ x = omega (arith, eqb-true (sum_of xs) 0 z) in rw (z, none))
    (λ y. rw (y, ne_eqb (sum_of xs + x) 0 (λ e. eqb-false (sum_of xs) 0 y (omega arith)))))

module _ (s : WindowSettings) (a : Accepted s) (h : List ℕ) (w : Watch) (o : HeldAfter s h w) (x : ℕ) where
  frame_set : FrameSet s.frame_window s.frame_threshold
  frame_set = frames_set s.frame_window s.frame_threshold a.frames

  seconds_set : SecondsSet s.seconds_window s.seconds_threshold
  seconds_set = seconds_set_lem s.seconds_window s.seconds_threshold a.seconds

  tens : s.seconds_window / second_ticks * second_ticks ≡ s.seconds_window
  tens = omega (arith, seconds_set)

  -- the tick closes a second where the history has nine of it
  closes_is : closes_second w ≡ last second_ticks (length h)
  unfolding closes_second phase_of
  closes_is =
      let m : ℕ = s.seconds_window / second_ticks in
      let some : 0 < m = omega (arith, seconds_set) in
      let e = subst (λ (n : ℕ). length h % n ≡ length h / second_ticks % m * second_ticks + length h % second_ticks) tens (by_seconds m (length h) some) in
      whether (last second_ticks (length h))
      (λ y. rw y (eq-eqb (w.seconds.at % second_ticks) 9 (omega (arith, o.seconds.at, is_last second_ticks (length h) y))))
      (λ z. rw z (ne_eqb (w.seconds.at % second_ticks) 9 (λ q. omega (arith, o.seconds.at, not_last second_ticks (length h) z))))

  bad_is : bad_second w x ≡ errored (present_of second_ticks h ++ (x ∷ []))
  bad_is = rw o.bad (sym (errored_or (present_of second_ticks h) x))

  pub errored_is : errored_by w x ≡ seconds_by h x
  errored_is = rw (closes_is, bad_is)

  frames_more : FramesHeld s.frame_window s.frame_threshold (h ++ (x ∷ [])) (frames_after w x)
  unfolding advanced
  frames_more =
      let n : ℕ = s.frame_window in
      let t : ℕ = s.frame_threshold in
      let k = frames_holds n t h w.frames o.frames in
      let some : 0 < n = omega (arith, frame_set) in
      let after = subst (λ (q : Sums). Holds n t q (frames_after w x)) (sym (sums_more n t some h x))
      (advanced_holds n t (sums_of n t h) w.frames x k (omega (arith, frame_set)) some) in
      record {
        window = after.window;
        threshold = after.threshold;
        at = after.at;
        errors = after.errors;
        total = rw (sum_more h x) (omega (arith, o.frames.total));
        events = after.events;
      }

  seconds_more : SecondsHeld s.seconds_window s.seconds_threshold (h ++ (x ∷ [])) (seconds_after w x)
  unfolding advanced
  seconds_more =
      let n : ℕ = s.seconds_window in
      let m : ℕ = n / second_ticks in
      let t : ℕ = s.seconds_threshold in
      let k = seconds_holds n t h w.seconds seconds_set o.seconds in
      let some : 0 < m = omega (arith, seconds_set) in
      let sums : second_sums m t (h ++ (x ∷ [])) ≡ tick_on n t (errored_by w x) (second_sums m t h) =
      second_sums_more m t some h x ∙ rw (tens, errored_is) in
      let after = subst (λ (q : Sums). Holds n t q (advanced w.seconds (errored_by w x))) (sym sums)
      (advanced_holds n t (second_sums m t h) w.seconds (errored_by w x) k (omega (arith, seconds_set)) (omega (arith, seconds_set))) in
      record {
        window = after.window;
        threshold = after.threshold;
        at = after.at;
        errors = omega (arith, after.errors, seconds_few m some (h ++ (x ∷ [])), seconds_set);
        total = omega (arith, o.seconds.total, ap (λ (q : Sums). q.total) sums);
        events = after.events;
      }

  pub watch_more : HeldAfter s (h ++ (x ∷ [])) (taken_count w x).watch
  unfolding taken_count
  watch_more =
      record {
        frames = frames_more;
        seconds = seconds_more;
        stamp = omega (arith, o.stamp, length_more h x);
        bad = rw (closes_is, bad_is)
            (whether (last second_ticks (length h))
            (λ y. rw (y, present_ending second_ticks h x (omega arith) (is_last second_ticks (length h) y)))
            (λ z. rw (z, present_inside second_ticks h x (not_last second_ticks (length h) z))));
      }

-- ---- from fresh

fresh_watch_lem : (s : WindowSettings) → HeldAfter s [] (fresh_by s)
unfolding present_of seconds_of windows_of
fresh_watch_lem s =
    let none = sums_none s.frame_window s.frame_threshold in
    let no_second = sums_none (s.seconds_window / second_ticks) s.seconds_threshold in
    record {
      frames = record {
        window = refl;
        threshold = refl;
        at = sym (zero-mod s.frame_window);
        errors = ap (λ (q : Sums). min most_errors q.errors) (sym none);
        total = refl;
        events = ap (λ (q : Sums). q.events % 2 ^ 32) (sym none);
      };
      seconds = record {
        window = refl;
        threshold = refl;
        at = sym (zero-mod s.seconds_window);
        errors = ap (λ (q : Sums). q.errors) (sym no_second);
        total = refl;
        events = ap (λ (q : Sums). q.events % 2 ^ 32) (sym no_second);
      };
      stamp = refl;
      bad = refl;
    }

-- counts that go on from others
from : (s : WindowSettings) → Accepted s → (done h : List ℕ) (w : Watch) → HeldAfter s done w → HeldAfter s (done ++ h) (watch_by w h)
from s a done [] w o = rw (append-nil done) o
from s a done (x ∷ h) w o = rw append_snoc at (from s a (done ++ (x ∷ [])) h (taken_count w x).watch (watch_more s a done w o x))

pub watch_history : (s : WindowSettings) → Accepted s → (h : List ℕ) → HeldAfter s h (watch_by (fresh_by s) h)
watch_history s a h = from s a [] h (fresh_by s) (fresh_watch_lem s)
