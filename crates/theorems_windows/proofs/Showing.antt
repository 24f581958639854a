-- What a count shows is what the history says that has it as its last.
use Prim.Native.Nat.{ℕ, ◌+◌, ◌*◌, ◌/◌, ◌%◌, ◌<◌}
use mathlib.Core.Path.{◌≡◌, sym, ap, ◌∙◌}
use mathlib.Core.List.{List, [], ◌∷◌, ◌++◌}
use native.Mathlib.Omega.{arith}
use borrow.Author.Tests.{ne_eqb}
use lib.ListN.{length}
use Rattle.octets.proofs.Bools.{whether}
use Rattle.link_limit.specs.Limit.{second_ticks}
use Rattle.link_windows.specs.declared.Watch.{Watch}
use Rattle.link_windows.specs.Windows.{summed, arisen_in}
use Rattle.link_windows.specs.Watches.{errored_by, taken_count}
use Rattle.theorems_windows.specs.History.{sum_of, present_of, seconds_of, ends_at, frames_arisen, seconds_arisen}
use Rattle.theorems_windows.specs.Runs.{watch_by, WindowSettings, Accepted, fresh_by}
use Rattle.theorems_windows.specs.Numbers.{HeldAfter, ArisenOf}
use Rattle.link_windows.proofs.Settings.{frames_set, seconds_set_lem}
use Rattle.theorems_windows.proofs.Keeping.{added_most}
use Rattle.theorems_windows.proofs.Cutting.{inside_mod, ending_mod, length_more, sum_more, last_ending}
use Rattle.theorems_windows.proofs.Summing.{last, is_last, not_last, sums_of, second_sums, seconds_last}
use Rattle.theorems_windows.proofs.Holding.{summed_is, arises_is}
use Rattle.theorems_windows.proofs.Watching.{seconds_few, frames_holds, seconds_holds, errored_is, watch_more, watch_history}

-- a window ends with a history where the tick before was its last but one
ends_at_lem : (n : ℕ) → 0 < n → (h : List ℕ) (x : ℕ) → ends_at n (h ++ (x ∷ [])) ≡ last n (length h)
ends_at_lem n some h x =
    rw (length_more h x)
    (whether (last n (length h))
    (λ y. rw (y, ending_mod (length h) n some (is_last n (length h) y)))
    (λ z. rw (z, inside_mod (length h) n (not_last n (length h) z), ne_eqb (length h % n + 1) 0 (λ q. omega arith))))

module _ (s : WindowSettings) (a : Accepted s) (h : List ℕ) (w : Watch) (o : HeldAfter s h w) (x : ℕ) where
  frames_shown : (taken_count w x).frames ≡ frames_arisen s.frame_window s.frame_threshold (h ++ (x ∷ []))
  unfolding taken_count arisen_in frames_arisen
  frames_shown =
      let n : ℕ = s.frame_window in
      let t : ℕ = s.frame_threshold in
      let set = frames_set n t a.frames in
      let some : 0 < n = omega arith in
      let k = frames_holds n t h w.frames o.frames in
      let more = watch_more s a h w o x in
      let f = more.frames in
      let arise = arises_is n t (sums_of n t h) w.frames x k (omega arith) in
      whether (last n (length h))
      (λ y.
      let l = ap sum_of (last_ending n h x some (is_last n (length h) y)) ∙ sum_more (present_of n h) x in
      rw (arise, ends_at_lem n some h x, l, summed_is n t (sums_of n t h) w.frames x k, more.stamp, f.window, f.threshold, f.total, f.events))
      (λ z. rw (arise, ends_at_lem n some h x, z))

  seconds_shown : (taken_count w x).seconds ≡ seconds_arisen s.seconds_window s.seconds_threshold (h ++ (x ∷ []))
  unfolding taken_count arisen_in seconds_arisen
  seconds_shown =
      let n : ℕ = s.seconds_window in
      let m : ℕ = n / second_ticks in
      let t : ℕ = s.seconds_threshold in
      let set = seconds_set_lem n t a.seconds in
      let some : 0 < n = omega arith in
      let k = seconds_holds n t h w.seconds set o.seconds in
      let more = watch_more s a h w o x in
      let f = more.seconds in
      let e : ℕ = errored_by w x in
      let arise = arises_is n t (second_sums m t h) w.seconds e k (omega arith) in
      let tens : m * second_ticks ≡ n = omega arith in
      let m_some : 0 < m = omega arith in
      whether (last n (length h))
      (λ y.
      let l = seconds_last m m_some h x (rw tens y) ∙ ap (λ (b : ℕ). sum_of (present_of m (seconds_of h)) + b) (sym (errored_is s a h w o x)) in
      let u : summed w.seconds e ≡ sum_of (present_of m (seconds_of h)) + e =
      omega (arith, summed_is n t (second_sums m t h) w.seconds e k, seconds_few m m_some h, added_most w x) in
      rw (arise, ends_at_lem n some h x, l, u, more.stamp, f.window, f.threshold, f.total, f.events))
      (λ z. rw (arise, ends_at_lem n some h x, z))

pub shown_history : (s : WindowSettings) → Accepted s → (h : List ℕ) (count : ℕ)
    → ArisenOf s (h ++ (count ∷ [])) (taken_count (watch_by (fresh_by s) h) count)
shown_history s a h count =
    let w = watch_by (fresh_by s) h in
    let o = watch_history s a h in
    record { frames = frames_shown s a h w o count; seconds = seconds_shown s a h w o count }
