-- One window's step is that of the sums: it cuts and wraps them, and what it decides is decided of them.
use Prim.Native.Nat.{ℕ, ◌+◌, ◌%◌, ◌^◌, ◌<◌, ◌≤◌, min}
use mathlib.Core.Path.{◌≡◌, sym}
use mathlib.Core.Bool.{Bool, true, false, cond, ◌&&◌}
use native.Mathlib.Omega.{arith}
use borrow.Author.Tests.{leb-true, leb-false, le-leb, lt-leb}
use lib.Dec.{leb}
use Rattle.octets.specs.Bits.{bit_of}
use Rattle.octets.proofs.Bools.{whether}
use Rattle.link_windows.specs.declared.Window.{Window}
use Rattle.link_windows.specs.Windows.{most_errors, ends, summed, arises, events_after, advanced}
use Rattle.theorems_windows.proofs.Cutting.{inside_mod, ending_mod}
use Rattle.theorems_windows.proofs.Summing.{Sums, last, is_last, not_last, tick_on}

-- a window of n ticks and a threshold t holds sums, but for the total, whose width differs
pub record Holds (n t : ℕ) (s : Sums) (w : Window) : Type 0 where
  pub window : w.length ≡ n
  pub threshold : w.threshold ≡ t
  pub at : w.at ≡ s.ticks % n
  pub errors : w.errors ≡ min most_errors s.errors
  pub events : w.events ≡ s.events % 2 ^ 32

module _ (n t : ℕ) (s : Sums) (w : Window) (x : ℕ) (h : Holds n t s w) where
  ends_is : ends w ≡ last n s.ticks
  unfolding ends
  ends_is = rw (h.window, h.at)

  pub summed_is : summed w x ≡ min most_errors (s.errors + x)
  unfolding summed
  summed_is = omega arith

  module _ (fits : t ≤ most_errors) where
    -- the cut sum reaches a threshold within the field where the whole one does
    reaches_is : leb w.threshold (summed w x) ≡ leb t (s.errors + x)
    reaches_is =
        rw (summed_is, h.threshold)
        (whether (leb t (s.errors + x))
        (λ y. rw y (le-leb t (min most_errors (s.errors + x)) (omega (arith, leb-true t (s.errors + x) y))))
        (λ z. rw z (lt-leb t (min most_errors (s.errors + x)) (omega (arith, leb-false t (s.errors + x) z)))))

    pub arises_is : arises w x ≡ last n s.ticks && leb t (s.errors + x)
    unfolding arises
    arises_is = rw (ends_is, reaches_is)

    pub advanced_holds : 0 < n → Holds n t (tick_on n t x s) (advanced w x)
    unfolding advanced events_after
    advanced_holds some =
        whether (last n s.ticks)
        (λ e.
        record {
          window = h.window;
          threshold = h.threshold;
          at = rw (ends_is, e) (sym (ending_mod s.ticks n some (is_last n s.ticks e)));
          errors = rw (ends_is, e) (omega arith);
          events = rw (arises_is, e) (more (leb t (s.errors + x)));
        })
        (λ i.
        record {
          window = h.window;
          threshold = h.threshold;
          at = rw (ends_is, i, inside_mod s.ticks n (not_last n s.ticks i)) (omega arith);
          errors = rw (ends_is, i) summed_is;
          events = rw (arises_is, i) h.events;
        })
      where
        more : (b : Bool) → cond b ((w.events + 1) % 2 ^ 32) w.events ≡ (s.events + bit_of b) % 2 ^ 32
        more true = omega arith
        more false = omega arith
