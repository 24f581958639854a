-- What settings that are taken keep to, and what the types of a window's numbers alone keep to, as facts on numbers.
use Rattle.std.proofs.Common.{◌≡◌, ℕ, ◌-◌, ◌%◌, ◌^◌, ◌<◌, ◌≤◌, true, lt-ltb, eqb-true, leb-true}
use Rattle.octets.proofs.Bools.{and_l, and_r}
use Rattle.link_limit.specs.Limit.{second_ticks}
use Rattle.link_windows.specs.declared.Window.{Window}
use Rattle.link_windows.specs.Ranges.{frame_settings, seconds_settings, fitting}

pub record FrameSet (length threshold : ℕ) : Type 0 where
  pub least : 10 ≤ length
  pub most : length ≤ 600
  pub some : 1 ≤ threshold
  pub fits : threshold ≤ 2 ^ 32 - 1

pub record SecondsSet (length threshold : ℕ) : Type 0 where
  pub least : 100 ≤ length
  pub most : length ≤ 9000
  pub whole : length % second_ticks ≡ 0
  pub some : 1 ≤ threshold
  pub fits : threshold ≤ 2 ^ 16 - 1

pub frames_set : (length threshold : ℕ) → frame_settings length threshold ≡ true → FrameSet length threshold
unfolding frame_settings
frames_set length threshold h =
    record {
      least = leb-true 10 length (search (and_l, and_r));
      most = leb-true length 600 (search (and_l, and_r));
      some = leb-true 1 threshold (search (and_l, and_r));
      fits = leb-true threshold (2 ^ 32 - 1) (search (and_l, and_r));
    }

pub seconds_set_lem : (length threshold : ℕ) → seconds_settings length threshold ≡ true → SecondsSet length threshold
unfolding seconds_settings
seconds_set_lem length threshold h =
    record {
      least = leb-true 100 length (search (and_l, and_r));
      most = leb-true length 9000 (search (and_l, and_r));
      whole = eqb-true (length % second_ticks) 0 (search (and_l, and_r));
      some = leb-true 1 threshold (search (and_l, and_r));
      fits = leb-true threshold (2 ^ 16 - 1) (search (and_l, and_r));
    }

-- what the types of a window's numbers keep to
pub record Fits (w : Window) : Type 0 where
  pub errors : w.errors < 2 ^ 32
  pub total : w.total < 2 ^ 64
  pub events : w.events < 2 ^ 32

pub is_fitting : (w : Window) → Fits w → fitting w ≡ true
is_fitting w h =
    rw (lt-ltb w.errors (2 ^ 32) h.errors, lt-ltb w.total (2 ^ 64) h.total, lt-ltb w.events (2 ^ 32) h.events)
