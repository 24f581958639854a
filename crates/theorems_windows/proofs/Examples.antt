-- The proved examples, under a single statement.
use mathlib.Core.Path.{◌≡◌, refl}
use mathlib.Core.List.{map}
use Rattle.link_windows.specs.Windows.{ends, summed, arises, events_after, advanced, arisen_in}
use Rattle.link_windows.specs.Watches.{phase_of, closes_second, taken_count}
use Rattle.theorems_windows.specs.History.{windows_of, seconds_of}
use Rattle.theorems_windows.specs.Examples.{Seen, rows}

pub examples_hold : map (λ (r : Seen × Seen). r.0) rows ≡ map (λ (r : Seen × Seen). r.1) rows
unfolding ends summed arises events_after advanced arisen_in phase_of closes_second taken_count windows_of seconds_of
examples_hold = refl
