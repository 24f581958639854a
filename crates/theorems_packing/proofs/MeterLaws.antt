-- The two laws of a meter in octets.
use Prim.Native.Nat.{ℕ, ◌^◌}
use mathlib.Core.Path.{◌≡◌, refl}
use mathlib.Core.List.{List}
use mathlib.Core.Bool.{true}
use native.Mathlib.Omega.{arith}
use borrow.Author.Tests.{ltb-true, lt-ltb}
use lib.Dec.{ltb}
use lib.ListN.{length}
use Rattle.octets.specs.Octets.{Octets}
use Rattle.octets.proofs.Bools.{and_l, and_r}
use Rattle.link_limit.specs.declared.Meter.{Meter}
use Rattle.link_limit.specs.Limit.{is_bounded, second_ticks, stretch_intervals}
use Rattle.oam_packing.specs.Meter.{meter_widths, meter_length, meter_numbers, meter_with, meter_octets, meter_from}
use Rattle.theorems_packing.proofs.Fielding.{part_back, part_again}

pub meter_back : (m : Meter) → is_bounded m ≡ true → meter_from (meter_octets m) ≡ m
unfolding meter_from meter_octets is_bounded
meter_back m h =
    let ticks : ltb m.ticks second_ticks ≡ true = search and_l in
    let intervals : ltb m.intervals (16 ^ stretch_intervals) ≡ true = search (and_l, and_r) in
    part_back meter_widths meter_numbers meter_with m refl
    (rw (
      lt-ltb m.ticks (256 ^ 1) (omega (arith, ltb-true m.ticks second_ticks ticks)),
      lt-ltb m.intervals (256 ^ 6) (omega (arith, ltb-true m.intervals (16 ^ stretch_intervals) intervals)),
    ))
    refl

pub meter_again : (x : List ℕ) → Octets x → length x ≡ meter_length → meter_octets (meter_from x) ≡ x
unfolding meter_from meter_octets
meter_again x o l = part_again meter_widths meter_numbers meter_with x o l refl
