-- The frames of a meter's newest intervals, which stand as digits of one number: with one frame more, and with one interval more.
use Prim.Native.Nat.{ℕ, zero, suc, ◌+◌, ◌-◌, ◌*◌, ◌/◌, ◌%◌, ◌^◌, ◌<◌, ◌≤◌}
use mathlib.Core.Path.{◌≡◌, refl, ap, ◌∙◌}
use mathlib.Core.Bool.{true}
use native.Mathlib.Nat.{pow-suc}
use native.Mathlib.Omega.{arith}
use borrow.Author.Tests.{ltb-true}
use lib.Arith.{digits_div, digits_mod, mod-mul}
use Rattle.link_limit.specs.Limit.{most_frames, stretch_intervals, frames_of_newest, written_frames, has_room, charged_meter, turned_meter}
use Rattle.link_limit.specs.declared.Meter.{Meter}
use Rattle.link_limit.proofs.Newest.{newest_step}

-- ---- one frame more

-- the present interval's frames are among those of the stretch: where that has room its digit has too
pub present_room : (m : Meter) → has_room m ≡ true → m.intervals % 16 < most_frames
unfolding has_room written_frames
present_room m h = omega (arith, ltb-true (written_frames m) most_frames h, newest_step stretch_intervals m.intervals (omega arith))

newest_more : (k intervals : ℕ) → intervals % 16 < 15 → frames_of_newest (suc k) (intervals + 1) ≡ frames_of_newest (suc k) intervals + 1
unfolding frames_of_newest
newest_more k intervals h =
    let q : (intervals + 1) / 16 ≡ intervals / 16 = omega arith in
    let r : (intervals + 1) % 16 ≡ intervals % 16 + 1 = omega arith in
    rw (q, r) (omega arith)

pub charged_newest : (m : Meter) → has_room m ≡ true → (k : ℕ) → frames_of_newest (suc k) (charged_meter m).intervals ≡ frames_of_newest (suc k) m.intervals + 1
unfolding charged_meter
charged_newest m h k = rw h (newest_more k m.intervals (omega (arith, present_room m h)))

-- ---- one interval more

-- with no frame yet
newest_opened : (k intervals : ℕ) → frames_of_newest (suc k) (intervals * 16) ≡ frames_of_newest k intervals
unfolding frames_of_newest
newest_opened k intervals =
    let q : intervals * 16 / 16 ≡ intervals = omega arith in
    let r : intervals * 16 % 16 ≡ 0 = omega arith in
    rw (q, r) (omega arith)

some_digits : (j : ℕ) → 0 < 16 ^ j
some_digits zero = omega arith
some_digits (suc j) = omega (arith, some_digits j)

-- what is cut off is not among fewer
newest_cut : (k j intervals : ℕ) → k ≤ j → frames_of_newest k (intervals % 16 ^ j) ≡ frames_of_newest k intervals
unfolding frames_of_newest
newest_cut zero j intervals h = refl
newest_cut (suc k) zero intervals h = absurd (omega arith)
newest_cut (suc k) (suc j) intervals h =
    let low : intervals % 16 < 16 = omega arith in
    let e : intervals % (16 ^ j * 16) ≡ intervals / 16 % 16 ^ j * 16 + intervals % 16 = mod-mul intervals (some_digits j) (omega arith) in
    let r : intervals % (16 ^ j * 16) % 16 ≡ intervals % 16 = ap (λ (x : ℕ). x % 16) e ∙ digits_mod (intervals / 16 % 16 ^ j) low in
    let q : intervals % (16 ^ j * 16) / 16 ≡ intervals / 16 % 16 ^ j = ap (λ (x : ℕ). x / 16) e ∙ digits_div (intervals / 16 % 16 ^ j) low in
    rw (pow-suc 16 j, q, r) (ap (λ (x : ℕ). intervals % 16 + x) (newest_cut k j (intervals / 16) (omega arith)))

-- the newest k + 1 have what the newest k had
pub turned_newest : (m : Meter) (k : ℕ) → k < stretch_intervals → frames_of_newest (suc k) (turned_meter m).intervals ≡ frames_of_newest k m.intervals
unfolding turned_meter
turned_newest m k h =
    let ten : ℕ = stretch_intervals - 1 in
    newest_opened k (m.intervals % 16 ^ ten) ∙ newest_cut k ten m.intervals (omega arith)

-- and fewer have no more
newest_fewer : (k intervals : ℕ) → frames_of_newest k intervals ≤ frames_of_newest (suc k) intervals
unfolding frames_of_newest
newest_fewer zero intervals = omega arith
newest_fewer (suc k) intervals = omega (arith, newest_fewer k (intervals / 16))

pub turned_written : (m : Meter) → written_frames (turned_meter m) ≤ written_frames m
unfolding written_frames
turned_written m =
    let ten : ℕ = stretch_intervals - 1 in
    omega (arith, turned_newest m ten (omega arith), newest_fewer ten m.intervals)

-- ---- none

pub newest_zero : (k : ℕ) → frames_of_newest k 0 ≡ 0
unfolding frames_of_newest
newest_zero zero = refl
newest_zero (suc k) = omega (arith, newest_zero k)
