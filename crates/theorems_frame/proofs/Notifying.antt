-- How long a notification in plain form is: at most 660 octets, and one of 16 symbol period events has as many.
use Prim.Native.Nat.{ℕ, ◌*◌, ◌≤◌}
use mathlib.Core.Path.{◌≡◌, refl}
use mathlib.Core.List.{List, [], ◌∷◌}
use mathlib.Core.Bool.{true}
use native.Mathlib.Omega.{arith}
use borrow.Author.Tests.{eqb-true}
use lib.ListN.{length}
use Rattle.octets.specs.Tests.{every}
use Rattle.octets.proofs.Bools.{by_cond, and_l, and_r}
use Rattle.frame_tlvs.specs.Tlvs.{row, event_length}
use Rattle.frame_tlvs.specs.declared.Event.{Event}
use Rattle.frame.specs.Frame.{notification}
use Rattle.frame_writer.specs.Encode.{header_octets, event_octets, encode}
use Rattle.frame_writer.specs.Plain.{plain_flags, plain_event, most_events, plain_body, plain, events_length, sized}
use Rattle.frame_writer.specs.Writing.{writes, message_of, events_of}
use Rattle.frame_writer.proofs.Lengths.{plain_body_lem, length-encode}
use Rattle.theorems_frame.specs.Tables.{all_found, all_expected}
use Rattle.theorems_frame.specs.Notifying.{longest_notification, symbol_period, rows}
use Rattle.theorems_frame.proofs.Sizes.{notification_short}

-- no notification in plain form is longer
pub notification-length : (source flags n : ℕ) (es : List Event) → plain (message_of source flags (notification n es)) ≡ true
    → length (encode (message_of source flags (notification n es))) ≤ longest_notification
notification-length source flags n es h =
    let m = message_of source flags (notification n es) in
    let b = plain_body_lem m h in
    omega (arith, length-encode m b, notification_short n es b)

-- nor what is measured of one; of what has no plain form it is 0
pub notification-sized : (n : ℕ) (es : List Event) → sized (notification n es) ≤ longest_notification
unfolding sized
notification-sized n es =
    by_cond (λ (octets : ℕ). octets ≤ longest_notification) (plain_body (notification n es))
    (λ t. omega (arith, notification_short n es t)) (λ _. omega arith)

-- symbol period events have 40 octets each
symbol_periods : (es : List Event) → every symbol_period es ≡ true → events_length es ≡ 40 * length es
unfolding event_length row
symbol_periods [] h = refl
symbol_periods (e ∷ es) h =
    let one = eqb-true e.kind 1 (search and_l) in
    rw one (omega (arith, symbol_periods es (search and_r)))

-- as many of them as there may be make the longest
pub sixteen_sized : (n : ℕ) (es : List Event) → plain_body (notification n es) ≡ true → length es ≡ most_events → every symbol_period es ≡ true
    → sized (notification n es) ≡ longest_notification
unfolding sized
sixteen_sized n es h l s = rw h (omega (arith, symbol_periods es s))

-- ---- examples

pub notifications_hold : all_found rows ≡ all_expected rows
unfolding writes events_of plain plain_flags plain_event encode header_octets event_octets event_length row
notifications_hold = refl
