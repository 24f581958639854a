-- The paper's proved examples, under a single statement; and those of notifications by the two sizes.
use mathlib.Core.Path.{◌≡◌, refl}
use Rattle.frame_tlvs.specs.Tlvs.{row, event_length}
use Rattle.frame_body.specs.Variables.{descriptor_step, container_step}
use Rattle.frame_writer.specs.Encode.{event_octets}
use Rattle.frame_writer.specs.Plain.{plain_event}
use Rattle.frame_writer.specs.Writing.{events_of}
use Rattle.link_end.specs.Ranges.{blank}
use Rattle.theorems_reach.proofs.Witness.{machine}
use Rattle.theorems_frame.specs.Tables.{all_found, all_expected}
use Rattle.theorems_pair.specs.Examples.{ticks_later, rows, notifications}

pub examples_hold : all_found rows ≡ all_expected rows
unfolding machine descriptor_step container_step blank ticks_later
examples_hold = refl

pub sizes_hold : all_found notifications ≡ all_expected notifications
unfolding machine events_of plain_event event_octets event_length row
sizes_hold = refl
