-- Small files, computed.
use mathlib.Core.Path.{◌≡◌, refl}
use Rattle.frame.specs.Frame.{header_answer, body_answer, decode}
use Rattle.text.specs.Decimal.{decimal_in}
use Rattle.text_listing.specs.Rows.{columns, row_of}
use Rattle.text_captures.specs.Captures.{number, is_little, is_capture, is_whole, record_entry, entries_up_to, entries, numbered, capture_listing}
use Rattle.theorems_frame.specs.Tables.{all_found, all_expected}
use Rattle.theorems_captures.specs.Files.{four_octets}
use Rattle.theorems_captures.specs.Examples.{files}

pub files_hold : all_found files ≡ all_expected files
unfolding header_answer body_answer decode decimal_in columns row_of number is_little is_capture is_whole record_entry entries_up_to entries numbered capture_listing four_octets files
files_hold = refl
