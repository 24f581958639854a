-- The layout of a frame by name.
use Rattle.std.specs.Prelude.{ℕ}

-- "received frame is not 60 to 1,514 octets"; "shortest length (at least 60)"
abbrev pub shortest_frame : ℕ
shortest_frame = 60

abbrev pub longest_frame : ℕ
longest_frame = 1514

-- "destination is not 01-80-C2-00-00-02", "Length/Type is not 88-09", "subtype is not 3"
abbrev pub destination : ℕ
destination = 0x0180_c200_0002

abbrev pub length_type : ℕ
length_type = 0x8809

abbrev pub subtype : ℕ
subtype = 3

-- "the body starts at octet 18", "The TLV walk begins at octet 18, or 20 after a sequence number (2 octets, code 01)."
abbrev pub body_start : ℕ
body_start = 18

abbrev pub events_start : ℕ
events_start = 20

-- "the organization's data as that part of the caller's frame from octet 21 to the end"
abbrev pub data_start : ℕ
data_start = 21
