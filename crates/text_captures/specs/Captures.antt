-- The listing of a capture file, whole: what a reader has to believe. "the classic pcap format: 24-octet file header, 16-octet
-- record headers, either byte order by the magic number a1b2c3d4, link type 1".
use Rattle.std.specs.Prelude.{ℕ, zero, suc, ◌+◌, ◌*◌, ◌^◌, Bool, true, cond, ◌&&◌, List, [], ◌∷◌, ◌++◌, length, take, drop, ◌==◌, nat_le, nat_lt, slice_index}
use Rattle.octets.specs.Octets.{num}
use Rattle.frame.specs.Frame.{decode}
use Rattle.text_listing.specs.Rows.{entry_of, row_of, header}
use Rattle.text_listing.specs.Listing.{following}
use Rattle.text_listing.specs.declared.row.Entry.{Entry}
use Rattle.text_listing.specs.declared.row.Entry.TheVariants.{Refused}

-- ---- numbers

-- the number in the `width` octets of s from octet `at`, the first octet the lowest; octets past the end count as 0
abbrev pub num_little : ℕ → List ℕ → ℕ → ℕ
num_little zero s at = 0
num_little (suc width) s at = num_little width s at + slice_index s (at + width) * 256 ^ width

-- a number of four octets, "either byte order"
unfoldable pub number : Bool → List ℕ → ℕ → ℕ
number little s at = cond little (num_little 4 s at) (num 4 s at)

-- ---- the file's header

abbrev pub file_header : ℕ
file_header = 24

abbrev pub magic : ℕ
magic = 0xa1b2_c3d4

abbrev pub link_type : ℕ
link_type = 1

-- whether a file's numbers are little-endian
unfoldable pub is_little : List ℕ → Bool
is_little s = number true s 0 == magic

-- not "file header short, of another magic number or link type"
unfoldable pub is_capture : List ℕ → Bool
is_capture s = nat_le file_header (length s) && (number (is_little s) s 0 == magic && number (is_little s) s 20 == link_type)

-- ---- records

abbrev pub record_header : ℕ
record_header = 16

-- what a record's header says: how many octets are stored, and how many the frame had
abbrev pub stored_of : Bool → List ℕ → ℕ
stored_of little s = number little s 8

abbrev pub original_of : Bool → List ℕ → ℕ
original_of little s = number little s 12

-- the octets of the record that stands first
abbrev pub record_size : Bool → List ℕ → ℕ
record_size little s = record_header + stored_of little s

-- not "file ends inside a record or its header": a record has 16 octets or more, so a short header is never whole
unfoldable pub is_whole : Bool → List ℕ → Bool
is_whole little s = nat_le (record_size little s) (length s)

-- "A record cut short by the capture (stored length below original length) is reported and not read"; any other is read, and
-- "one longer than 1,514 is answered 1" as a frame of so many octets is
unfoldable pub record_entry : Bool → List ℕ → Entry
record_entry little s =
    cond (nat_lt (stored_of little s) (original_of little s)) (Refused 17) (entry_of (decode (take (stored_of little s) (drop record_header s))))

-- the entries of records one after another, of no more than so many: "18 file ends inside a record or its header, given as that
-- record's line, the last"
unfoldable pub entries_up_to : ℕ → Bool → List ℕ → List Entry
entries_up_to zero little s = []
entries_up_to (suc most) little [] = []
entries_up_to (suc most) little (c ∷ s) =
    cond (is_whole little (c ∷ s)) (record_entry little (c ∷ s) ∷ entries_up_to most little (drop (record_size little (c ∷ s)) (c ∷ s)))
    (Refused 18 ∷ [])

-- there are no more records than octets
unfoldable pub entries : Bool → List ℕ → List Entry
entries little s = entries_up_to (length s) little s

-- ---- the listing

-- the rows of some entries, the first with that number
unfoldable pub numbered : ℕ → List Entry → List ℕ
numbered n [] = []
numbered n (entry ∷ rest) = row_of n entry ++ numbered (following n) rest

-- "the same header and line for each record, numbered from 1"; "16 file header short, of another magic number or link type, given as line 0, the only one"
unfoldable pub capture_listing : List ℕ → List ℕ
capture_listing input =
    header ++ cond (is_capture input) (numbered 1 (entries (is_little input) (drop file_header input))) (row_of 0 (Refused 16))
