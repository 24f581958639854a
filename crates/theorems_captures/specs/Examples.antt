-- Small files, and what is listed of them.
use Rattle.std.specs.Prelude.{ℕ, ◌-◌, Bool, true, false, List, [], ◌∷◌, ◌++◌, take, replicate}
use Rattle.theorems_frame.specs.Tables.{Row, ◌is◌}
use Rattle.text.specs.Marks.{tab, newline}
use Rattle.text_listing.specs.Rows.{row_of, header}
use Rattle.text_listing.specs.declared.row.Entry.{Entry}
use Rattle.text_listing.specs.declared.row.Entry.TheVariants.{Accepted, Refused}
use Rattle.text_captures.specs.Captures.{magic, link_type, numbered, capture_listing}
use Rattle.theorems_captures.specs.Files.{four_octets, FileRecord, file_of}

-- a Loopback Control frame of so many octets: the build paper's, and zeros behind it
abbrev loopback : ℕ → List ℕ
loopback n =
    1 ∷ 0x80 ∷ 0xc2 ∷ 0 ∷ 0 ∷ 2 ∷ 2 ∷ 0 ∷ 0 ∷ 0 ∷ 0 ∷ 1 ∷ 0x88 ∷ 9 ∷ 3 ∷ 0 ∷ 0x50 ∷ 4 ∷ 1 ∷ replicate (n - 19) 0

-- its first octets as a record
abbrev record_of : ℕ → ℕ → FileRecord
record_of stored original = record { seconds = 1; fraction = 2; octets = take stored (loopback 1515); original = original }

-- what is not looked at in a file's header
abbrev unread : List ℕ
unread = replicate 16 0

-- a file of one record, and of two
abbrev one : Bool → ℕ → ℕ → List ℕ
one little stored original = file_of little unread (record_of stored original ∷ [])

abbrev two : FileRecord → FileRecord → List ℕ
two first second = file_of true unread (first ∷ second ∷ [])

-- a file header of any magic number and link type
abbrev headed : ℕ → ℕ → List ℕ
headed number link = four_octets true number ++ (unread ++ four_octets true link)

-- one, and a record header of any two lengths
abbrev opened : ℕ → ℕ → List ℕ
opened stored original = headed magic link_type ++ (replicate 8 0 ++ (four_octets true stored ++ four_octets true original))

-- the listing of a file that has records with these entries
abbrev lists : List Entry → List ℕ
lists entries = header ++ numbered 1 entries

-- of one that is refused
abbrev no_capture : List ℕ
no_capture = header ++ row_of 0 (Refused 16)

unfoldable pub files : List (Row (List ℕ))
files =
    -- "0", "-", "-", "16" and "-", parted by tabs
    (capture_listing [] is (header ++ (48 ∷ tab ∷ 45 ∷ tab ∷ 45 ∷ tab ∷ 49 ∷ 54 ∷ tab ∷ 45 ∷ newline ∷ [])))
    ∷ (capture_listing (take 23 (headed magic link_type)) is no_capture)
    ∷ (capture_listing (headed magic link_type) is lists [])
    -- nanoseconds; link types 2, and 1 with what tells the length of an FCS, none and four octets
    ∷ (capture_listing (headed 0xa1b2_3c4d link_type) is no_capture)
    ∷ (capture_listing (headed magic 2) is no_capture)
    ∷ (capture_listing (headed magic 0x0400_0001) is no_capture)
    ∷ (capture_listing (headed magic 0x2400_0001) is no_capture)
    -- "1", "4", "80", "0" and "0", parted by tabs
    ∷ (capture_listing (one true 60 60) is (header ++ (49 ∷ tab ∷ 52 ∷ tab ∷ 56 ∷ 48 ∷ tab ∷ 48 ∷ tab ∷ 48 ∷ newline ∷ [])))
    ∷ (capture_listing (one false 60 60) is lists (Accepted 4 80 0 ∷ []))
    ∷ (capture_listing (one true 59 59) is lists (Refused 1 ∷ []))
    ∷ (capture_listing (one true 1514 1514) is lists (Accepted 4 80 0 ∷ []))
    ∷ (capture_listing (one true 1515 1515) is lists (Refused 1 ∷ []))
    -- stored below original, and above it; below it with an octet too few
    ∷ (capture_listing (one true 60 61) is lists (Refused 17 ∷ []))
    ∷ (capture_listing (one true 60 59) is lists (Accepted 4 80 0 ∷ []))
    ∷ (capture_listing (take 99 (one true 60 61)) is lists (Refused 18 ∷ []))
    -- 15 octets of a header
    ∷ (capture_listing (take 39 (one true 60 60)) is lists (Refused 18 ∷ []))
    -- no octet stored
    ∷ (capture_listing (one true 0 0) is lists (Refused 1 ∷ []))
    ∷ (capture_listing (one true 0 60) is lists (Refused 17 ∷ []))
    -- what is passed over is passed over whole; the file ends inside the last record
    ∷ (capture_listing (two (record_of 60 61) (record_of 60 60)) is lists (Refused 17 ∷ Accepted 4 80 0 ∷ []))
    ∷ (capture_listing (two (record_of 1515 1515) (record_of 60 60)) is lists (Refused 1 ∷ Accepted 4 80 0 ∷ []))
    ∷ (capture_listing (take 175 (two (record_of 60 60) (record_of 60 60))) is lists (Accepted 4 80 0 ∷ Refused 18 ∷ []))
    -- the largest length, with no octet of the record there
    ∷ (capture_listing (opened 0xffff_ffff 0xffff_ffff) is lists (Refused 18 ∷ []))
    ∷ []
