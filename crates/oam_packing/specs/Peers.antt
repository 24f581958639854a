-- What an end keeps of its peer: the kept field, the record, the last event number received.
use Rattle.std.specs.Prelude.{ℕ, ◌+◌, List, [], ◌∷◌, ◌++◌, Bool, true, false, cond, ◌&&◌, eqb, length, get_or, drop, Option, None, Some}
use Rattle.octets.specs.Octets.{total, fields_at, octs}
use Rattle.octets.specs.Bits.{bit_of}
use Rattle.frame_body.specs.declared.Information.{Information}
use Rattle.frame_body.specs.Information.{information_widths, information_values, information_of}
use Rattle.link_peer.specs.Peers.{is_held, record_says, record_of}
use Rattle.link_end.specs.declared.Peer.{Peer}
use Rattle.oam_packing.specs.Parts.{part_of, held_or_zero}

-- ---- the record: whether one is held, then what it says, as in an Information TLV

abbrev pub record_widths : List ℕ
record_widths = 1 ∷ information_widths

abbrev pub record_numbers : Option Information → List ℕ
record_numbers r = bit_of (is_held r) ∷ information_values (record_says r)

abbrev pub record_with : List ℕ → Option Information
record_with n = record_of (eqb (get_or n 0 0) 1) (information_of (drop 1 n))

-- ---- the last event number: whether one is known, then the number

abbrev pub known : Option ℕ → Bool
known None = false
known (Some n) = true

abbrev pub last_number : Option ℕ → ℕ
last_number None = 0
last_number (Some n) = n

abbrev pub last_of : Bool → ℕ → Option ℕ
last_of known n = cond known (Some n) None

abbrev pub last_widths : List ℕ
last_widths = 1 ∷ 2 ∷ []

abbrev pub last_numbers : Option ℕ → List ℕ
last_numbers l = bit_of (known l) ∷ last_number l ∷ []

abbrev pub last_with : List ℕ → Option ℕ
last_with n = last_of (eqb (get_or n 0 0) 1) (get_or n 1 0)

-- ---- the peer

abbrev pub peer_widths : List ℕ
peer_widths = 1 ∷ record_widths ++ last_widths

abbrev pub peer_length : ℕ
peer_length = total peer_widths

abbrev pub peer_numbers : Peer → List ℕ
peer_numbers p = p.kept ∷ record_numbers p.held ++ last_numbers p.last

-- how many octets the kept field, the record and the last number have
abbrev pub peer_lengths : List ℕ
peer_lengths = 1 ∷ total record_widths ∷ total last_widths ∷ []

-- the peer with some numbers
abbrev pub peer_with : List ℕ → Peer
peer_with n = record { kept = get_or n 0 0; held = record_with (drop 1 n); last = last_with (drop (1 + length record_widths) n) }

unfoldable pub peer_octets : Peer → List ℕ
peer_octets p = octs peer_widths (peer_numbers p)

-- what the record says that stands in them, whether it is held or not
unfoldable pub information_from : List ℕ → Information
information_from x = information_of (fields_at information_widths x 2)

unfoldable pub peer_from : List ℕ → Peer
peer_from x = peer_with (fields_at peer_widths x 0)

unfoldable pub is_peer : List ℕ → Bool
is_peer x = held_or_zero (part_of peer_lengths 1 x) && held_or_zero (part_of peer_lengths 2 x)
