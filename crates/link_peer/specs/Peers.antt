-- What is kept of a received frame, what a peer record says, and HOUSE, satisfied.
use Rattle.std.specs.Prelude.{ℕ, ◌%◌, Bool, false, cond, not, ◌&&◌, ◌||◌, leb, eqb, Option, None, Some, is_some}
use Rattle.std.specs.Bool.{then_some}
use Rattle.std.specs.Option.{option_or}
use Rattle.std.specs.Int.Bits.{bit_and}
use Rattle.frame.specs.Flags.{flags_of}
use Rattle.frame_body.specs.declared.Information.{Information}
use Rattle.link_peer.specs.declared.Settings.{Settings}
use Rattle.octets.specs.Bits.{bit}

-- "OAMPDU configuration 2 (low 11 bits: maximum size, FCS counted)"
abbrev pub maximum_of : Information → ℕ
maximum_of i = i.oampdu % 2048

-- every bit of `required` is set in the configuration
unfoldable pub has_all : ℕ → ℕ → Bool
has_all required configuration = eqb (bit_and required configuration) required

-- "HOUSE, satisfied: peer version 1, peer size at least 64, not both ends passive, peer has every required capability."
unfoldable pub satisfies : Settings → Information → Bool
satisfies s i =
    eqb i.version 1
    && (leb 64 (maximum_of i)
    && ((bit 0 s.configuration || bit 0 i.configuration)
    && has_all s.required i.configuration))

-- by a record that may be missing
unfoldable pub satisfied : Settings → Option Information → Bool
satisfied s None = false
satisfied s (Some i) = satisfies s i

abbrev pub is_held : Option Information → Bool
is_held r = is_some r

unfoldable pub peer_active : Option Information → Bool
peer_active None = false
peer_active (Some i) = bit 0 i.configuration

unfoldable pub peer_loopback : Option Information → Bool
peer_loopback None = false
peer_loopback (Some i) = bit 2 i.configuration

-- "own bit 4 clear is 15"; and 001 Table 57-1, note a, of an active end that responds: "Requires the peer DTE to be in Active mode."
unfoldable pub may_respond : ℕ → Option Information → Bool
may_respond configuration r = bit 4 configuration && (not (bit 0 configuration) || peer_active r)

unfoldable pub peer_maximum : Option Information → ℕ
peer_maximum None = 0
peer_maximum (Some i) = maximum_of i

-- "kept field from the flags": "a received 3 keeps the last value"
unfoldable pub kept_from : ℕ → ℕ → ℕ
kept_from flags kept = cond (eqb (flags_of flags).local 3) kept (flags_of flags).local

-- "peer record from any Local TLV"
abbrev pub record_from : Option Information → Option Information → Option Information
record_from local r = option_or local r

-- what a record says, all zero where there is none
abbrev pub record_says : Option Information → Information
record_says None = record { version = 0; revision = 0; state = 0; configuration = 0; oampdu = 0; oui = 0; vendor = 0 }
record_says (Some i) = i

-- the record that says something, or none
abbrev pub record_of : Bool → Information → Option Information
record_of held i = then_some held i
