-- What is to be sent.
use Rattle.std.specs.Prelude.{ℕ, ◌%◌, Bool, true, false, not, ◌&&◌, Option, None, Some}
use Rattle.frame_body.specs.declared.Information.{Information}
use Rattle.link_discovery.specs.declared.Discovery.{Discovery}
use Rattle.link_discovery.specs.declared.Discovery.TheVariants.{Fault, ActiveSendLocal, PassiveWait, SendLocalRemote, SendLocalRemoteOk, SendAny}
use Rattle.link_loopback.specs.declared.Role.{Role}
use Rattle.link_peer.specs.declared.Settings.{Settings}
use Rattle.octets.specs.Bits.{bit}
use Rattle.link_loopback.specs.Roles.{octet_of}

-- "Local field sent: 2 in SEND_LOCAL_REMOTE_OK and SEND_ANY, 1 in ACTIVE_SEND_LOCAL, else 0."
abbrev pub local_field : Discovery → ℕ
local_field Fault = 0
local_field ActiveSendLocal = 1
local_field PassiveWait = 0
local_field SendLocalRemote = 0
local_field SendLocalRemoteOk = 2
local_field SendAny = 2

-- "Remote field sent: the kept peer field", and 0 while no record is held (001, Table 57-3)
unfoldable pub remote_field : ℕ → Option Information → ℕ
remote_field kept None = 0
remote_field kept (Some i) = kept

-- "FAULT with the link down if unidirectional (link fault flag, set only there, no TLV)"
unfoldable pub fault_flag : Bool → ℕ → Bool
fault_flag up configuration = not up && bit 1 configuration

-- "Allowed: ACTIVE_SEND_LOCAL and the three SEND states ...; FAULT with the link down if unidirectional"
abbrev pub allowed_in : Discovery → Bool → Bool
allowed_in Fault fault = fault
allowed_in ActiveSendLocal fault = true
allowed_in PassiveWait fault = false
allowed_in SendLocalRemote fault = true
allowed_in SendLocalRemoteOk fault = true
allowed_in SendAny fault = true

-- the Local TLV
unfoldable pub own_information : Settings → ℕ → Role → Information
own_information s revision role =
    record {
      version = 1;
      revision = revision;
      state = octet_of role;
      configuration = s.configuration;
      oampdu = s.size;
      oui = s.oui;
      vendor = s.vendor;
    }

-- "and Remote if a peer record is held: its fields, HOUSE with ignored bits zero"
unfoldable pub cleared_information : Information → Information
cleared_information i =
    record {
      version = i.version;
      revision = i.revision;
      state = i.state % 8;
      configuration = i.configuration % 32;
      oampdu = i.oampdu % 2048;
      oui = i.oui;
      vendor = i.vendor;
    }

unfoldable pub cleared_record : Option Information → Option Information
cleared_record None = None
cleared_record (Some i) = Some (cleared_information i)
