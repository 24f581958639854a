-- What a ranged end writes has plain form: its flags, its Local TLV, its peer's record with ignored bits zero. Its Information
-- frame is 60 octets long.
use Rattle.std.specs.Prelude.{Option, None, Some}
use Prim.Native.Nat.{ℕ, ◌/◌, ◌%◌, ◌^◌, ◌<◌, ◌≤◌}
use mathlib.Core.Path.{◌≡◌, refl, ap}
use mathlib.Core.Bool.{Bool, true, false, cond}
use native.Mathlib.Omega.{arith}
use borrow.Author.Tests.{ltb-true, leb-true, lt-ltb, ne_eqb}
use lib.Dec.{ltb, leb}
use lib.ListN.{length}
use Rattle.frame.specs.Flags.{flags_of, flags_number}
use Rattle.frame.specs.Frame.{Body, information, Message}
use Rattle.frame.specs.declared.Flags.{Flags}
use Rattle.frame_body.specs.declared.Information.{Information}
use Rattle.octets.proofs.Masks.{bit_lt}
use Rattle.frame.proofs.FlagLaws.{split_join}
use Rattle.octets.specs.Octets.{fit}
use Rattle.frame_body.specs.Information.{information_widths, information_values}
use Rattle.frame_writer.specs.Encode.{encode}
use Rattle.frame_writer.specs.Plain.{plain_flags, plain_information, plain_parts, plain_body, plain, sized}
use Rattle.frame_writer.specs.Writing.{message_of, parts_from, parts_of}
use Rattle.octets.proofs.Bools.{and_l, and_r, whether}
use Rattle.frame_writer.proofs.Lengths.{length-encode}
use Rattle.theorems_frame.proofs.Informing.{plain_parts_lem}
use Rattle.link_loopback.specs.Roles.{octet_of}
use Rattle.link_peer.specs.Ranges.{sound}
use Rattle.link_discovery.specs.Sending.{local_field, remote_field, own_information, cleared_information, cleared_record}
use Rattle.link_peer.specs.declared.Settings.{Settings}
use Rattle.link_loopback.specs.declared.Role.{Role}
use Rattle.link_loopback.specs.declared.Role.TheVariants.{Idle, Asking, Holding, Ending, Looping}
use Rattle.link_discovery.specs.declared.Discovery.{Discovery}
use Rattle.link_discovery.specs.declared.Discovery.TheVariants.{Fault, ActiveSendLocal, PassiveWait, SendLocalRemote, SendLocalRemoteOk, SendAny}
use Rattle.link_end.specs.declared.End.{End}
use Rattle.link_end.specs.Parts.{discovery_of}
use Rattle.link_end.specs.Sending.{flags_to_send, tlvs_to_send}
use Rattle.link.specs.Outcomes.{information_to_send}
use Rattle.link.specs.Requests.{Asked, octets_asked}
use Rattle.link_end.specs.Ranges.{record_fits}
use Rattle.theorems_reach.specs.Premises.{Accepted}
use Rattle.theorems_reach.proofs.Standing.{Stands}

-- ---- flags

flags_number_below : (f : Flags) → flags_number f < 128
unfolding flags_number
flags_number_below f = omega (arith, bit_lt f.fault, bit_lt f.gasp, bit_lt f.critical)

flags_number_plain : (f : Flags) → f.local ≤ 2 → f.remote ≤ 2 → plain_flags (flags_number f) ≡ true
unfolding plain_flags
flags_number_plain f l r =
    let s = split_join f (omega arith) (omega arith) in
    let a : (flags_of (flags_number f)).local ≡ f.local = ap (λ (x : Flags). x.local) s in
    let b : (flags_of (flags_number f)).remote ≡ f.remote = ap (λ (x : Flags). x.remote) s in
    rw (lt-ltb (flags_number f) 128 (flags_number_below f), ne_eqb (flags_number f / 8 % 4) 3 (λ z. omega arith), ne_eqb (flags_number f / 32 % 4) 3 (λ z. omega arith))

pub local_le : (d : Discovery) → local_field d ≤ 2
local_le Fault = omega arith
local_le ActiveSendLocal = omega arith
local_le PassiveWait = omega arith
local_le SendLocalRemote = omega arith
local_le SendLocalRemoteOk = omega arith
local_le SendAny = omega arith

pub remote_le : (kept : ℕ) (r : Option Information) → kept ≤ 2 → remote_field kept r ≤ 2
unfolding remote_field
remote_le kept None h = omega arith
remote_le kept (Some i) h = h

flags_plain : (e : End) → Stands e → plain_flags (flags_to_send e) ≡ true
unfolding flags_to_send
flags_plain e s = flags_number_plain _ (local_le (discovery_of e)) (remote_le e.peer.kept e.peer.held s.peer.kept)

-- ---- Information TLVs

octet_lt : (r : Role) → octet_of r < 8
octet_lt Idle = omega arith
octet_lt Asking = omega arith
octet_lt Holding = omega arith
octet_lt Ending = omega arith
octet_lt Looping = omega arith

-- fields within their bits and widths
fields_plain : (i : Information) → i.state < 8 → i.configuration < 32 → i.oampdu < 2048 → i.version < 256 ^ 1 → i.revision < 256 ^ 2 → i.oui < 256 ^ 3
    → i.vendor < 256 ^ 4 → plain_information i ≡ true
unfolding plain_information
fields_plain i s c o v r u w =
    rw (
      lt-ltb i.state 8 s,
      lt-ltb i.configuration 32 c,
      lt-ltb i.oampdu 2048 o,
      lt-ltb i.version (256 ^ 1) v,
      lt-ltb i.revision (256 ^ 2) r,
      lt-ltb i.state (256 ^ 1) (omega arith),
      lt-ltb i.configuration (256 ^ 1) (omega arith),
      lt-ltb i.oampdu (256 ^ 2) (omega arith),
      lt-ltb i.oui (256 ^ 3) u,
      lt-ltb i.vendor (256 ^ 4) w,
    )

own_plain : (s : Settings) (revision : ℕ) (role : Role) → Accepted s → revision < 2 ^ 16 → plain_information (own_information s revision role) ≡ true
unfolding own_information sound
own_plain s revision role a r =
    let h = a.sound in
    let configuration : ltb s.configuration 32 ≡ true = search and_l in
    let size : leb s.size 1518 ≡ true = search (and_l, and_r) in
    let oui : ltb s.oui (256 ^ 3) ≡ true = search (and_l, and_r) in
    fields_plain (own_information s revision role) (octet_lt role) (ltb-true s.configuration 32 configuration)
    (omega (arith, leb-true s.size 1518 size)) (omega arith) r (ltb-true s.oui (256 ^ 3) oui) a.vendor

cleared_plain : (i : Information) → fit information_widths (information_values i) ≡ true → plain_information (cleared_information i) ≡ true
unfolding cleared_information
cleared_plain i h =
    let version : ltb i.version (256 ^ 1) ≡ true = search and_l in
    let revision : ltb i.revision (256 ^ 2) ≡ true = search (and_l, and_r) in
    let oui : ltb i.oui (256 ^ 3) ≡ true = search (and_l, and_r) depth 8 in
    let vendor : ltb i.vendor (256 ^ 4) ≡ true = search (and_l, and_r) depth 9 in
    fields_plain (cleared_information i) (omega arith) (omega arith) (omega arith) (ltb-true i.version (256 ^ 1) version)
    (ltb-true i.revision (256 ^ 2) revision) (ltb-true i.oui (256 ^ 3) oui) (ltb-true i.vendor (256 ^ 4) vendor)

-- the Local alone, or the peer's record after it; with the link down no TLV
parts_plain : (up : Bool) (own : Information) (r : Option Information) → plain_information own ≡ true → record_fits r ≡ true
    → plain_parts (parts_from (cond up (Some own) None) (cond up (cleared_record r) None)) ≡ true
unfolding record_fits cleared_record
parts_plain true own None o h = o
parts_plain true own (Some i) o h = rw (o, cleared_plain i h)
parts_plain false own peer o h = refl

-- ---- the frame

-- a message of an end, with a body in plain form
pub message_plain : (e : End) (b : Body) → Stands e → plain_body b ≡ true → plain (message_of e.settings.source (flags_to_send e) b) ≡ true
unfolding plain sound
message_plain e b s h =
    let k = s.settings.sound in
    let source : ltb e.settings.source (256 ^ 6) ≡ true = search (and_l, and_r) depth 7 in
    rw (source, flags_plain e s, h)

module _ (e : End) (s : Stands e) where
  tlvs_plain : plain_parts (parts_of (tlvs_to_send e)) ≡ true
  unfolding tlvs_to_send
  tlvs_plain =
      parts_plain e.link.up (own_information e.settings e.own.revision e.role) e.peer.held
      (own_plain e.settings e.own.revision e.role s.settings s.revision) s.peer.held

  pub information_plain : plain (information_to_send e) ≡ true
  unfolding information_to_send
  information_plain = message_plain e (information (parts_of (tlvs_to_send e))) s tlvs_plain

  pub information_60 : length (encode (information_to_send e)) ≡ 60
  unfolding information_to_send
  information_60 =
      let ps = parts_of (tlvs_to_send e) in
      omega (arith, length-encode (information_to_send e) tlvs_plain, (plain_parts_lem ps tlvs_plain).few)

-- ---- a request's frame is as long as it was measured, and has a plain form where that is not 0

-- a request's frame has the octets of its body's, or 0
pub asked_sized : (a : Asked) → 0 < octets_asked a → octets_asked a ≡ sized a.body
asked_sized a h = whether a.formed (λ t. rw t) (λ f. let z : octets_asked a ≡ 0 = rw f in absurd (omega arith))

pub sized_is_plain : (b : Body) → 0 < sized b → plain_body b ≡ true
unfolding sized
sized_is_plain b h = whether (plain_body b) (λ t. t) (λ f. let z : sized b ≡ 0 = rw f in absurd (omega arith))

pub encode-sized : (m : Message) → plain_body m.body ≡ true → length (encode m) ≡ sized m.body
unfolding sized
encode-sized m h = rw h (omega (arith, length-encode m h))
