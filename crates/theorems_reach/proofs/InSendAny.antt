-- What it takes to stand in SEND_ANY: a record is held, and the kept field is 2. A looping end that is ranged stands there.
use mathlib.Core.Path.{◌≡◌, refl, ap}
use mathlib.Core.Bool.{Bool, true, false}
use borrow.Author.Tests.{eqb-true}
use lib.Dec.{eqb}
use Rattle.octets.proofs.Bools.{never, not_both, whether}
use Rattle.octets.specs.Bits.{bit}
use Rattle.link_peer.specs.Peers.{is_held, satisfied}
use Rattle.link_discovery.specs.Standing.{stands_at, is_any}
use Rattle.link_discovery.specs.declared.Discovery.{Discovery}
use Rattle.link_discovery.specs.declared.Discovery.TheVariants.{Fault, ActiveSendLocal, PassiveWait, SendLocalRemote, SendLocalRemoteOk, SendAny}
use Rattle.link_loopback.specs.declared.Role.TheVariants.{Looping}
use Rattle.link_end.specs.declared.End.{End}
use Rattle.link_end.specs.Parts.{discovery_of, in_any}
use Rattle.link_end.specs.Ranges.{idle}
use Rattle.theorems_reach.proofs.Standing.{Ranged}

pub any_is : (d : Discovery) → is_any d ≡ true → d ≡ SendAny
any_is Fault h = never h
any_is ActiveSendLocal h = never h
any_is PassiveWait h = never h
any_is SendLocalRemote h = never h
any_is SendLocalRemoteOk h = never h
any_is SendAny h = refl

pub is_any_lem : (e : End) → in_any e ≡ true → discovery_of e ≡ SendAny
unfolding in_any
is_any_lem e h = any_is (discovery_of e) h

pub looping_any : (e : End) → Ranged e → e.role ≡ Looping → discovery_of e ≡ SendAny
looping_any e r l = whether (in_any e) (is_any_lem e) (λ n. not_both (r.rests n) (ap idle l))

by_tests : (up active held satisfied two : Bool) → is_any (stands_at up active held satisfied two) ≡ true → (held ≡ true) × (two ≡ true)
by_tests true active true true true h = (refl, refl)
by_tests true active true true false h = never h
by_tests true active true false two h = never h
by_tests true true false satisfied two h = never h
by_tests true false false satisfied two h = never h
by_tests false active held satisfied two h = never h

pub any_takes : (e : End) → discovery_of e ≡ SendAny → (is_held e.peer.held ≡ true) × (e.peer.kept ≡ 2)
unfolding discovery_of
any_takes e h =
    let t = by_tests e.link.up (bit 0 e.settings.configuration) (is_held e.peer.held) (satisfied e.settings e.peer.held) (eqb e.peer.kept 2)
    (ap is_any h) in
    (t.0, eqb-true e.peer.kept 2 t.1)
