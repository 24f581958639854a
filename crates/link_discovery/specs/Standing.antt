-- Where discovery stands once no move applies (`Moves` lists the moves, and proofs/Resting.antt shows that
-- they come to rest here).
use Rattle.std.specs.Prelude.{ℕ, ◌-◌, Bool, true, false, cond, leb}
use Rattle.link_discovery.specs.declared.Discovery.{Discovery}
use Rattle.link_discovery.specs.declared.Discovery.TheVariants.{Fault, ActiveSendLocal, PassiveWait, SendLocalRemote, SendLocalRemoteOk, SendAny}
use Rattle.link_loopback.specs.declared.Role.{Role}
use Rattle.link_loopback.specs.declared.Role.TheVariants.{Idle}

-- by whether the link is up, the end active, a peer record held, the end satisfied, and the kept field 2
abbrev pub stands_at : (up active held satisfied complete : Bool) → Discovery
stands_at up active held satisfied complete =
    cond up
    (cond held (cond satisfied (cond complete SendAny SendLocalRemoteOk) SendLocalRemote)
    (cond active ActiveSendLocal PassiveWait))
    Fault

abbrev pub is_any : Discovery → Bool
is_any Fault = false
is_any ActiveSendLocal = false
is_any PassiveWait = false
is_any SendLocalRemote = false
is_any SendLocalRemoteOk = false
is_any SendAny = true

-- "Leaving SEND_ANY makes the role Idle (HOUSE)."
abbrev pub role_in : Discovery → Role → Role
role_in Fault role = Idle
role_in ActiveSendLocal role = Idle
role_in PassiveWait role = Idle
role_in SendLocalRemote role = Idle
role_in SendLocalRemoteOk role = Idle
role_in SendAny role = role

-- "A tick with the link up adds 1 to the lost-link count; 50 enters FAULT and clears it."
abbrev pub lost_count : ℕ
lost_count = 50

-- the count before that tick
abbrev pub is_lost : ℕ → Bool
is_lost lost = leb (lost_count - 1) lost

-- the number that a caller knows each place by
abbrev pub standing_number : Discovery → ℕ
standing_number Fault = 0
standing_number ActiveSendLocal = 1
standing_number PassiveWait = 2
standing_number SendLocalRemote = 3
standing_number SendLocalRemoteOk = 4
standing_number SendAny = 5
