-- Discovery's moves, as the paper lists them. Where two of them apply at once, either may be taken.
use Rattle.std.specs.Prelude.{ℕ, zero, suc, ◌≡◌, Bool, true, false}
use Rattle.link_discovery.specs.declared.Discovery.{Discovery}
use Rattle.link_discovery.specs.declared.Discovery.TheVariants.{Fault, ActiveSendLocal, PassiveWait, SendLocalRemote, SendLocalRemoteOk, SendAny}

-- one move, by whether the link is up, the end active, a peer record held, the end satisfied, and the kept field 2
pub data Move (up active held satisfied complete : Bool) : Discovery → Discovery → Type 0 where
  -- "With the link up it goes at once to ACTIVE_SEND_LOCAL (active) or PASSIVE_WAIT."
  sends_first : up ≡ true → active ≡ true → Move up active held satisfied complete Fault ActiveSendLocal
  waits_first : up ≡ true → active ≡ false → Move up active held satisfied complete Fault PassiveWait
  -- "Either goes to SEND_LOCAL_REMOTE once a Local TLV is held."
  sender_hears : held ≡ true → Move up active held satisfied complete ActiveSendLocal SendLocalRemote
  waiter_hears : held ≡ true → Move up active held satisfied complete PassiveWait SendLocalRemote
  -- "SEND_LOCAL_REMOTE goes to SEND_LOCAL_REMOTE_OK when satisfied; that goes to SEND_ANY when the kept peer field is 2."
  is_satisfied : satisfied ≡ true → Move up active held satisfied complete SendLocalRemote SendLocalRemoteOk
  is_complete : complete ≡ true → Move up active held satisfied complete SendLocalRemoteOk SendAny
  -- "SEND_LOCAL_REMOTE_OK or SEND_ANY, not satisfied: SEND_LOCAL_REMOTE."
  ok_unsatisfied : satisfied ≡ false → Move up active held satisfied complete SendLocalRemoteOk SendLocalRemote
  any_unsatisfied : satisfied ≡ false → Move up active held satisfied complete SendAny SendLocalRemote
  -- "SEND_ANY, satisfied, kept field not 2: SEND_LOCAL_REMOTE_OK."
  any_incomplete : satisfied ≡ true → complete ≡ false → Move up active held satisfied complete SendAny SendLocalRemoteOk

-- so many moves one after another
pub data Moves (up active held satisfied complete : Bool) : ℕ → Discovery → Discovery → Type 0 where
  none : {d : Discovery} → Moves up active held satisfied complete zero d d
  then : {n : ℕ} {d next to : Discovery} → Move up active held satisfied complete d next → Moves up active held satisfied complete n next to
      → Moves up active held satisfied complete (suc n) d to

-- none applies
abbrev pub Rests : (up active held satisfied complete : Bool) → Discovery → Type 0
Rests up active held satisfied complete d = (next : Discovery) → Move up active held satisfied complete d next → ⊥

-- "Moves run until none applies."
pub record Settles (up active held satisfied complete : Bool) (from to : Discovery) : Type 0 where
  pub count : ℕ
  pub moves : Moves up active held satisfied complete count from to
  pub rests : Rests up active held satisfied complete to

-- Where a call can find discovery: a state that the link, the mode and the record still bear out. Entering FAULT clears the
-- record, so FAULT is found with any.
abbrev pub Borne : (up active held : Bool) → Discovery → Type 0
Borne up active held Fault = Unit
Borne up active held ActiveSendLocal = (up ≡ true) × (active ≡ true)
Borne up active held PassiveWait = (up ≡ true) × (active ≡ false)
Borne up active held SendLocalRemote = (up ≡ true) × (held ≡ true)
Borne up active held SendLocalRemoteOk = (up ≡ true) × (held ≡ true)
Borne up active held SendAny = (up ≡ true) × (held ≡ true)
