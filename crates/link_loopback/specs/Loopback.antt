-- Loopback: what a Local TLV and a command make of the role, and which requests the role, the mode and the peer allow.
use Rattle.frame_body.specs.declared.Information.{Information}
use Rattle.std.specs.Prelude.{ℕ, ◌%◌, Bool, true, false, cond, ◌&&◌, eqb, Option, None, Some}
use Rattle.link_loopback.specs.declared.Role.{Role}
use Rattle.link_loopback.specs.declared.Role.TheVariants.{Idle, Asking, Holding, Ending, Looping}
use Rattle.octets.specs.Bits.{bit}
use Rattle.link_peer.specs.Peers.{peer_active, peer_loopback}

-- "A Local TLV with parser 1, multiplexer discard: Asking becomes Holding. Both forward: Ending becomes Idle."
abbrev pub after_actions : Role → Bool → Bool → Role
after_actions Idle looping forward = Idle
after_actions Asking looping forward = cond looping Holding Asking
after_actions Holding looping forward = Holding
after_actions Ending looping forward = cond forward Idle Ending
after_actions Looping looping forward = Looping

-- "State: bits 1:0 parser ..., bit 2 multiplexer (1 discard)"
unfoldable pub role_after_local : Option Information → Role → Role
role_after_local None role = role
role_after_local (Some i) role = after_actions role (eqb (i.state % 8) 5) (eqb (i.state % 8) 0)

-- "Idle or Looping becomes Looping; Asking becomes Looping if its own address is the higher one (first octet
-- first), else nothing."
abbrev pub takes_enable : Role → Bool → Bool
takes_enable Idle higher = true
takes_enable Asking higher = higher
takes_enable Holding higher = false
takes_enable Ending higher = false
takes_enable Looping higher = true

abbrev pub is_looping : Role → Bool
is_looping Idle = false
is_looping Asking = false
is_looping Holding = false
is_looping Ending = false
is_looping Looping = true

-- "Enable, own bit 2 set and peer active"; "Disable: Looping becomes Idle. Otherwise ignored, still accepted." By the command,
-- whether the own address is the higher one, the own configuration, the peer record and the role.
unfoldable pub obeys : ℕ → Bool → ℕ → Option Information → Role → Bool
obeys command higher configuration held role =
    cond (eqb command 1) (bit 2 configuration && (peer_active held && takes_enable role higher)) (is_looping role)

-- the role after a command, by whether it is obeyed
abbrev pub role_after_command : ℕ → Bool → Role → Role
role_after_command command obeyed role = cond obeyed (cond (eqb command 1) Looping Idle) role

-- "Start (Idle or Asking)"
abbrev pub starts : Role → Bool
starts Idle = true
starts Asking = true
starts Holding = false
starts Ending = false
starts Looping = false

-- "Stop (Asking, Holding, Ending)"
abbrev pub stops : Role → Bool
stops Idle = false
stops Asking = true
stops Holding = true
stops Ending = true
stops Looping = false

-- "Other roles, a passive end, or for start a peer without bit 2: 15."
unfoldable pub may_start : ℕ → Option Information → Role → Bool
may_start configuration held role = bit 0 configuration && (peer_loopback held && starts role)

unfoldable pub may_stop : ℕ → Role → Bool
may_stop configuration role = bit 0 configuration && stops role

-- the roles that an end's own settings allow: "a passive end" starts and stops nothing, so it does not ask, hold or end; without
-- "own bit 2 set" it obeys no enable, so it does not loop
abbrev pub role_fits : ℕ → Role → Bool
role_fits configuration Idle = true
role_fits configuration Asking = bit 0 configuration
role_fits configuration Holding = bit 0 configuration
role_fits configuration Ending = bit 0 configuration
role_fits configuration Looping = bit 2 configuration
