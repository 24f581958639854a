-- An end in octets: those of its parts one after another; and a state, in which those of its watch stand behind them.
use Rattle.std.specs.Prelude.{ℕ, List, [], ◌∷◌, ◌++◌, Bool, cond, ◌&&◌, eqb, length}
use Rattle.std.proofs.lemmas.List.Edits.{sets}
use Rattle.octets.specs.Octets.{total}
use Rattle.link_end.specs.declared.End.{End}
use Rattle.link_end.specs.Parts.{Refused, MaybeEnd}
use Rattle.link_end.specs.Ranges.{end_with, checked}
use Rattle.link_windows.specs.declared.Watch.{Watch}
use Rattle.link_windows.specs.Watches.{phase_of}
use Rattle.link_windows.specs.Ranges.{new_watch, proper}
use Rattle.oam_packing.specs.Parts.{together, part_of}
use Rattle.oam_packing.specs.Settings.{settings_length, settings_octets, settings_from}
use Rattle.oam_packing.specs.Link.{link_length, link_octets, link_from, is_link}
use Rattle.oam_packing.specs.Peers.{peer_length, peer_octets, peer_from, is_peer}
use Rattle.oam_packing.specs.Roles.{role_length, role_octets, role_from, is_role}
use Rattle.oam_packing.specs.Meter.{meter_length, meter_octets, meter_from}
use Rattle.oam_packing.specs.Own.{own_length, own_octets, own_from, is_own}
use Rattle.oam_packing.specs.Watches.{watch_length, watch_octets, watch_from, is_watch}

abbrev pub end_lengths : List ℕ
end_lengths = settings_length ∷ link_length ∷ peer_length ∷ role_length ∷ meter_length ∷ own_length ∷ []

-- how many octets an end has: 53
abbrev pub end_length : ℕ
end_length = total end_lengths

-- the watch is the last part of a state
abbrev pub part_lengths : List ℕ
part_lengths = end_lengths ++ (watch_length ∷ [])

-- how many octets a state has: 96
abbrev pub state_length : ℕ
state_length = total part_lengths

abbrev pub end_parts : End → List (List ℕ)
end_parts e =
    settings_octets e.settings
    ∷ link_octets e.link
    ∷ peer_octets e.peer
    ∷ role_octets e.role
    ∷ meter_octets e.meter
    ∷ own_octets e.own
    ∷ []

unfoldable pub packed : End → List ℕ
packed e = together (end_parts e)

-- octets stored in those of a state from octet `at`; in octets that are none nothing is stored
abbrev pub kept_at : ℕ → List ℕ → List ℕ → List ℕ
kept_at at x state = cond (eqb (length state) state_length) (sets state at x) state

-- an end stored in the octets of a state, whose watch stays, and a watch, beside which the end stays
unfoldable pub packed_in : End → List ℕ → List ℕ
packed_in e state = kept_at 0 (packed e) state

unfoldable pub watch_packed_in : Watch → List ℕ → List ℕ
watch_packed_in w state = kept_at end_length (watch_octets w) state

-- the octets of one part of a state
abbrev pub part : ℕ → List ℕ → List ℕ
part k state = part_of part_lengths k state

-- every part's octets are those of some such part
unfoldable pub is_state : List ℕ → Bool
is_state state = is_link (part 1 state) && (is_peer (part 2 state) && (is_role (part 3 state) && is_own (part 5 state)))

-- the end whose parts stand in the octets of a state
unfoldable pub end_of : List ℕ → End
end_of state =
    end_with
    (settings_from (part 0 state))
    (link_from (part 1 state))
    (peer_from (part 2 state))
    (role_from (part 3 state))
    (meter_from (part 4 state))
    (own_from (part 5 state))

-- the watch whose octets stand in those of a state
unfoldable pub watch_held : List ℕ → Watch
watch_held state = watch_from (part 6 state)

-- it is a proper one, and its second began with the end's: "Seconds run from fresh", and one call makes both fresh
unfoldable pub is_watched : List ℕ → Bool
is_watched state =
    is_watch (part 6 state) && (proper (watch_held state) && eqb (phase_of (watch_held state)) (meter_from (part 4 state)).ticks)

-- the end that is packed to some octets; 10 where no end that keeps to its ranges is, with a watch beside it
unfoldable pub unpacked : List ℕ → MaybeEnd
unpacked state =
    cond (eqb (length state) state_length) (cond (is_state state && is_watched state) (checked (end_of state)) (Refused 10)) (Refused 10)

-- the watch of a state; of octets of another length one of zeros
unfoldable pub watch_in : List ℕ → Watch
watch_in state = cond (eqb (length state) state_length) (watch_held state) (new_watch 0 0 0 0)
