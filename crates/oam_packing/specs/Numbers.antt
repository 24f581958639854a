-- An end as 27 numbers, those of its parts one after another; of its meter those that are shown.
use Rattle.std.specs.Prelude.{ℕ, List, [], ◌∷◌}
use Rattle.link_end.specs.declared.End.{End}
use Rattle.oam_packing.specs.Parts.{together}
use Rattle.oam_packing.specs.Settings.{settings_numbers}
use Rattle.oam_packing.specs.Link.{link_numbers}
use Rattle.oam_packing.specs.Peers.{peer_numbers}
use Rattle.oam_packing.specs.Roles.{role_numbers}
use Rattle.oam_packing.specs.Meter.{meter_shown}
use Rattle.oam_packing.specs.Own.{own_numbers}

unfoldable pub numbers_of : End → List ℕ
numbers_of e =
    together
    (settings_numbers e.settings
    ∷ link_numbers e.link
    ∷ peer_numbers e.peer
    ∷ role_numbers e.role
    ∷ meter_shown e.meter
    ∷ own_numbers e.own
    ∷ [])
