-- Settings that the paper takes.
use Rattle.std.specs.Prelude.{◌%◌, ◌^◌, Bool, ◌&&◌, ltb, leb, eqb}
use Rattle.link_peer.specs.declared.Settings.{Settings}

-- "Configuration (bits 7:5 zero), maximum size 64 to 1,518, OUI, vendor, source address, required capabilities (bits 1 to 4
-- only)."
unfoldable pub sound : Settings → Bool
sound s =
    ltb s.configuration 32
    && (leb 64 s.size
    && (leb s.size 1518
    && (ltb s.oui (256 ^ 3)
    && (ltb s.source (256 ^ 6)
    && (ltb s.required 32
    && eqb (s.required % 2) 0)))))
