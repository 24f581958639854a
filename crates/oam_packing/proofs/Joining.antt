-- Nothing but zeros; parts stored one after another; an octet of a number; and how long the octets and numbers of an end and of a watch are.
use Rattle.std.proofs.Common.{◌≡◌, arith, refl, sym, ap, ◌∙◌, mod-eq_of_lt, ℕ, ◌+◌, ◌%◌, ◌<◌, List, [], ◌∷◌, Bool, ◌&&◌, eqb, length}
use Rattle.std.specs.List.{list_all}
use Rattle.std.proofs.lemmas.List.Edits.{sets}
use Rattle.octets.specs.Octets.{zeros}
use Rattle.octets.proofs.Stores.{sets-append}
use Rattle.link_end.specs.declared.End.{End}
use Rattle.link_windows.specs.declared.Watch.{Watch}
use Rattle.oam_packing.specs.Parts.{together, stored_at}
use Rattle.oam_packing.specs.Settings.{settings_octets}
use Rattle.oam_packing.specs.Link.{link_octets}
use Rattle.oam_packing.specs.Peers.{peer_octets}
use Rattle.oam_packing.specs.Roles.{role_octets}
use Rattle.oam_packing.specs.Meter.{meter_octets}
use Rattle.oam_packing.specs.Own.{own_octets}
use Rattle.oam_packing.specs.Numbers.{numbers_of}
use Rattle.oam_packing.specs.Watches.{frames_octets, seconds_octets, stamp_octets, watch_lengths, watch_length, watch_parts, watch_octets}
use Rattle.oam_packing.specs.Octets.{end_lengths, end_length, end_parts, packed}

-- nothing but zeros, as a test of each
pub zeros-all : (x : List ℕ) → zeros x ≡ list_all (λ octet. eqb octet 0) x
zeros-all [] = refl
zeros-all (octet ∷ x) = ap (λ (b : Bool). eqb octet 0 && b) (zeros-all x)

abbrev pub lengths : List (List ℕ) → List ℕ
lengths [] = []
lengths (x ∷ xs) = length x ∷ lengths xs

stored_together : (xs : List (List ℕ)) (s : List ℕ) (at : ℕ) → stored_at (lengths xs) xs s at ≡ sets s at (together xs)
stored_together [] s at = refl
stored_together (x ∷ xs) s at = stored_together xs (sets s at x) (at + length x) ∙ sym (sets-append s at x (together xs))

-- the octet of a number that fits it
pub octet_of_lem : {r n : ℕ} → r < 256 → r ≡ n → r ≡ n % 256
octet_of_lem h e = sym (mod-eq_of_lt h) ∙ ap (λ (m : ℕ). m % 256) e

-- every part has its length
pub parts_long : (e : End) → lengths (end_parts e) ≡ end_lengths
unfolding settings_octets link_octets peer_octets role_octets meter_octets own_octets
parts_long e = refl

pub packed_long : (e : End) → length (packed e) ≡ end_length
unfolding packed settings_octets link_octets peer_octets role_octets meter_octets own_octets
packed_long e = refl

-- what `pack` stores
pub parts_stored : (e : End) (s : List ℕ) → stored_at end_lengths (end_parts e) s 0 ≡ sets s 0 (packed e)
unfolding packed
parts_stored e s = ap (λ (ns : List ℕ). stored_at ns (end_parts e) s 0) (sym (parts_long e)) ∙ stored_together (end_parts e) s 0

-- the same of a watch
pub watch_parts_long : (w : Watch) → lengths (watch_parts w) ≡ watch_lengths
unfolding frames_octets seconds_octets stamp_octets
watch_parts_long w = refl

pub watch_long : (w : Watch) → length (watch_octets w) ≡ watch_length
unfolding watch_octets frames_octets seconds_octets stamp_octets
watch_long w = refl

pub watch_stored : (w : Watch) (s : List ℕ) (at : ℕ) {frames seconds stamp : List ℕ}
    → frames ≡ frames_octets w.frames → seconds ≡ seconds_octets w.seconds → stamp ≡ stamp_octets w.stamp w.bad
    → sets (sets (sets s at frames) (at + 24) seconds) (at + 40) stamp ≡ sets s at (watch_octets w)
unfolding watch_octets frames_octets seconds_octets stamp_octets
watch_stored w s at p q r =
    let third : at + 40 ≡ at + 24 + 16 = omega arith in
    rw (p, q, r, third) (stored_together (watch_parts w) s at)

pub numbers_long : (e : End) → length (numbers_of e) ≡ 27
unfolding numbers_of
numbers_long e = refl
