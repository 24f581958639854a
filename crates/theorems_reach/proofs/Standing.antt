-- The parts of `ranged`, both ways, and that a fresh end has them.
use Prim.Native.Nat.{ℕ, ◌^◌, ◌<◌, ◌≤◌}
use mathlib.Core.Path.{◌≡◌, refl}
use mathlib.Core.Bool.{true, false}
use native.Mathlib.Omega.{arith}
use borrow.Author.Tests.{ltb-true, leb-true, lt-ltb, le-leb}
use Rattle.link_discovery.specs.Standing.{lost_count}
use Rattle.link_peer.specs.Ranges.{sound}
use Rattle.link_limit.specs.Limit.{most_frames, stretch_intervals, second_ticks, written_frames, is_bounded}
use Rattle.link_loopback.specs.Loopback.{role_fits}
use Rattle.link_peer.specs.declared.Settings.{Settings}
use Rattle.link_limit.specs.declared.Meter.{Meter}
use Rattle.octets.proofs.Bools.{never, and_l, and_r}
use Rattle.link_end.specs.declared.Link.{Link}
use Rattle.link_end.specs.declared.Peer.{Peer}
use Rattle.link_end.specs.declared.End.{End}
use Rattle.link_end.specs.Parts.{Is, Refused, fresh_end, fresh_of, in_any}
use Rattle.link_end.specs.Sending.{allowed}
use Rattle.link_end.specs.Ranges.{tests, record_fits, last_fits, idle, blank, besides, ranged}
use Rattle.link_end.proofs.Ranging.{all_at}
use Rattle.theorems_reach.specs.Premises.{Accepted}
use Rattle.theorems_reach.proofs.Bools.{or_l, or_r, implies, is_or_l, is_or_r, is_implied}
use Rattle.theorems_reach.proofs.Digits.{newest_zero}

-- ---- the parts

-- the kept field is at most 2; the record and the event number fit their octets, and the one is kept only beside the other
pub record Fitting (p : Peer) : Type 0 where
  pub kept : p.kept ≤ 2
  pub held : record_fits p.held ≡ true
  pub last : last_fits p.last ≡ true
  pub beside : besides p ≡ true

-- a timer second has ten ticks, and a stretch eleven digits and at most ten frames
pub record Bounded (m : Meter) : Type 0 where
  pub ticks : m.ticks < second_ticks
  pub intervals : m.intervals < 16 ^ stretch_intervals
  pub written : written_frames m ≤ most_frames

-- all of an end but its role and what it owes; with the link down no record is held
pub record Standing (s : Settings) (l : Link) (p : Peer) (m : Meter) (r n : ℕ) : Type 0 where
  pub settings : Accepted s
  pub lost : l.lost < lost_count
  pub peer : Fitting p
  pub down : l.up ≡ false → blank p ≡ true
  pub meter : Bounded m
  pub revision : r < 2 ^ 16
  pub number : n < 2 ^ 16

-- the same with one part anew
module _ {s : Settings} {l : Link} {p : Peer} {m : Meter} {r n : ℕ} (h : Standing s l p m r n) where
  pub remetered : {m' : Meter} → Bounded m' → Standing s l p m' r n
  remetered b =
      record { settings = h.settings; lost = h.lost; peer = h.peer; down = h.down; meter = b; revision = h.revision; number = h.number }

  pub renumbered : {r' n' : ℕ} → r' < 2 ^ 16 → n' < 2 ^ 16 → Standing s l p m r' n'
  renumbered a b = record { settings = h.settings; lost = h.lost; peer = h.peer; down = h.down; meter = h.meter; revision = a; number = b }

  pub relinked : {l' : Link} {p' : Peer} → l'.lost < lost_count → Fitting p' → (l'.up ≡ false → blank p' ≡ true) → Standing s l' p' m r n
  relinked a b d = record { settings = h.settings; lost = a; peer = b; down = d; meter = h.meter; revision = h.revision; number = h.number }

abbrev pub Stands : End → Type 0
Stands e = Standing e.settings e.link e.peer e.meter e.own.revision e.own.number

-- outside SEND_ANY the role is Idle
abbrev pub Rests : End → Type 0
Rests e = in_any e ≡ false → idle e.role ≡ true

-- the settings allow the role
abbrev pub Fits : End → Type 0
Fits e = role_fits e.settings.configuration e.role ≡ true

-- "Where it isn't allowed nothing is owed."
abbrev pub Owes : End → Type 0
Owes e = e.own.owed ≡ true → allowed e ≡ true

pub record Ranged (e : End) : Type 0 where
  pub stands : Stands e
  pub rests : Rests e
  pub fits : Fits e
  pub owes : Owes e

-- ---- as tests

bounded_is : (m : Meter) → is_bounded m ≡ true → Bounded m
unfolding is_bounded
bounded_is m h =
    record {
      ticks = ltb-true m.ticks second_ticks (search and_l);
      intervals = ltb-true m.intervals (16 ^ stretch_intervals) (search (and_l, and_r));
      written = leb-true (written_frames m) most_frames (search (and_l, and_r));
    }

is_bounded_lem : (m : Meter) → Bounded m → is_bounded m ≡ true
unfolding is_bounded
is_bounded_lem m b = rw (lt-ltb m.ticks second_ticks b.ticks, lt-ltb m.intervals (16 ^ stretch_intervals) b.intervals, le-leb (written_frames m) most_frames b.written)

pub ranged_is : (e : End) → ranged e ≡ true → Ranged e
unfolding ranged
ranged_is e h =
    let at : (n : ℕ) → _ = λ n. all_at (tests e) n h in
    record {
      stands = record {
        settings = record { sound = at 0; vendor = ltb-true e.settings.vendor (2 ^ 32) (at 1) };
        lost = ltb-true e.link.lost lost_count (at 2);
        peer = record { kept = leb-true e.peer.kept 2 (at 3); held = at 4; last = at 5; beside = at 6 };
        down = or_r e.link.up (blank e.peer) (at 7);
        meter = bounded_is e.meter (at 10);
        revision = ltb-true e.own.revision (2 ^ 16) (at 11);
        number = ltb-true e.own.number (2 ^ 16) (at 12);
      };
      rests = or_l (idle e.role) (in_any e) (at 8);
      fits = at 9;
      owes = implies e.own.owed (allowed e) (at 13);
    }

pub is_ranged : (e : End) → Ranged e → ranged e ≡ true
unfolding ranged
is_ranged e r =
    let s = r.stands in
    rw (
      s.settings.sound,
      lt-ltb e.settings.vendor (2 ^ 32) s.settings.vendor,
      lt-ltb e.link.lost lost_count s.lost,
      le-leb e.peer.kept 2 s.peer.kept,
      s.peer.held,
      s.peer.last,
      s.peer.beside,
      is_or_r e.link.up (blank e.peer) s.down,
      is_or_l (idle e.role) (in_any e) r.rests,
      r.fits,
      is_bounded_lem e.meter s.meter,
      lt-ltb e.own.revision (2 ^ 16) s.revision,
      lt-ltb e.own.number (2 ^ 16) s.number,
      is_implied e.own.owed (allowed e) r.owes,
    )

-- ---- a fresh end

pub fresh_is : (s : Settings) → Accepted s → Ranged (fresh_end s)
unfolding fresh_end record_fits last_fits blank written_frames
fresh_is s a =
    record {
      stands = record {
        settings = a;
        lost = omega arith;
        peer = record { kept = omega arith; held = refl; last = refl; beside = refl };
        down = λ _. refl;
        meter = record { ticks = omega arith; intervals = omega arith; written = omega (arith, newest_zero stretch_intervals) };
        revision = omega arith;
        number = omega arith;
      };
      rests = λ _. refl;
      fits = refl;
      owes = λ h. never h;
    }

-- settings that are taken make a ranged end
pub fresh_ranged : (s : Settings) → sound s ≡ true → s.vendor < 2 ^ 32 → ranged (fresh_end s) ≡ true
fresh_ranged s h v = is_ranged (fresh_end s) (fresh_is s (record { sound = h; vendor = v }))

-- "refused settings yield no end"
pub fresh_taken : (s : Settings) → sound s ≡ true → fresh_of s ≡ Is (fresh_end s)
unfolding fresh_of
fresh_taken s h = rw h

pub fresh_refused : (s : Settings) → sound s ≡ false → fresh_of s ≡ Refused 10
unfolding fresh_of
fresh_refused s h = rw h
