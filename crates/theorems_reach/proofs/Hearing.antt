-- What is heard of a frame of octets, or of one in plain form, fits the widths that an end keeps it in.
use Rattle.std.specs.Prelude.{Option, None, Some, ℕ}
use Prim.Native.Nat.{ℕ, ◌^◌, ◌<◌, ◌≤◌, ◌/◌, ◌%◌}
use mathlib.Core.Path.{◌≡◌, refl}
use mathlib.Core.List.{List, [], ◌∷◌}
use mathlib.Core.Bool.{true, ◌||◌, or-true}
use native.Mathlib.Omega.{arith}
use borrow.Author.Tests.{eqb-false, ltb-true, lt-ltb}
use lib.Dec.{ltb, eqb}
use Rattle.frame_body.specs.declared.Information.{Information}
use Rattle.frame_body.specs.Information.{local_in}
use Rattle.frame_body.specs.declared.InformationPart.{InformationPart}
use Rattle.frame_body.specs.declared.InformationPart.TheVariants.{Local as local, Remote as remote}
use Rattle.frame.specs.Frame.{Body, information, notification, request, response, loopback, organization, Message, accepted, decode, local_of}
use Rattle.octets.specs.Octets.{Octets}
use Rattle.octets.proofs.Bools.{by_cond, and_l, and_r}
use Rattle.octets.specs.Tests.{every}
use Rattle.frame_writer.specs.Plain.{plain_body}
use Rattle.theorems_frame.proofs.Informing.{fit_part, plain_parts_lem}
use Rattle.theorems_frame.proofs.Fitting.{FitsBody, shown_fits}
use Rattle.link_peer.specs.Peers.{is_held, kept_from, record_from}
use Rattle.link_end.specs.declared.Peer.{Peer}
use Rattle.link_end.specs.declared.Action.{Action}
use Rattle.link_end.specs.declared.Action.TheVariants.{Inform, Notify, Command, Other}
use Rattle.link_end.specs.Taking.{last_after}
use Rattle.link_end.specs.Ranges.{record_fits, last_fits, never, besides}
use Rattle.link_end.specs.Hearing.{action_of}

-- the number of a notification is one of two octets
abbrev pub Numbered : Action → Type 0
Numbered Inform = Unit {0}
Numbered (Notify n) = n < 2 ^ 16
Numbered (Command c) = Unit {0}
Numbered Other = Unit {0}

-- the record that a Local TLV makes fits, where it is among parts that fit
local_fits : (ps : List InformationPart) → every fit_part ps ≡ true → record_fits (record_from (local_in ps) None) ≡ true
unfolding record_fits
local_fits [] a = refl
local_fits (local i ∷ ps) a = and_l (fit_part (local i)) (every fit_part ps) a
local_fits (remote i ∷ ps) a = local_fits ps (and_r (fit_part (remote i)) (every fit_part ps) a)

pub record HeardFits (b : Body) : Type 0 where
  pub local : record_fits (record_from (local_of b) None) ≡ true
  pub number : Numbered (action_of b)

body_heard : (b : Body) → FitsBody b → HeardFits b
unfolding record_fits
body_heard (information ps) h = record { local = local_fits ps h; number = tt }
body_heard (notification n es) h = record { local = refl; number = h.0 }
body_heard (request ds) h = record { local = refl; number = tt }
body_heard (response cs) h = record { local = refl; number = tt }
body_heard (loopback n) h = record { local = refl; number = tt }
body_heard (organization oui x) h = record { local = refl; number = tt }

-- of a body in plain form
pub plain_heard : (b : Body) → plain_body b ≡ true → HeardFits b
unfolding record_fits
plain_heard (information ps) h = record { local = local_fits ps (plain_parts_lem ps h).fits; number = tt }
plain_heard (notification n es) h =
    let small : ltb n (256 ^ 2) ≡ true = search and_l in
    record { local = refl; number = ltb-true n (256 ^ 2) small }
plain_heard (request ds) h = record { local = refl; number = tt }
plain_heard (response cs) h = record { local = refl; number = tt }
plain_heard (loopback n) h = record { local = refl; number = tt }
plain_heard (organization oui x) h = record { local = refl; number = tt }

-- of a frame of octets
pub heard_fits : (f : List ℕ) (m : Message) → Octets f → decode f ≡ accepted m → HeardFits m.body
heard_fits f m o d = body_heard m.body (shown_fits f m o d).body

-- ---- what is kept of it

-- "a received 3 keeps the last value"
pub kept_fits : (flags kept : ℕ) → kept ≤ 2 → kept_from flags kept ≤ 2
unfolding kept_from
kept_fits flags kept h =
    by_cond (λ (k : ℕ). k ≤ 2) (eqb (flags / 8 % 4) 3) (λ _. h) (λ f. let n = eqb-false (flags / 8 % 4) 3 f in omega arith)

pub record_fits_lem : (local : Option Information) (r : Option Information) → record_fits (record_from local None) ≡ true → record_fits r ≡ true → record_fits (record_from local r) ≡ true
record_fits_lem None r l h = h
record_fits_lem (Some i) r l h = l

pub record_beside : (local : Option Information) (p : Peer) → besides p ≡ true → never p.last || is_held (record_from local p.held) ≡ true
record_beside None p h = h
record_beside (Some i) p h = or-true (never p.last)

pub last_fits_lem : (a : Action) (last : Option ℕ) → Numbered a → last_fits last ≡ true → last_fits (last_after a last) ≡ true
unfolding last_fits
last_fits_lem Inform last n h = h
last_fits_lem (Notify k) last n h = lt-ltb k (2 ^ 16) n
last_fits_lem (Command c) last n h = h
last_fits_lem Other last n h = h
