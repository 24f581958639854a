-- What calls do not change: an end's settings, ever; and, before what is owed is said, its revision and whether a frame is
-- owed, its meter but for ticks, its event number but for notifications.
use Prim.Native.Nat.{ℕ}
use mathlib.Core.Path.{◌≡◌, refl, ap, ◌∙◌}
use mathlib.Core.List.{List, [], ◌∷◌}
use mathlib.Core.Bool.{Bool}
use Rattle.octets.proofs.Bools.{by_cond}
use Rattle.link_discovery.specs.Standing.{is_lost}
use Rattle.link_limit.specs.Limit.{turned_meter}
use Rattle.link_limit.specs.Owing.{following}
use Rattle.link_limit.specs.declared.Meter.{Meter}
use Rattle.link_peer.specs.declared.Settings.{Settings}
use Rattle.link_end.specs.declared.End.{End}
use Rattle.link_end.specs.declared.Report.{Report}
use Rattle.link_end.specs.declared.Report.TheVariants.{LinkUp, LinkDown, DyingGasp, CriticalEvent}
use Rattle.link_end.specs.declared.Heard.{Heard}
use Rattle.link_end.specs.Parts.{fresh_end, faulted, settled}
use Rattle.link_end.specs.Sending.{dues, sends, sent}
use Rattle.link.specs.Outcomes.{Outcome, concluded}
use Rattle.link_end.specs.Ticking.{missed, ticked}
use Rattle.link_end.specs.Reporting.{link_up, link_down, reported}
use Rattle.link_end.specs.Taking.{Taken, learned, acted, taken}
use Rattle.link_end.specs.Granting.{granted}
use Rattle.theorems_reach.specs.Machine.{Request, start, stop, variables, notify, tell, respond, Input, tick, report, receive, request, Call, asked_of, outcome_of}
use Rattle.theorems_reach.specs.Runs.{after}
use Rattle.theorems_reach.proofs.Coming.{Made, ticks, reports, hears, dues_after, Comes, refuses, concludes, grants, comes}
use Rattle.theorems_reach.proofs.Keeping.{by_taken}

-- the meter that a call leaves before any frame is counted: a tick turns it
abbrev pub meter_by : Input → Meter → Meter
meter_by tick m = turned_meter m
meter_by (report r) m = m
meter_by (receive f) m = m
meter_by (request q) m = m

-- the event number after a request: a notification takes one
abbrev pub number_by : Request → ℕ → ℕ
number_by start n = n
number_by stop n = n
number_by (variables ds) n = n
number_by (notify vs) n = following n
number_by (tell oui x) n = n
number_by (respond ns vs ds) n = n

-- what lasts of an end
pub record Lasting : Type 0 where
  pub settings : Settings
  pub revision : ℕ
  pub meter : Meter
  pub number : ℕ
  pub owed : Bool

abbrev pub lasting_of : End → Lasting
lasting_of e = record { settings = e.settings; revision = e.own.revision; meter = e.meter; number = e.own.number; owed = e.own.owed }

-- x is made of e, with some meter and event number
abbrev pub Stays : End → Meter → ℕ → End → Type 0
Stays e m n x = lasting_of x ≡ record { settings = e.settings; revision = e.own.revision; meter = m; number = n; owed = e.own.owed }

module _ (e : End) where
  abbrev Same : End → Type 0
  Same x = lasting_of x ≡ lasting_of e

  missed_same : Same (missed e)
  unfolding missed faulted
  missed_same = by_cond Same e.link.up (λ _. by_cond Same (is_lost e.link.lost) (λ _. refl) (λ _. refl)) (λ _. refl)

  ticked_stays : Stays e (turned_meter e.meter) e.own.number (ticked e)
  unfolding ticked settled
  ticked_stays =
      ap (λ (k : Lasting). record { settings = k.settings; revision = k.revision; meter = turned_meter e.meter; number = k.number; owed = k.owed }) missed_same

  reported_same : (r : Report) → Same (reported r e)
  unfolding link_up link_down faulted
  reported_same LinkUp = by_cond Same e.link.up (λ _. refl) (λ _. refl)
  reported_same LinkDown = by_cond Same e.link.up (λ _. refl) (λ _. refl)
  reported_same (DyingGasp on) = refl
  reported_same (CriticalEvent on) = refl

  taken_same : (m : Heard) → Same (taken m e).end
  unfolding learned settled acted
  taken_same m = by_taken m e Same (λ _. refl) (λ _ _. refl) (λ _ _ _. refl)

-- by a tick, a report or an accepted frame
pub made_stays : (e : End) (i : Input) (t : Taken) → Made e i t → Stays e (meter_by i e.meter) e.own.number t.end
made_stays e i t ticks = ticked_stays e
made_stays e i t (reports r) = reported_same e r
made_stays e i t (hears f m d) = taken_same e _

-- by a request
pub asked_stays : (q : Request) (e : End) → Stays e e.meter (number_by q e.own.number) (asked_of q e).next
asked_stays start e = refl
asked_stays stop e = refl
asked_stays (variables ds) e = refl
asked_stays (notify vs) e = refl
asked_stays (tell oui x) e = refl
asked_stays (respond ns vs ds) e = refl

-- ---- the settings

by_comes : (c : Call) (e : End) → Comes c e → (outcome_of c e).end.settings ≡ e.settings
unfolding concluded dues sent granted
by_comes c e (refuses h) = rw h.outcome
by_comes c e (concludes h) =
    let s = ap (λ (k : Lasting). k.settings) (made_stays e c.input h.made h.how) in
    rw h.outcome (by_cond (λ (o : Outcome). o.end.settings ≡ e.settings) (sends (dues_after e h.made)) (λ _. s) (λ _. s))
by_comes c e (grants h) = rw h.outcome (ap (λ (k : Lasting). k.settings) (asked_stays h.asked e))

-- no call changes them
pub settings_stay : (c : Call) (e : End) → (outcome_of c e).end.settings ≡ e.settings
settings_stay c e = by_comes c e (comes c e)

pub run_settings : (s : Settings) (cs : List Call) → (after s cs).settings ≡ s
unfolding fresh_end
run_settings s [] = refl
run_settings s (c ∷ cs) = settings_stay c (after s cs) ∙ run_settings s cs
