-- What an accepted call makes of an end's settings, link, peer and role: they come from the tick, the report, the received frame
-- or the request alone, whether a frame is written or not.
use Prim.Native.Nat.{ℕ}
use mathlib.Core.Path.{◌≡◌, refl, sym, ap, ◌∙◌}
use mathlib.Core.List.{List}
use mathlib.Core.Bool.{true}
use Rattle.frame.specs.Frame.{Message, accepted, decode}
use Rattle.octets.proofs.Bools.{by_cond}
use Rattle.link_loopback.specs.declared.Role.{Role}
use Rattle.link_end.specs.declared.End.{End}
use Rattle.link_end.specs.declared.Report.{Report}
use Rattle.link_end.specs.declared.News.{News}
use Rattle.link_end.specs.Parts.{discovery_of, in_any}
use Rattle.link_end.specs.Sending.{dues, sends, sent}
use Rattle.link.specs.Outcomes.{Outcome, concluded}
use Rattle.link_end.specs.Ticking.{ticked}
use Rattle.link_end.specs.Reporting.{reported}
use Rattle.link_end.specs.Taking.{Taken, taken}
use Rattle.link_end.specs.Granting.{granted}
use Rattle.theorems_reach.specs.Machine.{Request, Input, tick, report, receive, request, Call, asked_of, outcome_of}
use Rattle.theorems_reach.proofs.Coming.{Made, ticks as made_ticks, reports as made_reports, hears as made_hears, dues_after, Comes, refuses, concludes, grants, comes}
use Rattle.theorems_reach.proofs.Passing.{passes_grant}
use Rattle.theorems_reach.proofs.Losing.{Footing, footing_of, standing, stands_on}
use Rattle.link_end.specs.Hearing.{heard_of}

-- what is seen of an end: all but its meter and what it keeps for sending
pub record Face : Type 0 where
  pub footing : Footing
  pub role : Role

abbrev pub face_of : End → Face
face_of e = record { footing = footing_of e; role = e.role }

-- where discovery stands is seen
pub same_discovery : (x y : End) → face_of x ≡ face_of y → discovery_of x ≡ discovery_of y
same_discovery x y h = stands_on x ∙ ap (λ (f : Face). standing f.footing) h ∙ sym (stands_on y)

-- what an input makes of an end, but for its frame
pub data Becomes (e : End) : Input → End → Type 0 where
  ticks : Becomes e tick (ticked e)
  reports : (r : Report) → Becomes e (report r) (reported r e)
  hears : (f : List ℕ) (m : Message) → decode f ≡ accepted m → Becomes e (receive f) (taken (heard_of m) e).end
  asks : (q : Request) → in_any e ≡ true → (asked_of q e).permitted ≡ true → Becomes e (request q) (asked_of q e).next

-- a frame was received, of which a message is read that says something
pub record Hears (i : Input) (Says : Message → Type 0) : Type 0 where
  pub frame : List ℕ
  pub message : Message
  pub received : i ≡ receive frame
  pub reads : decode frame ≡ accepted message
  pub says : Says message

-- the effect of a call
pub record Effect (c : Call) (e : End) : Type 0 where
  pub next : End
  pub how : Becomes e c.input next
  pub face : face_of (outcome_of c e).end ≡ face_of next

becomes_made : (e : End) (i : Input) (t : Taken) → Made e i t → Becomes e i t.end
becomes_made e i t made_ticks = ticks
becomes_made e i t (made_reports r) = reports r
becomes_made e i t (made_hears f m d) = hears f m d

concluded_face : (octets : ℕ) (shown : News) (e : End) (t : Taken) → face_of (concluded octets shown (dues_after e t)).end ≡ face_of t.end
unfolding concluded sent dues
concluded_face octets shown e t =
    by_cond (λ (o : Outcome). face_of o.end ≡ face_of t.end) (sends (dues_after e t)) (λ _. refl) (λ _. refl)

granted_face : (e x : End) → face_of (granted e x) ≡ face_of x
unfolding granted dues
granted_face e x = refl

by_comes : (c : Call) (e : End) → (outcome_of c e).answer ≡ 0 → Comes c e → Effect c e
by_comes c e z (refuses h) = absurd (h.some (sym (ap (λ (k : Outcome). k.answer) h.outcome) ∙ z))
by_comes c e z (concludes h) =
    record {
      next = h.made.end;
      how = becomes_made e c.input h.made h.how;
      face = ap (λ (k : Outcome). face_of k.end) h.outcome ∙ concluded_face _ _ e h.made;
    }
by_comes c e z (grants h) =
    let p = passes_grant h in
    let x = (asked_of h.asked e).next in
    record {
      next = x;
      how = rw h.how (asks h.asked p.any p.permitted);
      face = ap (λ (k : Outcome). face_of k.end) h.outcome ∙ granted_face e x;
    }

pub effect_of : (c : Call) (e : End) → (outcome_of c e).answer ≡ 0 → Effect c e
effect_of c e z = by_comes c e z (comes c e)
