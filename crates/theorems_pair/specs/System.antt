-- "Join two such ends by a link that may lose, delay, repeat or reorder frames, but never alters, invents or turns back one. Both
-- start fresh; ticks, deliveries, requests and link reports come in any order."
use Rattle.std.specs.Prelude.{ℕ, zero, suc, List, [], ◌∷◌, Bool, true, false, cond, eqb}
use Rattle.octets.specs.Bits.{bit}
use Rattle.link_peer.specs.declared.Settings.{Settings}
use Rattle.link_discovery.specs.declared.Discovery.{Discovery}
use Rattle.link_end.specs.declared.End.{End}
use Rattle.link_end.specs.declared.Report.{Report}
use Rattle.link_end.specs.Parts.{fresh_end, discovery_of}
use Rattle.theorems_reach.specs.Machine.{Request, Input, tick, report, receive, request, Call, outcome_of, frame_of}

pub data Side : Type 0 where
  near : Side
  far : Side

abbrev pub other : Side → Side
other near = far
other far = near

-- whether two sides are the same
abbrev pub same : Side → Side → Bool
same near near = true
same near far = false
same far near = false
same far far = true

-- an accepted call: whose it was, what it took, the frame that it wrote (no octets for none), whether the end is active, and
-- where its discovery stood after the call
pub record Moment : Type 0 where
  pub side : Side
  pub input : Input
  pub wrote : List ℕ
  pub active : Bool
  pub discovery : Discovery

-- the two ends, and all that was accepted so far, the latest first
pub record World : Type 0 where
  pub ends : Side → End
  pub past : List Moment

-- ---- a call at one side

abbrev pub moment_of : Side → Call → End → Moment
moment_of s c e =
    record {
      side = s;
      input = c.input;
      wrote = frame_of c e;
      active = bit 0 e.settings.configuration;
      discovery = discovery_of (outcome_of c e).end;
    }

abbrev pub put : Side → End → (Side → End) → Side → End
put near e ends near = e
put near e ends far = ends far
put far e ends near = ends near
put far e ends far = e

-- a refused call leaves everything as it was
abbrev pub called : Side → Call → World → World
called s c w =
    cond (eqb (outcome_of c (w.ends s)).answer 0)
    (record { ends = put s (outcome_of c (w.ends s)).end w.ends; past = moment_of s c (w.ends s) ∷ w.past })
    w

-- ---- what may happen

-- at a side: a tick, a report, a request; or a frame arrives that the other side wrote, the one of the n-th last call. A frame
-- may never arrive, or late, or more than once, or after later ones; nothing else ever arrives.
pub data Act : Type 0 where
  ticks : Act
  reports : Report → Act
  requests : Request → Act
  arrives : ℕ → Act

-- with the octets of the output that is lent
pub record Happening : Type 0 where
  pub side : Side
  pub act : Act
  pub out : List ℕ

-- the frame that a side wrote in the n-th last call, no octets for none
abbrev pub frame_at : Side → ℕ → List Moment → List ℕ
frame_at s n [] = []
frame_at s zero (m ∷ past) = cond (same s m.side) m.wrote []
frame_at s (suc n) (m ∷ past) = frame_at s n past

abbrev pub delivered : Side → List ℕ → List ℕ → World → World
delivered s out [] w = w
delivered s out (x ∷ f) w = called s (record { input = receive (x ∷ f); out = out }) w

abbrev pub happens : Side → List ℕ → Act → World → World
happens s out ticks w = called s (record { input = tick; out = out }) w
happens s out (reports r) w = called s (record { input = report r; out = out }) w
happens s out (requests q) w = called s (record { input = request q; out = out }) w
happens s out (arrives n) w = delivered s out (frame_at (other s) n w.past) w

-- a run: happenings one after another
abbrev pub run : World → List Happening → World
run w [] = w
run w (h ∷ hs) = run (happens h.side h.out h.act w) hs

-- "Both start fresh"
abbrev pub begin : (Side → Settings) → World
begin settings = record { ends = λ s. fresh_end (settings s); past = [] }
