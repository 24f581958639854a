-- Whoever writes an enable is an active end in SEND_ANY.
use mathlib.Core.Path.{◌≡◌, ap, ◌∙◌}
use mathlib.Core.Bool.{Bool, true, false}
use lib.Dec.{eqb}
use Rattle.frame.specs.Frame.{Body, information, notification, request, response, loopback, organization}
use Rattle.octets.proofs.Bools.{never, and_l}
use Rattle.octets.specs.Bits.{bit}
use Rattle.link_loopback.specs.Loopback.{may_start}
use Rattle.link_end.specs.declared.End.{End}
use Rattle.link_end.specs.Parts.{in_any}
use Rattle.theorems_reach.specs.Machine.{Request, start, stop, variables, notify, tell, respond, Input, asked_of, body_by}
use Rattle.theorems_reach.proofs.Ranging.{asked_any}
use Rattle.theorems_reach.proofs.Effects.{Becomes, ticks, reports, hears, asks}

abbrev is_enable : Body → Bool
is_enable (information ps) = false
is_enable (notification n es) = false
is_enable (request ds) = false
is_enable (response cs) = false
is_enable (loopback n) = eqb n 1
is_enable (organization oui x) = false

may_start_lem : (e : End) → may_start e.settings.configuration e.peer.held e.role ≡ true → bit 0 e.settings.configuration ≡ true
unfolding may_start
may_start_lem e p = and_l (bit 0 e.settings.configuration) _ p

-- only a granted start has such a body
pub enable_meant : (e after : End) (i : Input) (x : End) → Becomes e i x → body_by i e after ≡ loopback 1 → (bit 0 e.settings.configuration ≡ true) × (in_any x ≡ true)
enable_meant e after i x ticks b = never (ap is_enable b)
enable_meant e after i x (reports r) b = never (ap is_enable b)
enable_meant e after i x (hears f m d) b = never (ap is_enable b)
enable_meant e after i x (asks q a p) b = (by q p b, asked_any q e ∙ a)
  where
    by : (q : Request) → (asked_of q e).permitted ≡ true → (asked_of q e).body ≡ loopback 1 → bit 0 e.settings.configuration ≡ true
    by start p b = may_start_lem e p
    by stop p b = never (ap is_enable b)
    by (variables ds) p b = never (ap is_enable b)
    by (notify vs) p b = never (ap is_enable b)
    by (tell oui x) p b = never (ap is_enable b)
    by (respond ns vs ds) p b = never (ap is_enable b)
