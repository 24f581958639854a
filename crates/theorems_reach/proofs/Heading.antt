-- Every accepted frame shows its header, with the number of TLVs that were skipped: "The machine's receive answer and the lister
-- carry the total." The end may be any: with the link down, outside SEND_ANY, and a repeat too.
use Rattle.std.specs.Prelude.{Option, ℕ}
use Prim.Native.Nat.{ℕ, ◌≤◌}
use mathlib.Core.Path.{◌≡◌, refl}
use mathlib.Core.List.{List}
use borrow.Author.Tests.{le-ltb}
use Rattle.octets.specs.Layout.{shortest_frame}
use Rattle.octets.proofs.Bools.{by_cond}
use Rattle.frame.specs.Frame.{Message, accepted, decode, header_in}
use Rattle.frame.specs.declared.Header.{Header}
use Rattle.link_end.specs.declared.Action.{Action}
use Rattle.link_end.specs.declared.Action.TheVariants.{Inform, Notify, Command, Other}
use Rattle.link_end.specs.declared.End.{End}
use Rattle.link_end.specs.declared.Heard.{Heard}
use Rattle.link_end.specs.declared.News.{News}
use Rattle.link_end.specs.Parts.{in_any}
use Rattle.link_end.specs.Hearing.{heard_of}
use Rattle.link_end.specs.Sending.{sends}
use Rattle.link_end.specs.Taking.{Taken, is_repeat, shown_events, shown_of, learned, taken_up, taken, taken_due}
use Rattle.link.specs.Outcomes.{Outcome, concluded}
use Rattle.link.specs.Hearing.{concluded_heard, receive_of}
use Rattle.theorems_reach.specs.Showing.{Heads}

shown_heads : (h : Header) (a : Action) (last : Option ℕ) → Heads h (shown_of h a last)
unfolding shown_of shown_events
shown_heads h Inform last = refl
shown_heads h (Notify n) last = by_cond (Heads h) (is_repeat n last) (λ _. refl) (λ _. refl)
shown_heads h (Command n) last = refl
shown_heads h Other last = refl

taken_heads : (m : Heard) (e : End) → Heads m.header (taken m e).shown
unfolding taken taken_up
taken_heads m e =
    let P : Taken → Type 0 = λ (t : Taken). Heads m.header t.shown in
    by_cond P e.link.up
    (λ _. by_cond P (in_any (learned m e)) (λ _. shown_heads m.header m.action e.peer.last) (λ _. refl))
    (λ _. refl)

concluded_heads : (h : Header) (octets : ℕ) (shown : News) (e : End) → Heads h shown → Heads h (concluded octets shown e).shown
unfolding concluded
concluded_heads h octets shown e k = by_cond (λ (o : Outcome). Heads h o.shown) (sends e) (λ _. k) (λ _. k)

pub receive_shows : (f : List ℕ) (m : Message) → decode f ≡ accepted m → (octets : ℕ) → shortest_frame ≤ octets → (e : End)
    → Heads (header_in m) (receive_of f octets e).shown
unfolding receive_of concluded_heard
receive_shows f m d octets room e =
    rw (le-ltb octets shortest_frame room, d) (concluded_heads (header_in m) octets (taken (heard_of m) e).shown (taken_due (heard_of m) e) (taken_heads (heard_of m) e))
