use Rattle.std.proofs.Common.{sym, ap, ◌∙◌, ◌≡◌, true, false}
use Rattle.link_discovery.specs.Standing.{is_any}
use Rattle.link_end.specs.Parts.{discovery_of}
use Rattle.link_end.specs.Taking.{known, taken_in_any, taken_elsewhere}
use Rattle.link_end.proofs.DuesLaws.{taken_any, taken_else, whole_by}
use Rattle.link_end.proofs.End.take.Goals as goal

pub returns-then-not-self : goal.returns-then-not-self
returns-then-not-self c = let e = c.args.self.now in
    let m = c.args.heard.now in
    rw (c.owe.ensures e (sym c.before-was.ensures)) (whole_by m e false c.if-not-self.true)

pub returns-then-not-is_any : goal.returns-then-not-is_any
unfolding taken_elsewhere
returns-then-not-is_any c = let e = c.args.self.now in
    let m = c.args.heard.now in
    let d = c.discovery-standing.ensures in
    let k = c.know.ensures in
    let any : is_any (discovery_of (known m e)) ≡ false =
    sym (ap is_any (d ∙ ap discovery_of k)) ∙ sym c.is_any.ensures ∙ c.if-not-is_any.true in
    rw (c.owe_at.ensures e (sym c.before-was.ensures), c.settle.ensures, d, k) (taken_else m e any)
    ∙ whole_by m e true c.if-not-self.false

pub returns : goal.returns
unfolding taken_in_any
returns c = let e = c.args.self.now in
    let m = c.args.heard.now in
    let d = c.discovery-standing.ensures in
    let k = c.know.ensures in
    let any : is_any (discovery_of (known m e)) ≡ true =
    sym (ap is_any (d ∙ ap discovery_of k)) ∙ sym c.is_any.ensures ∙ c.if-not-is_any.false in
    rw (c.owe_at-2.ensures e (sym c.before-was.ensures), c.act.ensures, c.obeys-obeyed.ensures, c.show-shown.ensures, c.settle.ensures, d, k) (taken_any m e any)
    ∙ whole_by m e true c.if-not-self.false
