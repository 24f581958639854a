use Prim.Native.Nat.{ℕ}
use mathlib.Core.Path.{sym, ap, ◌∙◌}
use mathlib.Core.List.{List}
use lib.ListN.{length}
use lib.Seq.{sets}
use Rattle.text_eventlog.specs.Line.{fields}
use Rattle.text_eventlog.proofs.Ranges.{in_range_seven, refused_10, refused_9, wrote}
use Rattle.text_eventlog.proofs.store.write_line.Goals as goal

pub returns-then-not-in_range : goal.returns-then-not-in_range
returns-then-not-in_range c = refused_10 _ _ _ _ (sym c.in_range.ensures ∙ c.if-not-in_range.true)

pub line_values-values-requires : goal.line_values-values-requires
line_values-values-requires c = (in_range_seven _ _ _ (sym c.in_range.ensures ∙ c.if-not-in_range.false)).long

pub returns-then-out-octets : goal.returns-then-out-octets
returns-then-out-octets c = let r = c.in_range in
    let octets = c.fields_octets-octets.ensures ∙ ap (λ (x : List ℕ). length (fields x)) c.line_values-values.ensures in
    refused_9 _ _ _ _ (sym r.ensures ∙ c.if-not-in_range.false) (rw octets at c.if-out-octets.true)

pub returns : goal.returns
returns c = let out = c.args.out.now in
    let r = c.in_range in
    let values = c.line_values-values.ensures in
    wrote _ _ _ _ (sym r.ensures ∙ c.if-not-in_range.false) _ _
    (c.fields_octets-octets.ensures ∙ ap (λ (x : List ℕ). length (fields x)) values)
    c.if-out-octets.false
    (c.put_fields.ensures ∙ ap (λ (x : List ℕ). sets out 0 (fields x)) values)
