use mathlib.Core.Path.{◌≡◌, sym, ap, ◌∙◌}
use native.Mathlib.Omega.{arith}
use lib.ListN.{drop, length-set}
use Rattle.text_eventlog.specs.Digits.{number_of}
use Rattle.text_eventlog.proofs.Fields.{all_left, no_more, bad_field, one_read, last_read, bad_last}
use Rattle.text_eventlog.proofs.Parted.{last_from, next_from, rest_whole}
use borrow.Author.Rules.{rules}
use Rattle.text_eventlog.proofs.reader.read_fields.Goals as goal

pub loop-i-init : goal.loop-i-init
loop-i-init c = (search rules, search rules, all_left _ _)

pub returns-then-text-end : goal.returns-then-text-end
returns-then-text-end c = let s = c.args.text.now in
    let l = c.loop-i in
    sym (l.invariant.2 ∙ rw (last_from s l.at _ c.field_end-end.ensures l.invariant.1 c.if-text-end.true) (no_more l.i l.values (drop l.at s) c.loop-i-test.true))

pub returns-in_default : goal.returns-in_default
returns-in_default c = let s = c.args.text.now in
    let l = c.loop-i in
    let end = c.field_end-end in
    sym (l.invariant.2 ∙ rw (next_from s l.at end.result end.ensures c.if-text-end.false) (bad_field l.i l.values _ _ (sym c.number_of.ensures ∙ c.in_default.is)))

pub loop-i-preserved : goal.loop-i-preserved
loop-i-preserved c = let s = c.args.text.now in
    let l = c.loop-i in
    let end = c.field_end-end in
    let is = sym c.number_of.ensures ∙ c.in-Some.is in (
      simp length-set l.invariant.0,
      search rules,
      l.invariant.2 ∙ rw (next_from s l.at end.result end.ensures c.if-text-end.false) (one_read l.i l.values _ _ _ (omega arith) l.invariant.0 is),
    )

pub returns-in_default-number_of : goal.returns-in_default-number_of
returns-in_default-number_of c = let s = c.args.text.now in
    let l = c.loop-i in
    let bad = ap number_of (sym (rest_whole s l.at)) ∙ sym c.number_of-2.ensures ∙ c.in_default-number_of.is in
    let e : l.i ≡ 8 = omega arith in
    sym (l.invariant.2 ∙ rw e (bad_last (drop l.at s) l.values bad))

pub returns : goal.returns
returns c = let s = c.args.text.now in
    let l = c.loop-i in
    let is = ap number_of (sym (rest_whole s l.at)) ∙ sym c.number_of-2.ensures ∙ c.in-Some-number_of.is in
    let e : l.i ≡ 8 = omega arith in
    c.read_values.ensures ∙ sym (l.invariant.2 ∙ rw e (last_read (drop l.at s) l.values _ l.invariant.0 is))
