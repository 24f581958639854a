use Prim.Native.Nat.{suc}
use mathlib.Core.Path.{sym, ◌∙◌}
use native.Mathlib.Omega.{arith}
use borrow.Author.Rules.{rules}
use lib.ListN.{get_or, drop, drop_of_length-le}
use lib.Seq.{drop-cons}
use native.Mathlib.Numerals.{add-one}
use Rattle.text_eventlog.proofs.Numbers.{all_left, not_led, none_left, one_left, bad_left}
use Rattle.text_eventlog.proofs.digits.number_of.Goals as goal

pub returns-then-not-no_leading_zero : goal.returns-then-not-no_leading_zero
returns-then-not-no_leading_zero c = let f = c.args.field.now in sym (not_led f (sym c.no_leading_zero.ensures ∙ c.if-not-no_leading_zero.true))

pub loop-octet-init : goal.loop-octet-init
loop-octet-init c = let f = c.args.field.now in (search rules, all_left f (sym c.no_leading_zero.ensures ∙ c.if-not-no_leading_zero.false))

pub returns-in_err-n : goal.returns-in_err-n
returns-in_err-n c = let f = c.args.field.now in
    let l = c.loop-octet in
    let bad = sym c.with_digit.ensures ∙ c.in_err-n.was in
    c.from_residual.ensures ∙ sym (l.invariant.1 ∙ rw (drop-cons f l.octet-index 0 c.loop-octet-test.true) (bad_left l.n (get_or f l.octet-index 0) (drop (suc l.octet-index) f) bad))

pub loop-octet-preserved : goal.loop-octet-preserved
loop-octet-preserved c = let f = c.args.field.now in
    let l = c.loop-octet in
    let m = c.in_ok-n.n in
    let is = sym c.with_digit.ensures ∙ c.in_ok-n.was in
    (search rules, l.invariant.1 ∙ rw (add-one l.octet-index, drop-cons f l.octet-index 0 c.loop-octet-test.true) (one_left l.n (get_or f l.octet-index 0) (drop (suc l.octet-index) f) m is))

pub returns : goal.returns
returns c = let f = c.args.field.now in let l = c.loop-octet in sym (l.invariant.1 ∙ rw (drop_of_length-le f {i = l.octet-index} (omega arith)) (none_left l.n l.invariant.0))
