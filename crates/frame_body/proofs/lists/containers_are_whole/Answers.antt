use borrow.Author.Tests.{ne_eqb}
use Rattle.frame_body.specs.Lists.{Containers}
use Rattle.frame_body.proofs.Strides.{begun, arrived, containers_end, containers_break, container_stride}
use Rattle.frame_body.proofs.lists.containers_are_whole.Goals as goal

pub loop-at-init : goal.loop-at-init
loop-at-init c = begun Containers _

pub returns-then-body-at-eq0 : goal.returns-then-body-at-eq0
returns-then-body-at-eq0 c = let l = c.loop-at in containers_end _ l.at l.invariant c.loop-at-test.true c.if-body-at-eq0.true

pub returns-then-body-from : goal.returns-then-body-from
returns-then-body-from c = let l = c.loop-at in containers_break _ l.at l.invariant c.loop-at-test.true (ne_eqb _ _ c.if-body-at-eq0.false) c.if-body-from.true

pub loop-at-preserved : goal.loop-at-preserved
loop-at-preserved c = let l = c.loop-at in container_stride _ l.at _ l.invariant (ne_eqb _ _ c.if-body-at-eq0.false) c.if-body-from.false c.value_octets.ensures

pub returns : goal.returns
returns c = arrived Containers _ c.loop-at.at c.loop-at.invariant c.loop-at-test.false
