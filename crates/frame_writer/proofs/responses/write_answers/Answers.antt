use Prim.Native.Nat.{ℕ}
use mathlib.Core.Path.{sym, ap, ◌∙◌}
use native.Mathlib.Omega.{arith}
use lib.Seq.{sets}
use Rattle.octets.specs.Layout.{body_start}
use Rattle.frame_variables.specs.Attributes.{attributes_from}
use Rattle.frame_variables.specs.Answers.{answers, measured_answers}
use Rattle.frame_variables.proofs.Placing.{formed_parts}
use Rattle.frame_writer.specs.Encode.{container_octets, joined}
use Rattle.frame_writer.proofs.Answering.{needed_same, answers_long}
use Rattle.frame_writer.proofs.Writers.{header_10, refused_formed, accepted_formed, wrote_formed}
use Rattle.frame_writer.proofs.responses.write_answers.Goals as goal

pub returns-then-not-is_plain : goal.returns-then-not-is_plain
returns-then-not-is_plain c = header_10 _ _ _ _ _ (sym c.is_plain.ensures ∙ c.if-not-is_plain.true)

pub returns-in_err-permits : goal.returns-in_err-permits
returns-in_err-permits c =
    refused_formed _ _ _ _ _ (needed_same _ _ _ _ _) c.needed_octets-needed.ensures c.permits.ensures _ c.in_err-permits.was c.from_residual.ensures.1

pub put-requires : goal.put-requires
put-requires c = omega (arith, (accepted_formed _ _ _ _ _ (needed_same _ _ _ _ _) c.needed_octets-needed.ensures c.permits.ensures c.in_ok-permits.was).2)

pub put_answers-end-requires : goal.put_answers-end-requires
put_answers-end-requires c =
    let a = c.args in
    let t = accepted_formed _ _ _ _ _ (needed_same _ _ _ _ _) c.needed_octets-needed.ensures c.permits.ensures c.in_ok-permits.was in
    let long = ap (λ (n : ℕ). measured_answers n a.attributes.now a.descriptors.now) c.room_within.ensures in
    ((formed_parts _ _ _ t.0).held, omega (arith, t.2, long, answers_long a.size a.attributes.now a.values.now a.descriptors.now t.0))

pub finish-requires : goal.finish-requires
finish-requires c =
    let a = c.args in
    let t = accepted_formed _ _ _ _ _ (needed_same _ _ _ _ _) c.needed_octets-needed.ensures c.permits.ensures c.in_ok-permits.was in
    let long = ap (λ (n : ℕ). measured_answers n a.attributes.now a.descriptors.now) c.room_within.ensures in
    omega (arith, t.2, long, c.put_answers-end.ensures.end, answers_long a.size a.attributes.now a.values.now a.descriptors.now t.0)

pub returns : goal.returns
returns c =
    let a = c.args in
    let t = accepted_formed _ _ _ _ _ (needed_same _ _ _ _ _) c.needed_octets-needed.ensures c.permits.ensures c.in_ok-permits.was in
    let room = c.room_within.ensures in
    let end = c.put_answers-end.ensures in
    let long = ap (λ (n : ℕ). measured_answers n a.attributes.now a.descriptors.now) room in
    wrote_formed _ _ _ _ _ (needed_same _ _ _ _ _) c.needed_octets-needed.ensures c.permits.ensures c.in_ok-permits.was
    (omega (arith, end.end, long, answers_long a.size a.attributes.now a.values.now a.descriptors.now t.0))
    c.put.ensures
    (end.output ∙ ap (sets _ body_start) (ap (λ (n : ℕ). joined container_octets (answers n (attributes_from a.attributes.now a.values.now) a.descriptors.now)) room))
    c.finish.ensures
