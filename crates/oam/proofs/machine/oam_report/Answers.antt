use mathlib.Core.Path.{refl, sym}
use Rattle.oam_packing.specs.Octets.{unpacked}
use Rattle.oam.specs.Machine.{reported_by, reported_output}
use Rattle.oam.proofs.Stepped.{same_number, same_stored, stayed, stepped, unknown_report, report_is}
use Rattle.oam.proofs.machine.oam_report.Goals as goal

pub returns-in_default : goal.returns-in_default
unfolding reported_by reported_output
returns-in_default c =
    let a = c.args in
    let beyond = unknown_report a.report (rw c.in_default.is at c.known_report.ensures) in
    stayed (unpacked a.state.now) a.state.now a.out.now (sym (rw c.in-Ok.is at c.unpack.ensures)) (rw beyond) refl (rw beyond)
    (same_number c.told.ensures c.stepped_number.ensures)

pub returns-in-Some : goal.returns-in-Some
unfolding reported_by reported_output
returns-in-Some c =
    let a = c.args in
    let known = report_is a.report c.in-Some.known (rw c.in-Some.is at c.known_report.ensures) in
    let steps = c.take_report-step.ensures in
    stepped (unpacked a.state.now) a.state.now a.out.now (sym (rw c.in-Ok.is at c.unpack.ensures))
    (rw (known.0, ← known.1) steps.0, rw (known.0, ← known.1) steps.1) (same_stored a.state.now c.told-in-Ok.ensures c.store_outcome.ensures)
