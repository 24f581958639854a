use mathlib.Core.Path.{◌≡◌, sym, ◌∙◌}
use mathlib.Core.Bool.{true}
use native.Mathlib.Omega.{arith}
use lib.ListN.{length}
use Rattle.frame.specs.Frame.{organization}
use Rattle.frame_writer.specs.Plain.{plain_organization}
use Rattle.frame_writer.proofs.Lengths.{organization_long}
use Rattle.frame_writer.proofs.Writers.{some_sized, none_sized}
use Rattle.frame_writer.proofs.small.organization_octets.Goals as goal

pub returns-then-not-plain_organization : goal.returns-then-not-plain_organization
returns-then-not-plain_organization c =
    none_sized (organization c.args.oui c.args.octets.now) (sym c.plain_organization.ensures ∙ c.if-not-plain_organization.true)

pub returns : goal.returns
returns c =
    let h : plain_organization c.args.oui (length c.args.octets.now) ≡ true = sym c.plain_organization.ensures ∙ c.if-not-plain_organization.false in
    some_sized (organization c.args.oui c.args.octets.now) h (omega (arith, organization_long c.args.oui (length c.args.octets.now) h))
