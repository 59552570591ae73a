use Rattle.std.proofs.Common.{◌&&◌, sym, ap, ◌∙◌}
use Rattle.machines.specs.Cut.{divides}
use Rattle.machines.proofs.DividesTest.{divides_is}
use Rattle.complete.proofs.Walking.{apart}
use Rattle.reduced_basis.proofs.leads.is_divisor_but.Goals as goal

pub returns : goal.returns
returns c = divides_is c.divides.result _ _ c.requires c.divides.ensures
    ∙ sym (ap (λ b. b && divides c.args.lead.now c.args.mono.now) (apart _ _ c.if-place-at.false))
