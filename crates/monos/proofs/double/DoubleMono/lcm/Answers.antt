use Rattle.std.proofs.Common.{ap₂, ◌++◌, ◌∙◌}
use Rattle.monos.proofs.Doubles.{lcm_is, is_double, lcm_counts}
use Rattle.monos.proofs.double.DoubleMono.lcm.Goals as goal

pub invariant_of-result : goal.invariant_of-result
invariant_of-result c = lcm_counts _ _ _ _ _ _ c.self.invariant.0 c.other.invariant.0
    c.self.view_is c.other.view_is
    c.requires c.self.invariant.1 _ _ c.lcm.ensures.lcm c.lcm-2.ensures.lcm

pub returns-clause-lcm : goal.returns-clause-lcm
returns-clause-lcm c = ap₂ ◌++◌ c.lcm.ensures.lcm
    c.lcm-2.ensures.lcm
    ∙ lcm_is _ _ _ _ _ _ c.self.invariant.0 c.other.invariant.0
    c.self.view_is c.other.view_is c.requires

pub returns-clause-double : goal.returns-clause-double
returns-clause-double c =
    let counts = lcm_counts _ _ _ _ _ _ c.self.invariant.0 c.other.invariant.0
    c.self.view_is c.other.view_is
    c.requires c.self.invariant.1 _ _ c.lcm.ensures.lcm c.lcm-2.ensures.lcm in
    is_double _ _ counts.0 counts.1 c.lcm.ensures.short c.lcm-2.ensures.short
