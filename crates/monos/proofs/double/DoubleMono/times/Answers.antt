use Rattle.std.proofs.Common.{ap₂, ◌++◌, ◌∙◌}
use Rattle.monos.proofs.Doubles.{plus_is, is_double, sum_counts, product_fits}
use Rattle.monos.proofs.double.DoubleMono.times.Goals as goal

pub invariant_of-result : goal.invariant_of-result
invariant_of-result c = sum_counts _ _ _ _ _ _ c.self.invariant.0 c.other.invariant.0
    c.self.view_is c.other.view_is
    c.requires c.self.invariant.1 _ _ c.in-Some-Some.ensures.some c.in-Some-Some.ensures'.some

pub returns-in-Some-Some-clause-some : goal.returns-in-Some-Some-clause-some
returns-in-Some-Some-clause-some c = ap₂ ◌++◌ c.in-Some-Some.ensures.some
    c.in-Some-Some.ensures'.some
    ∙ plus_is _ _ _ _ _ _ c.self.invariant.0 c.other.invariant.0
    c.self.view_is c.other.view_is c.requires

pub returns-in-Some-Some-clause-double : goal.returns-in-Some-Some-clause-double
returns-in-Some-Some-clause-double c =
    let counts = sum_counts _ _ _ _ _ _ c.self.invariant.0 c.other.invariant.0
    c.self.view_is c.other.view_is
    c.requires c.self.invariant.1 _ _ c.in-Some-Some.ensures.some c.in-Some-Some.ensures'.some in
    is_double _ _ counts.0 counts.1 c.in-Some-Some.ensures.short c.in-Some-Some.ensures'.short

pub returns-in-Some-Some-clause-fits : goal.returns-in-Some-Some-clause-fits
returns-in-Some-Some-clause-fits c = product_fits _ _ _ _ _ _ c.self.invariant.0 c.other.invariant.0
    c.self.view_is c.other.view_is c.requires
    c.times.ensures.fits c.times-2.ensures.fits

pub returns-in_default-clause-fits : goal.returns-in_default-clause-fits
returns-in_default-clause-fits c = product_fits _ _ _ _ _ _ c.self.invariant.0 c.other.invariant.0
    c.self.view_is c.other.view_is c.requires
    c.times.ensures.fits c.times-2.ensures.fits
