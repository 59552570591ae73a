use Rattle.std.proofs.Common.{refl}
use Rattle.monos.proofs.ShortMonos.{quotient_is, length_of_quotient, is_short}
use Rattle.monos.proofs.short_mono.ShortMono.quotient.Goals as goal

pub overflow_sub-result : goal.overflow_sub-result
overflow_sub-result c = (quotient_is _ _ _ _ _ _ _ _ c.self.invariant c.other.invariant
    c.self.view_is c.other.view_is c.requires.arity c.requires.divides).0

pub overflow_sub-result-2 : goal.overflow_sub-result-2
overflow_sub-result-2 c = (quotient_is _ _ _ _ _ _ _ _ c.self.invariant c.other.invariant
    c.self.view_is c.other.view_is c.requires.arity c.requires.divides).1

pub invariant_of-result : goal.invariant_of-result
invariant_of-result c = (quotient_is _ _ _ _ _ _ _ _ c.self.invariant c.other.invariant
    c.self.view_is c.other.view_is c.requires.arity c.requires.divides).2

pub returns-clause-ok : goal.returns-clause-ok
returns-clause-ok c = (quotient_is _ _ _ _ _ _ _ _ c.self.invariant c.other.invariant c.self.view_is
    c.other.view_is c.requires.arity c.requires.divides).3

pub returns-clause-arity : goal.returns-clause-arity
returns-clause-arity c = length_of_quotient _ _ _ _ _ _ _ _ c.self.invariant c.other.invariant
    c.self.view_is c.other.view_is c.requires.arity

pub returns-clause-short : goal.returns-clause-short
returns-clause-short c = is_short _ _ _ _ (quotient_is _ _ _ _ _ _ _ _ c.self.invariant
    c.other.invariant c.self.view_is c.other.view_is c.requires.arity c.requires.divides).2 refl
