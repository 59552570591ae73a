use Rattle.std.proofs.Common.{length}
use Rattle.algebra.proofs.In.{each_in}
use Rattle.loops.specs.Inv.{Inv}
use Rattle.closures.proofs.Ideals.{invariants_ideal}
use Rattle.closures.proofs.UpTo.{reduced_up_to}
use Rattle.closures.proofs.laws.standard_monomials_tell_the_reduced_list.Goals as goal

pub returns : goal.returns
returns c s = λ program d gs es inv tidy standard none.
    reduced_up_to (length program.names) (Inv program) (invariants_ideal program) d gs
    (λ g i. each_in (Inv program) gs g inv i) tidy es standard none
