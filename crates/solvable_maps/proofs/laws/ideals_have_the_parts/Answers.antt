use Rattle.solvable_maps.proofs.Numbers.{members_of_parts}
use Rattle.solvable_maps.proofs.laws.ideals_have_the_parts.Goals as goal

pub returns : goal.returns
returns c = λ base coprime m gs p a b normal h e l. members_of_parts base coprime m gs p a b normal
    h e l
