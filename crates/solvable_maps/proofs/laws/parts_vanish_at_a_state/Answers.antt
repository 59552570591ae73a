use Rattle.solvable_maps.proofs.Numbers.{parts_vanish}
use Rattle.solvable_maps.proofs.laws.parts_vanish_at_a_state.Goals as goal

pub returns : goal.returns
returns c = λ base coprime m s size p a normal h e l. parts_vanish base coprime m s size p a normal
    h e l
