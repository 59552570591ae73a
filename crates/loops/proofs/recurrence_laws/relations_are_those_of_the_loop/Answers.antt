use Rattle.loops.proofs.Relations.{of_loop}
use Rattle.loops.proofs.recurrence_laws.relations_are_those_of_the_loop.Goals as goal

pub returns : goal.returns
returns c s = of_loop
