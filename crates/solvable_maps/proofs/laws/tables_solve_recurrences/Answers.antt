use Rattle.solvable_maps.proofs.Solving.{other_solution, equal_solution}
use Rattle.solvable_maps.proofs.laws.tables_solve_recurrences.Goals as goal

pub returns : goal.returns
returns c = record {
  other = λ base coprime m a negative own_negative inhomogeneity own l k ne q h.
      other_solution base coprime m a negative own_negative inhomogeneity own l k ne q h;
  equal = λ base coprime m a negative own l ne q h. equal_solution base coprime m a negative own l
      ne q h;
}
