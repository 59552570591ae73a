use Rattle.algebra.specs.Fraction.{ℚ}
use Rattle.loops.proofs.Starts.{start_from_start, start_by_free}
use Rattle.loops.proofs.Invariants.{start_from_is}
use Rattle.loops.proofs.laws.starts_are_made_of_free_variables.Goals as goal

pub returns : goal.returns
returns c s = record {
  made = start_from_is;
  itself = λ program s is. start_from_start ℚ (λ c. c) program s is.holds;
  free = λ program w s t is it h. start_by_free ℚ (λ c. c) program w s t is it h;
}
