use Rattle.solvable_maps.proofs.Operations.{normalized-normal, normal-value, next-value, back-value, zero-value, iteration-value}
use Rattle.solvable_maps.proofs.OneForm.{before-value}
use Rattle.solvable_maps.proofs.laws.values_of_exponentials.Goals as goal

pub returns : goal.returns
returns c = record {
  normal = λ base coprime m p a. normalized-normal base m p a;
  the_same = λ base coprime m p a n s. normal-value base coprime m p a n s;
  next = λ base coprime m p n s l. next-value base coprime m p n s l;
  back = λ base coprime m p a n s. back-value base coprime m p a n s;
  at_zero = λ base coprime m p s l. zero-value base coprime m p s l;
  before = λ base coprime m p a n s l. before-value base coprime m p a n s l;
  at_iteration = λ base coprime m p n s l. iteration-value base coprime m p n s l;
}
