use Rattle.poly_text.specs.Sums.{sum_language, whole_equation}
use Rattle.poly_text.proofs.SumChecked.{sums_checked, equation_whole, equations_spelled}
use Rattle.poly_text.proofs.WholeTexts.{texts_read, texts_refused}
use Rattle.poly_text.proofs.sum_laws.equations_are_read.Goals as goal

pub returns : goal.returns
returns c = record {
  read = λ bytes s t. texts_read sum_language sums_checked whole_equation equation_whole s
      (equations_spelled s) bytes t;
  fault = λ bytes s x why. texts_refused sum_language sums_checked whole_equation equation_whole s
      (equations_spelled s) bytes x why;
}
