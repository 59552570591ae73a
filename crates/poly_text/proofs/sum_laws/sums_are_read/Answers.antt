use Rattle.poly_text.specs.Sums.{sum_language, whole_sum}
use Rattle.poly_text.proofs.SumChecked.{sums_checked, sum_whole, sums_spelled}
use Rattle.poly_text.proofs.WholeTexts.{texts_read, texts_refused}
use Rattle.poly_text.proofs.sum_laws.sums_are_read.Goals as goal

pub returns : goal.returns
returns c = record {
  read = λ bytes s t. texts_read sum_language sums_checked whole_sum sum_whole s (sums_spelled s)
      bytes t;
  fault = λ bytes s x why. texts_refused sum_language sums_checked whole_sum sum_whole s
      (sums_spelled s) bytes x why;
}
