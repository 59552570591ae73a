use Rattle.std.proofs.Common.{◌∷◌, [], refl}
use Rattle.grammars.specs.Grammar.{rule}
use Rattle.grammars.proofs.Parts.{part_read, part_refused}
use Rattle.poly_text.specs.Sums.{a_sum, sum_language}
use Rattle.poly_text.proofs.SumChecked.{sums_checked, sums_begin_exactly}
use Rattle.poly_text.proofs.sum_laws.sums_in_texts_are_read.Goals as goal

pub returns : goal.returns
returns c = record {
  read = λ s t ts x after. part_read sum_language sums_checked sums_begin_exactly (rule a_sum ∷ [])
      refl s (λ ts. ts) (λ text. (_, refl)) ts x t after;
  fault = λ s ts x why. part_refused sum_language sums_checked sums_begin_exactly (rule a_sum ∷ [])
      refl s (λ ts. ts) (λ text. (_, refl)) ts x why;
}
