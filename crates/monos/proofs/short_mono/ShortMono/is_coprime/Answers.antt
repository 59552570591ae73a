use Rattle.std.proofs.Common.{eq-eqb, sym, ◌∙◌}
use Rattle.std.proofs.Math.Facts.{Fits-of_lt}
use Rattle.std.proofs.lemmas.Bool.{eqb-true}
use Rattle.monos.proofs.ShortMonos.{sum_fits, coprime_is}
use Rattle.monos.proofs.short_mono.ShortMono.is_coprime.Goals as goal

pub overflow_add-result : goal.overflow_add-result
overflow_add-result c = Fits-of_lt (sum_fits _ _ _ _ _ _ _ _ c.self.invariant c.other.invariant
    c.self.view_is c.other.view_is c.requires)

pub returns : goal.returns
returns c =
    let is = coprime_is _ _ _ _ _ _ _ _ c.self.invariant c.other.invariant
    c.self.view_is c.other.view_is c.requires in (
      (λ t. is.0 (sym c.word_of_lcm.ensures.word ∙ eqb-true _ _ t)),
      (λ h. eq-eqb _ _ (c.word_of_lcm.ensures.word ∙ is.1 h)),
    )
