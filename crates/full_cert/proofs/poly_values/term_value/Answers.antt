use Rattle.std.proofs.Common.{◌∙◌, rules, subst}
use Rattle.std.specs.Prelude.{All, ◌≤◌}
use Rattle.frac128.specs.FracMeaning.{fraction_of}
use Rattle.poly_text.specs.Flat.{most_power}
use Rattle.full_cert.proofs.poly_values.term_value.Goals as goal

pub returns-clause-narrow : goal.returns-clause-narrow
unfolding fraction_of
returns-clause-narrow c = record {
  numerator = search rules;
  denominator = search rules;
  exponents = subst (All (λ n. n ≤ most_power)) (c.as_slice.ensures ∙ c.exponents.ensures.exponents)
      c.in_ok-exponents.ensures.holds;
}
