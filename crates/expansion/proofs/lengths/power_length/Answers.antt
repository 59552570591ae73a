use Rattle.std.proofs.Common.{◌≡◌, ◌<◌, ◌≤◌, sym, ap, subst, ◌∙◌, rules}
use Rattle.poly.specs.Seen.{terms_in}
use Rattle.expansion.specs.Counts.{most_terms, IsCount}
use Rattle.expansion.proofs.Counting.{of_first, none_above, some_is, at_least_one}
use Rattle.expansion.specs.Lengths.{power_length}
use Rattle.expansion.proofs.LengthLaws.{power_none}
use Rattle.expansion.specs.Counts.{factor_terms}
use Rattle.expansion.proofs.LengthLaws.{power_above}
use Rattle.expansion.proofs.lengths.power_length.Goals as goal

pub returns-then-exponent-eq0 : goal.returns-then-exponent-eq0
returns-then-exponent-eq0 c =
    let none : c.args.exponent ≡ 0 = search rules in
    let n = factor_terms (terms_in c.args.image.now) in
    of_first _ (sym (power_none n) ∙ ap (power_length n) (sym none))

pub returns-in_default : goal.returns-in_default
returns-in_default c =
    let some : ¬ (c.args.exponent ≡ 0) = search rules in
    let n = factor_terms (terms_in c.args.image.now) in
    power_above n c.args.exponent (at_least_one (terms_in c.args.image.now)) some
    (subst (λ k. most_terms < k) c.factor.ensures
    (none_above _ c.limited.result c.limited.ensures c.in_default.not-Some))

pub products-requires-clause-some : goal.products-requires-clause-some
products-requires-clause-some c =
    let told = some_is _ c.in-Some.terms c.limited.result c.limited.ensures c.in-Some.is in
    subst (λ k. 0 < k) (sym (told.0 ∙ c.factor.ensures))
    (at_least_one (terms_in c.args.image.now))

pub products-requires-clause-few : goal.products-requires-clause-few
products-requires-clause-few c =
    let told = some_is _ c.in-Some.terms c.limited.result c.limited.ensures c.in-Some.is in
    subst (λ k. k ≤ most_terms) (sym told.0) told.1

pub returns : goal.returns
returns c =
    let told = some_is _ c.in-Some.terms c.limited.result c.limited.ensures c.in-Some.is in
    subst (λ k. IsCount (power_length k c.args.exponent) c.products.result)
    (told.0 ∙ c.factor.ensures) c.products.ensures
