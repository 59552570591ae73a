use Rattle.std.proofs.Common.{◌≡◌, ℕ, ◌<◌, ◌≤◌, ◌+◌, sym, ap, subst, ◌∙◌, arith, rules}
use Rattle.expansion.specs.Counts.{most_terms, IsCount}
use Rattle.expansion.specs.Lengths.{power_length}
use Rattle.expansion.proofs.Counting.{of_first, none_above, some_is}
use Rattle.expansion.proofs.LengthLaws.{power_none, power_above}
use Rattle.invariant_fix.proofs.lengths.power_of.Goals as goal

from_zero : (n : ℕ) → 0 + n ≡ n
from_zero n = omega arith

pub returns-then-exponent-eq0 : goal.returns-then-exponent-eq0
returns-then-exponent-eq0 c =
    let none : c.args.exponent ≡ 0 = search rules in
    of_first _ (sym (power_none c.args.terms) ∙ ap (power_length c.args.terms) (sym none))

pub returns-in_default : goal.returns-in_default
returns-in_default c =
    let some : ¬ (c.args.exponent ≡ 0) = search rules in
    power_above _ _ c.requires some (subst (λ k. most_terms < k) (from_zero c.args.terms)
    (none_above _ _ c.sum.ensures c.in_default.not-Some))

pub products-requires-clause-some : goal.products-requires-clause-some
products-requires-clause-some c =
    let told = some_is _ _ _ c.sum.ensures c.in-Some.is in
    subst (λ k. 0 < k) (sym (told.0 ∙ from_zero c.args.terms)) c.requires

pub products-requires-clause-few : goal.products-requires-clause-few
products-requires-clause-few c =
    let told = some_is _ _ _ c.sum.ensures c.in-Some.is in
    subst (λ k. k ≤ most_terms) (sym told.0) told.1

pub returns : goal.returns
returns c =
    let told = some_is _ _ _ c.sum.ensures c.in-Some.is in
    subst (λ k. IsCount (power_length k c.args.exponent) c.products.result)
    (told.0 ∙ from_zero c.args.terms) c.products.ensures
