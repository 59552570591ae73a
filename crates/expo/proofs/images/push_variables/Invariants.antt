use Rattle.std.proofs.Common.{◌≡◌, ◌++◌, drop}
use Rattle.std.specs.List.{All}
use Rattle.algebra.specs.Fraction.{ℚ}
use Rattle.polynomials.specs.Terms.{variables}
use Rattle.poly.specs.Seen.{terms_each}
use Rattle.expo.proofs.images.push_variables.Given as goal

abbrev pub invariant-loop-place : goal.invariant-loop-place
invariant-loop-place l = record {
  terms : terms_each l.images.items ++ drop l.place (variables ℚ l.arity)
      ≡ terms_each l.fn.images.items ++ drop l.from (variables ℚ l.arity);
  arities : All (λ p. p.arity ≡ l.arity) l.images.items;
}
