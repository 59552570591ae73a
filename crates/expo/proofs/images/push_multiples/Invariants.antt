use Rattle.std.proofs.Common.{◌≡◌, ◌+◌, ◌++◌, drop}
use Rattle.std.specs.List.{All}
use Rattle.algebra.specs.Fraction.{ℚ}
use Rattle.polynomials.specs.Terms.{variables}
use Rattle.poly.specs.Seen.{terms_each}
use Rattle.coprime_base.specs.Sizes.{sizes}
use Rattle.expo.specs.Images.{multiples, factors_of}
use Rattle.expo.proofs.images.push_multiples.Given as goal

abbrev pub invariant-loop-place : goal.invariant-loop-place
invariant-loop-place l = record {
  terms : terms_each l.images.items ++ multiples l.arity
      (drop l.place (factors_of l.inverted (sizes l.base)))
      (drop (l.from + l.place) (variables ℚ l.arity))
      ≡ terms_each l.fn.images.items ++ multiples l.arity (factors_of l.inverted (sizes l.base))
      (drop l.from (variables ℚ l.arity));
  arities : All (λ p. p.arity ≡ l.arity) l.images.items;
}
