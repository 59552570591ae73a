use Rattle.std.proofs.Common.{◌≡◌, [], ◌∷◌, replicate}
use Rattle.std.specs.List.{All}
use Rattle.algebra.specs.Fraction.{ℚ}
use Rattle.polynomials.specs.Terms.{constant}
use Rattle.poly.specs.Seen.{terms_each}
use Rattle.expo.proofs.images.images_at_zero.Given as goal

abbrev pub invariant-loop : goal.invariant-loop
invariant-loop l = record {
  terms : terms_each l.images.items ≡ [] ∷ replicate l.counter (constant l.vars ℚ.one);
  arities : All (λ p. p.arity ≡ l.vars) l.images.items;
}
