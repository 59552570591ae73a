use Rattle.std.proofs.Common.{ap, ap₂, subst, ◌∙◌}
use Rattle.algebra.specs.Fraction.{ℚ}
use Rattle.polynomials.specs.Terms.{Same, times, value_at}
use Rattle.poly.specs.Seen.{terms_in}
use Rattle.coprime_base.specs.Sizes.{sizes}
use Rattle.expo.specs.View.{base_of, value_of}
use Rattle.solvable_maps.specs.Iterations.{point}
use Rattle.expo.proofs.Outcomes.{ok_weaker}
use Rattle.expo.proofs.Values.{product_values}
use Rattle.expo.proofs.Results.{mul_is, expo_arity, other_arity, product_weight_past}
use Rattle.expo.proofs.exponential.Expo.mul.Goals as goal
use Rattle.expo.proofs.exponential.Expo.mul.Goals.{In_ok-product}

same : (c : In_ok-product) → Same ℚ (terms_in c.in_ok-product.product)
    (times ℚ (terms_in c.args.self.now.body) (terms_in c.args.other.now.body))
same c = subst (Same ℚ (terms_in c.in_ok-product.product))
    (ap₂ (times ℚ) (ap terms_in c.body.ensures) (ap terms_in c.body-2.ensures))
    c.in_ok-product.ensures.product.same

pub returns-clause-product : goal.returns-clause-product
returns-clause-product c =
    mul_is c.args.self.now c.args.other.now c.requires.base c.requires.vars _
    (ap (λ v. sizes v.items) c.base.ensures) c.in_ok-product.product.arity
    (terms_in c.in_ok-product.product)
    (c.in_ok-product.ensures.product.arity ∙ ap (λ p. p.arity) c.body.ensures)
    c.in_ok-product.product.polynomial (same (goal.at.returns-clause-product c).In_ok-product)
    c.normal.result c.normal.ensures.normal

pub returns-clause-values : goal.returns-clause-values
returns-clause-values c =
    let e = c.args.self.now in
    let f = c.args.other.now in
    ok_weaker _ _ (λ x is n s l. product_values (base_of e) e.coprime.0 e.vars x (terms_in e.body)
    (terms_in f.body) (expo_arity e) (other_arity e f c.requires.base c.requires.vars) is n s
    l
    ∙ ap (λ b. ℚ.mul (value_of e n s) (value_at ℚ (terms_in f.body) (point b n s))) c.requires.base)
    c.normal.result (returns-clause-product c)

pub returns-clause-wide : goal.returns-clause-wide
returns-clause-wide c =
    let at = (goal.at.returns-clause-wide c).In_ok-product in
    λ w. product_weight_past c.in_ok-product.product.arity (terms_in c.args.self.now.body)
    (terms_in c.args.other.now.body) (terms_in c.in_ok-product.product)
    c.in_ok-product.product.polynomial (same at) (c.normal.ensures.wide w)
