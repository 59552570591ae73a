use Rattle.std.proofs.Common.{◌+◌, ◌<◌, rules, refl, arith}
use Rattle.std.proofs.lemmas.Bool.{ltb-true, lt-ltb}
use Rattle.poly.specs.Seen.{terms_in}
use Rattle.poly.proofs.Standing.{polynomial_over}
use Rattle.loop_model.specs.Operations.{most_degree}
use Rattle.loop_model.proofs.OperatorLaws.{high_product, low_product, left_zero, right_zero}
use Rattle.loop_model.proofs.forming.has_high_product.Goals as goal

pub returns-in-Some-Some : goal.returns-in-Some-Some
returns-in-Some-Some c =
    let left = c.args.left.now in
    let right = c.args.right.now in
    let over = polynomial_over left.arity right c.requires in (
      (λ e. let high : most_degree < c.from.result + c.from-in-Some-Some.result = ltb-true _ _ e in
          high_product left.arity (terms_in left) (terms_in right) left.polynomial over
          c.in-Some-Some.left c.in-Some-Some.right c.in-Some-Some.ensures.some
          c.in-Some-Some.ensures'.some (omega arith)),
      (λ h. let high : most_degree < c.in-Some-Some.left + c.in-Some-Some.right =
          low_product left.arity (terms_in left) (terms_in right) left.polynomial over
          c.in-Some-Some.left c.in-Some-Some.right c.in-Some-Some.ensures.some
          c.in-Some-Some.ensures'.some h in
          lt-ltb _ _ (omega arith)),
    )

pub returns-in_default : goal.returns-in_default
returns-in_default c =
    let left = c.args.left.now in
    let right = c.args.right.now in (
      (λ e. absurd (cc)),
      (λ h. absurd (right_zero left.arity (terms_in left) (terms_in right) left.polynomial
          (polynomial_over left.arity right c.requires) (c.in_default.ensures'.none.0 refl) h)),
    )

pub returns-in_default-2 : goal.returns-in_default-2
returns-in_default-2 c =
    let left = c.args.left.now in
    let right = c.args.right.now in (
      (λ e. absurd (cc)),
      (λ h. absurd (left_zero left.arity (terms_in left) (terms_in right) left.polynomial
          (polynomial_over left.arity right c.requires) (c.degree.ensures.none.0 (search rules))
          h)),
    )
