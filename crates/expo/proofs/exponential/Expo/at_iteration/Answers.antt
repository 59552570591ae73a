use Rattle.std.proofs.Common.{◌≡◌, All, length, refl, ap, ap₂, sym, subst, ◌∙◌, arith, inr}
use Rattle.std.proofs.lemmas.List.{length-map}
use Rattle.algebra.specs.Fraction.{ℚ, fractions}
use Rattle.polynomials.specs.Terms.{Same, compose}
use Rattle.polynomials.specs.Weight.{IsPastComposition}
use Rattle.poly.specs.Seen.{terms_in, terms_each, arity_of}
use Rattle.poly.proofs.Standing.{first_arity}
use Rattle.coprime_base.specs.Sizes.{sizes}
use Rattle.expo.specs.Points.{iteration_images}
use Rattle.expo.specs.View.{base_of}
use Rattle.expo.proofs.AtIterations.{images_count, iteration_same, iteration_values}
use Rattle.expo.proofs.Outcomes.{ok_weaker}
use Rattle.expo.proofs.exponential.Expo.at_iteration.Goals as goal
use Rattle.expo.proofs.exponential.Expo.at_iteration.Goals.{In_ok-images}

images_are : (c : In_ok-images) → terms_each c.in_ok-images.images.items
    ≡ iteration_images (base_of c.args.self.now) c.args.self.now.vars c.args.iterations
images_are c =
    c.in_ok-images.ensures.images ∙ ap₂ (λ b m. iteration_images b m c.args.iterations)
    (ap sizes (c.deref.ensures.value ∙ ap (λ v. v.items) c.base.ensures)) c.vars.ensures

count_is : (c : In_ok-images) → length c.in_ok-images.images.items ≡ c.args.self.now.body.arity
count_is c =
    let e = c.args.self.now in
    sym (length-map c.in_ok-images.images.items terms_in) ∙ ap length (images_are c)
    ∙ images_count (base_of e) e.vars c.args.iterations ∙ sym e.arity

first_is : (c : In_ok-images) → arity_of c.in_ok-images.images.items ≡ c.vars.result
first_is c = first_arity _ c.in_ok-images.images.items c.in_ok-images.ensures.arities (let own =
    c.args.self.now.arity in omega (arith, count_is c, own))

pub compose-requires-clause-count : goal.compose-requires-clause-count
compose-requires-clause-count c = count_is (goal.at.compose-requires-clause-count c).In_ok-images
    ∙ sym (ap (λ p. p.arity) c.body.ensures)

pub compose-requires-clause-arities : goal.compose-requires-clause-arities
compose-requires-clause-arities c =
    subst (λ n. All (λ p. p.arity ≡ n) c.in_ok-images.images.items)
    (sym (first_is (goal.at.compose-requires-clause-arities c).In_ok-images))
    c.in_ok-images.ensures.arities

pub returns-clause-iteration : goal.returns-clause-iteration
returns-clause-iteration c =
    let at = (goal.at.returns-clause-iteration c).In_ok-images in
    let e = c.args.self.now in
    let first = first_is at ∙ c.vars.ensures in
    ok_weaker _ _ (λ p i. record {
      order = refl;
      arity = i.arity ∙ first;
      same = iteration_same (base_of e) e.coprime.0 e.vars c.args.iterations (terms_in e.body)
          (terms_in p) (subst (Same ℚ (terms_in p))
          (ap₂ (λ n l. compose ℚ n (terms_in c.body.result.now) l) first (images_are at)
          ∙ ap (λ x. compose ℚ e.vars (terms_in x) (iteration_images (base_of e) e.vars
          c.args.iterations))
          c.body.ensures) i.same);
    }) c.compose.result c.compose.ensures.composition

pub returns-clause-values : goal.returns-clause-values
returns-clause-values c =
    let e = c.args.self.now in
    ok_weaker _ _ (λ p is s l. iteration_values (base_of e) e.coprime.0 e.vars c.args.iterations
    (terms_in e.body) (terms_in p) is.same s l) c.compose.result (returns-clause-iteration c)

pub returns-clause-wide : goal.returns-clause-wide
returns-clause-wide c =
    λ w. inr (subst (λ l. IsPastComposition fractions (terms_in c.args.self.now.body) l)
    (images_are (goal.at.returns-clause-wide c).In_ok-images)
    (subst (λ x. IsPastComposition fractions x (terms_each c.in_ok-images.images.items))
    (ap terms_in c.body.ensures) (c.compose.ensures.wide w)))
