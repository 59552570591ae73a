use Rattle.std.proofs.Common.{◌≡◌, inr, List, All, sym, ap, subst, ◌∙◌, arith}
use Rattle.std.proofs.lemmas.Result.{IfOk-weaker}
use Rattle.algebra.specs.Fraction.{fractions}
use Rattle.polynomials.specs.Weight.{IsPastComposition}
use Rattle.poly.specs.Seen.{terms_in, terms_each}
use Rattle.solvable.proofs.Using.{FracPoly}
use Rattle.closed_forms.specs.FormInWork.{variables_for, numbers_for}
use Rattle.closed_forms.specs.Inhomogeneities.{part}
use Rattle.closed_forms.proofs.Making.{arity_of_is, over_images, moved_is}
use Rattle.closed_forms.proofs.form_in_work.FormInWork.compose_rests.Goals as goal
use Rattle.closed_forms.proofs.form_in_work.FormInWork.compose_rests.Goals.{In_ok-part}

pub weighted_sum-requires-clause-few : goal.weighted_sum-requires-clause-few
weighted_sum-requires-clause-few c =
    let n : c.len.result ≡ variables_for c.args.self.now = c.len.ensures
    ∙ c.args.self.now.class.now.setting.earlier.ok.0 in
    let few = c.args.self.now.ready.few in
    omega (arith, few, n)

pub weighted_sum-requires-clause-arities : goal.weighted_sum-requires-clause-arities
weighted_sum-requires-clause-arities c =
    let n : c.len.result ≡ variables_for c.args.self.now = c.len.ensures
    ∙ c.args.self.now.class.now.setting.earlier.ok.0 in
    subst (λ ps. All (λ (p : FracPoly). p.arity ≡ c.len.result) ps) (sym c.deref.ensures.value)
    (subst (λ n. All (λ (p : FracPoly). p.arity ≡ n) c.args.self.now.class.now.setting.rests.items)
    (sym n)
    c.args.self.now.ready.rests)

-- the form of the rests
part_is : (c : In_ok-part) → terms_in c.in_ok-part.part ≡ part (numbers_for c.args.self.now)
    (terms_each c.args.self.now.class.now.setting.rests.items)
part_is c = c.in_ok-part.ensures.terms ∙ ap (λ (ps : List FracPoly).
    part (numbers_for c.args.self.now) (terms_each ps)) c.deref.ensures.value

pub compose-requires-clause-arities : goal.compose-requires-clause-arities
compose-requires-clause-arities c =
    over_images _ _ c.args.self.now.ready.some c.args.self.now.ready.earlier

pub returns-clause-arity : goal.returns-clause-arity
returns-clause-arity c = IfOk-weaker c.compose.result _ _ (λ p i. i.arity
    ∙ arity_of_is _ _ c.args.self.now.ready.some c.args.self.now.ready.earlier)
    c.compose.ensures.composition

pub returns-clause-terms : goal.returns-clause-terms
returns-clause-terms c = IfOk-weaker c.compose.result _ _ (λ p i.
    moved_is _ _ _ _ _ c.in_ok-part.part p c.args.self.now.ready.some
    c.args.self.now.ready.earlier (part_is (goal.at.returns-clause-terms c).In_ok-part) i.arity
    i.same) c.compose.ensures.composition

pub returns-clause-wide : goal.returns-clause-wide
returns-clause-wide c = λ w. inr (subst (λ p. IsPastComposition fractions p
    (terms_each c.args.self.now.class.now.setting.earlier.items))
    (part_is (goal.at.returns-clause-wide c).In_ok-part) (c.compose.ensures.wide w))
