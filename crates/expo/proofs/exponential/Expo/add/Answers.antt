use Rattle.std.proofs.Common.{◌≡◌, ◌++◌, length, ap, ap₂, sym, subst, ◌∙◌}
use Rattle.algebra.specs.Fraction.{ℚ}
use Rattle.polynomials.specs.Terms.{Same, value_at}
use Rattle.poly.specs.Seen.{terms_in}
use Rattle.coprime_base.specs.Sizes.{sizes}
use Rattle.solvable_maps.specs.Expo.{with_normal_keys}
use Rattle.solvable_maps.specs.Iterations.{point}
use Rattle.expo.specs.Operations.{sum_of}
use Rattle.expo.specs.View.{base_of, value_of}
use Rattle.expo.proofs.Calls.{sum_made}
use Rattle.expo.proofs.Results.{IsNormalList, made_expo}
use Rattle.expo.proofs.Values.{sum_values}
use Rattle.expo.proofs.exponential.Expo.add.Goals as goal
use Rattle.expo.proofs.exponential.Expo.add.Goals.{In_ok-body}

list_is : (c : In_ok-body) → IsNormalList (length (base_of c.args.self.now))
    (sum_of c.args.self.now c.args.other.now) (terms_in c.in_ok-body.body)
list_is c =
    let i = c.in_ok-body.ensures.sum in
    sum_made c.args.self.now c.args.other.now c.requires.base c.requires.vars
    (terms_in c.in_ok-body.body) c.in_ok-body.body.arity (i.arity
    ∙ ap (λ p. p.arity) c.body.ensures) c.in_ok-body.body.polynomial
    (subst (Same ℚ (terms_in c.in_ok-body.body)) (ap₂ ◌++◌ (ap terms_in c.body.ensures)
    (ap terms_in c.body-2.ensures)) i.same)

pub of-requires-clause-normal : goal.of-requires-clause-normal
of-requires-clause-normal c =
    let q = terms_in c.in_ok-body.body in
    subst (λ ws. with_normal_keys (length (sizes ws)) q ≡ q) (sym (c.deref.ensures.value
    ∙ ap (λ v. v.items) c.base.ensures))
    (list_is (goal.at.of-requires-clause-normal c).In_ok-body).normal

pub returns-clause-sum : goal.returns-clause-sum
returns-clause-sum c =
    made_expo _ _ _ _ (terms_in c.in_ok-body.body) (sum_of c.args.self.now c.args.other.now)
    (ap sizes (c.deref.ensures.value ∙ ap (λ v. v.items) c.base.ensures)) c.vars.ensures
    (list_is (goal.at.returns-clause-sum c).In_ok-body).is
    c.in_ok-of.field-0
    c.in_ok-of.ensures.base c.in_ok-of.ensures.vars c.in_ok-of.ensures.terms

pub returns-clause-values : goal.returns-clause-values
returns-clause-values c =
    let e = c.args.self.now in
    let f = c.args.other.now in
    λ n s l. sum_values (base_of e) e.coprime.0 e.vars c.in_ok-of.field-0 (terms_in e.body)
    (terms_in f.body) (returns-clause-sum c) n s l
    ∙ ap (λ b. ℚ.add (value_of e n s) (value_at ℚ (terms_in f.body) (point b n s))) c.requires.base
