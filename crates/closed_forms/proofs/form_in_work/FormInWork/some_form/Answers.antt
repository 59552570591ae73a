use Rattle.std.proofs.Common.{◌≡◌, ◌<◌, ◌≤◌, ℕ, List, All, length, ap, sym, subst, ◌∙◌, arith}
use Rattle.std.proofs.lemmas.Result.{IfOk-weaker}
use Rattle.algebra.specs.Fraction.{Fraction}
use Rattle.frac128.specs.declared.fraction.Frac.{Frac}
use Rattle.solvable.proofs.Using.{FracPoly}
use Rattle.solvable_maps.specs.Iterations.{width}
use Rattle.poly.specs.Seen.{terms_in, terms_each}
use Rattle.poly.specs.declared.Term.{Term}
use Rattle.expo.specs.Powers.{number_of}
use Rattle.closed_forms.specs.FormInWork.{base_for, variables_for, numbers_for, value_for}
use Rattle.closed_forms.specs.Later.{IsLaterForm, IsPastLater, at_once, later, at_once_past, there_past, later_past}
use Rattle.closed_forms.specs.Solved.{IsSolvedForm, IsPastSolved}
use Rattle.closed_forms.specs.Inhomogeneities.{part}
use Rattle.closed_forms.specs.Sums.{IsPastMix}
use Rattle.closed_forms.specs.Values.{IsExpoOver}
use Rattle.closed_forms.proofs.Mixing.{tell, wide_on}
use Rattle.closed_forms.proofs.Settling.{inhomogeneity_arities, inhomogeneity_normal}
use Rattle.closed_forms.proofs.form_in_work.FormInWork.some_form.Goals as goal
use Rattle.closed_forms.proofs.form_in_work.FormInWork.some_form.Goals.{After-deref, In_ok-there}

abbrev Told : Type 0
Told = ℕ × Fraction × List (Term Frac)

-- how many variables there are, the value, and the terms of the inhomogeneity
module _ (c : After-deref) where
  terms_are : c.deref.result.now ≡ c.args.inhomogeneity.now.body.terms.items
  terms_are = c.deref.ensures.value ∙ ap (λ v. v.items) c.terms.ensures
      ∙ ap (λ p. p.terms.items) c.body.ensures

  count_is : c.len.result ≡ variables_for c.args.self.now
  count_is = c.len.ensures ∙ c.args.self.now.class.now.setting.earlier.ok.0

  told : ◌≡◌ {A = Told}
      (c.len.result, number_of (base_for c.args.self.now) c.in_ok-own.own, c.deref.result.now) (
        variables_for c.args.self.now,
        value_for c.args.self.now,
        c.args.inhomogeneity.now.body.terms.items,
      )
  told = λ i. (count_is i, c.in_ok-own.ensures.power.is i, terms_are i)

  over : IsExpoOver (base_for c.args.self.now) c.len.result c.args.inhomogeneity.now
  over = subst (λ m. IsExpoOver (base_for c.args.self.now) m c.args.inhomogeneity.now)
      (sym count_is) c.requires.over

  few : width (length (base_for c.args.self.now)) c.len.result ≤ 4096
  few = subst (λ m. width (length (base_for c.args.self.now)) m ≤ 4096) (sym count_is)
      c.args.self.now.ready.few

pub invariant_of-recurrence : goal.invariant_of-recurrence
invariant_of-recurrence c =
    let at = (goal.at.invariant_of-recurrence c).After-deref in
    record {
      coprime = c.args.self.now.ready.coprime;
      few = few at;
      nonzero = c.requires.nonzero;
      power = c.in_ok-own.ensures.power;
      small = c.in_ok-own.ensures.small;
      arities = inhomogeneity_arities (over at) (terms_are at);
      normal = inhomogeneity_normal (over at) (terms_are at);
    }

pub invariant_of-recurrence-2 : goal.invariant_of-recurrence-2
invariant_of-recurrence-2 c =
    let at = (goal.at.invariant_of-recurrence-2 c).After-deref in
    record {
      coprime = c.args.self.now.ready.coprime;
      few = few at;
      nonzero = c.requires.nonzero;
      power = c.in_ok-own.ensures.power;
      small = c.in_ok-own.ensures.small;
      arities = inhomogeneity_arities (over at) (terms_are at);
      normal = inhomogeneity_normal (over at) (terms_are at);
    }

pub solve-requires : goal.solve-requires
solve-requires c = subst (λ n. All (λ j. j < n) c.args.self.now.class.now.group.now)
    (sym (count_is (goal.at.solve-requires c).After-deref)) c.args.self.now.class.now.inside

pub returns-then-setting-eq0-clause-over : goal.returns-then-setting-eq0-clause-over
returns-then-setting-eq0-clause-over c = IfOk-weaker c.solve.result _ _
    (λ y. subst (λ m. IsExpoOver (base_for c.args.self.now) m y)
    (count_is (goal.at.returns-then-setting-eq0-clause-over c).After-deref)) c.solve.ensures.over

pub returns-then-setting-eq0-clause-form : goal.returns-then-setting-eq0-clause-form
returns-then-setting-eq0-clause-form c = IfOk-weaker c.solve.result _ _
    (λ y h. at_once c.requires.nonzero c.if-setting-eq0.true (subst (λ (t : Told).
    IsSolvedForm (base_for c.args.self.now) t.0 (numbers_for c.args.self.now)
    c.args.self.now.class.now.group.now t.1 (tell t.2) (terms_in y.body))
    (told (goal.at.returns-then-setting-eq0-clause-form c).After-deref) h)) c.solve.ensures.solved

pub returns-then-setting-eq0-clause-wide : goal.returns-then-setting-eq0-clause-wide
returns-then-setting-eq0-clause-wide c =
    λ w. at_once_past c.requires.nonzero c.if-setting-eq0.true (subst (λ (t : Told).
    IsPastSolved (base_for c.args.self.now) t.0 (numbers_for c.args.self.now)
    c.args.self.now.class.now.group.now t.1 (tell t.2))
    (told (goal.at.returns-then-setting-eq0-clause-wide c).After-deref) (c.solve.ensures.wide w))

pub weighted_sum-requires-clause-few : goal.weighted_sum-requires-clause-few
weighted_sum-requires-clause-few c =
    let n = few (goal.at.weighted_sum-requires-clause-few c).After-deref in omega (arith, n)

pub weighted_sum-requires-clause-arities : goal.weighted_sum-requires-clause-arities
weighted_sum-requires-clause-arities c =
    let at = (goal.at.weighted_sum-requires-clause-arities c).After-deref in
    subst (λ ps. All (λ (p : FracPoly). p.arity ≡ c.len.result) ps) (sym c.deref-2.ensures.value)
    (subst (λ n. All (λ (p : FracPoly). p.arity ≡ n) c.args.self.now.class.now.setting.ahead.items)
    (sym (count_is at)) c.args.self.now.ready.ahead)

pub returns-in_err-there-clause-wide : goal.returns-in_err-there-clause-wide
returns-in_err-there-clause-wide c =
    wide_on c.from_residual-in_err-there.ensures.1 (λ w. there_past c.requires.nonzero
    c.if-setting-eq0.false (subst (λ ps. IsPastMix (numbers_for c.args.self.now) (terms_each ps))
    c.deref-2.ensures.value (c.in_err-there.ensures.wide w)))

-- the form of what is ahead
module _ (c : In_ok-there) where
  there_is : terms_in c.in_ok-there.there ≡ part (numbers_for c.args.self.now)
      (terms_each c.args.self.now.class.now.setting.ahead.items)
  there_is = c.in_ok-there.ensures.terms ∙ ap (λ (ps : List FracPoly).
      part (numbers_for c.args.self.now) (terms_each ps)) c.deref-2.ensures.value

pub returns-clause-over : goal.returns-clause-over
returns-clause-over c = IfOk-weaker c.solve_later.result _ _
    (λ y. subst (λ m. IsExpoOver (base_for c.args.self.now) m y)
    (count_is (goal.at.returns-clause-over c).After-deref)) c.solve_later.ensures.over

pub returns-clause-form : goal.returns-clause-form
returns-clause-form c =
    let s = c.args.self.now.class.now.setting in
    IfOk-weaker c.solve_later.result _ _ (λ y h. later c.requires.nonzero
    (subst (λ p. IsLaterForm (base_for c.args.self.now) (variables_for c.args.self.now)
    (value_for c.args.self.now) s.iterations p (terms_in c.args.inhomogeneity.now.body)
    (terms_in y.body)) (there_is (goal.at.returns-clause-form c).In_ok-there)
    (subst (λ (t : Told). IsLaterForm (base_for c.args.self.now) t.0 (value_for c.args.self.now)
    s.iterations (terms_in c.in_ok-there.there) (tell t.2) (terms_in y.body))
    (told (goal.at.returns-clause-form c).After-deref) h))) c.solve_later.ensures.later

pub returns-clause-wide : goal.returns-clause-wide
returns-clause-wide c =
    let s = c.args.self.now.class.now.setting in
    λ w. later_past c.requires.nonzero c.if-setting-eq0.false
    (subst (λ p. IsPastLater (base_for c.args.self.now) (variables_for c.args.self.now)
    (value_for c.args.self.now) s.iterations p (terms_in c.args.inhomogeneity.now.body))
    (there_is (goal.at.returns-clause-wide c).In_ok-there)
    (subst (λ (t : Told). IsPastLater (base_for c.args.self.now) t.0 (value_for c.args.self.now)
    s.iterations (terms_in c.in_ok-there.there) (tell t.2))
    (told (goal.at.returns-clause-wide c).After-deref) (c.solve_later.ensures.wide w)))
