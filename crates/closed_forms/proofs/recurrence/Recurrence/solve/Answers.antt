use Rattle.std.proofs.Common.{inl, inr, length, refl, ap}
use Rattle.std.proofs.lemmas.Result.{IfOk-weaker}
use Rattle.polynomials.specs.Polynomial.{Arity}
use Rattle.polynomials.specs.Terms.{Terms}
use Rattle.algebra.specs.Fraction.{Fraction}
use Rattle.linear.specs.Rows.{fractions_of}
use Rattle.solvable_maps.specs.Iterations.{width}
use Rattle.closed_forms.specs.Recurrences.{base_by, value_by, inhomogeneity_in}
use Rattle.closed_forms.specs.Solved as Solved
use Rattle.closed_forms.specs.Solved.{IsWhole}
use Rattle.closed_forms.proofs.Joining.{expo_over, whole_is, form_is}
use Rattle.closed_forms.proofs.Mixing.{tell, all_arity, arity_all, wide_on}
use Rattle.closed_forms.proofs.Recurring.{whole-arity}
use Rattle.closed_forms.proofs.recurrence.Recurrence.solve.Goals as goal
use Rattle.closed_forms.proofs.recurrence.Recurrence.solve.Goals.{In_ok-push_solved}

pub returns-in_err-push_solved-clause-wide : goal.returns-in_err-push_solved-clause-wide
returns-in_err-push_solved-clause-wide c =
    wide_on c.from_residual-in_err-push_solved.ensures.1
    (λ x. Solved.term (c.in_err-push_solved.ensures.wide x))

-- all terms, and how many exponents they have
module _ (c : In_ok-push_solved) where
  abbrev all : Terms Fraction
  all = tell c.push_solved.new.out.items

  whole : IsWhole (base_by c.args.self.now) c.args.self.now.vars (fractions_of c.args.form.now)
      c.args.group.now (value_by c.args.self.now) (inhomogeneity_in c.args.self.now) all
  whole =
      let r = c.args.self.now in
      whole_is (base_by r) r.vars (fractions_of c.args.form.now) c.args.group.now r.own
      (inhomogeneity_in r) all r.power.count
      (ap tell c.new-terms.ensures.items) c.in_ok-push_growing.ensures.terms
      c.in_ok-push_solved.ensures.terms

  long : Arity (width (length (base_by c.args.self.now)) c.args.self.now.vars) all
  long =
      let r = c.args.self.now in
      whole-arity (base_by r) r.coprime.0 r.vars (value_by r) (arity_all _ _ r.arities) whole

pub normal_sum-requires : goal.normal_sum-requires
normal_sum-requires c =
    let at = (goal.at.normal_sum-requires c).In_ok-push_solved in
    let r = c.args.self.now in
    all_arity _ _ (long at)

pub returns-clause-over : goal.returns-clause-over
returns-clause-over c =
    let r = c.args.self.now in
    IfOk-weaker c.normal_sum.result _ _ (expo_over _) c.normal_sum.ensures.normal

pub returns-clause-solved : goal.returns-clause-solved
returns-clause-solved c =
    let at = (goal.at.returns-clause-solved c).In_ok-push_solved in
    let r = c.args.self.now in
    IfOk-weaker c.normal_sum.result _ _ (λ y h. form_is (base_by r) r.vars
    (fractions_of c.args.form.now) c.args.group.now r.own (inhomogeneity_in r) (all at) r.vars y
    (whole at) refl h) c.normal_sum.ensures.normal

pub returns-clause-wide : goal.returns-clause-wide
returns-clause-wide c =
    let at = (goal.at.returns-clause-wide c).In_ok-push_solved in
    λ x. elim (c.normal_sum.ensures.wide x) [
      | inl p ↦ Solved.sum (all at) (whole at) p
      | inr p ↦ Solved.normal (all at) (whole at) p
    ]
