use Rattle.std.proofs.Common.{inl, inr, length, refl, ap}
use Rattle.std.proofs.lemmas.Result.{IfOk-weaker}
use Rattle.algebra.specs.Fraction.{Fraction}
use Rattle.polynomials.specs.Polynomial.{Arity}
use Rattle.polynomials.specs.Terms.{Terms}
use Rattle.solvable_maps.specs.Iterations.{width}
use Rattle.closed_forms.specs.Later.{term_past, terms_past, normal_past}
use Rattle.closed_forms.specs.Recurrences.{base_by, value_by, inhomogeneity_in}
use Rattle.closed_forms.specs.Solved.{AreSolved}
use Rattle.closed_forms.proofs.Joining.{expo_over}
use Rattle.closed_forms.proofs.LaterForms.{solved_all, sum_is}
use Rattle.closed_forms.proofs.Mixing.{tell, all_arity, arity_all, wide_on}
use Rattle.closed_forms.proofs.Recurring.{solved-arity}
use Rattle.closed_forms.proofs.recurrence.Recurrence.solutions.Goals as goal
use Rattle.closed_forms.proofs.recurrence.Recurrence.solutions.Goals.{In_ok-push_solved}

pub returns-in_err-push_solved-clause-wide : goal.returns-in_err-push_solved-clause-wide
returns-in_err-push_solved-clause-wide c =
    wide_on c.from_residual.ensures.1 (λ x. term_past (c.in_err-push_solved.ensures.wide x))

-- all terms, and how many exponents they have
module _ (c : In_ok-push_solved) where
  abbrev all : Terms Fraction
  all = tell c.push_solved.new.out.items

  are : AreSolved (base_by c.args.self.now) c.args.self.now.vars (value_by c.args.self.now)
      (inhomogeneity_in c.args.self.now) all
  are =
      let r = c.args.self.now in
      solved_all (base_by r) r.vars (value_by r) all
      (ap tell c.new-terms.ensures.items) c.in_ok-push_solved.ensures.terms

  given : Arity (width (length (base_by c.args.self.now)) c.args.self.now.vars)
      (inhomogeneity_in c.args.self.now)
  given =
      let r = c.args.self.now in
      arity_all _ _ r.arities

pub normal_sum-requires : goal.normal_sum-requires
normal_sum-requires c =
    let at = (goal.at.normal_sum-requires c).In_ok-push_solved in
    let r = c.args.self.now in
    all_arity _ _ (solved-arity (base_by r) r.coprime.0 r.vars (value_by r) _
    (all at) (given at) (are at))

pub returns-clause-over : goal.returns-clause-over
returns-clause-over c =
    let r = c.args.self.now in
    IfOk-weaker c.normal_sum.result _ _ (expo_over _) c.normal_sum.ensures.normal

pub returns-clause-sum : goal.returns-clause-sum
returns-clause-sum c =
    let at = (goal.at.returns-clause-sum c).In_ok-push_solved in
    let r = c.args.self.now in
    IfOk-weaker c.normal_sum.result _ _ (λ y h. sum_is (base_by r) r.coprime.0 r.vars r.vars
    (value_by r) (all at) y (given at) (are at) refl h
    (expo_over _ y h)) c.normal_sum.ensures.normal

pub returns-clause-wide : goal.returns-clause-wide
returns-clause-wide c =
    let at = (goal.at.returns-clause-wide c).In_ok-push_solved in
    λ x. elim (c.normal_sum.ensures.wide x) [
      | inl p ↦ terms_past (all at) (are at) p
      | inr p ↦ normal_past (all at) (are at) p
    ]
