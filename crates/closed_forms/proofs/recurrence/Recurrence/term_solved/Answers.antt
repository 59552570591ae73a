use Rattle.std.proofs.Common.{◌≡◌, ◌≤◌, ℕ, List, length, ap, sym, subst, ◌∙◌, arith}
use Rattle.std.proofs.lemmas.List.{length-map}
use Rattle.std.proofs.lemmas.Result.{IfOk-weaker}
use Rattle.algebra.specs.Fraction.{Fraction}
use Rattle.exponentials.specs.Keys.{key_of, IsNormalKey}
use Rattle.frac128.specs.FracMeaning.{fraction_of}
use Rattle.frac128.specs.declared.Whole.{Whole}
use Rattle.poly.specs.Seen.{terms_in}
use Rattle.poly.specs.View.{term_of}
use Rattle.coprime_base.specs.Sizes.{sizes}
use Rattle.solvable.proofs.Using.{FracPoly}
use Rattle.solvable_maps.specs.Iterations.{width}
use Rattle.expo.specs.Powers.{key_of_power}
use Rattle.closed_forms.specs.Recurrences.{base_by, value_by}
use Rattle.closed_forms.specs.Solved as Solved
use Rattle.closed_forms.specs.Solved.{steady, IsKeySolution}
use Rattle.closed_forms.specs.Values.{IsExpoOver}
use Rattle.expo.proofs.Stepping.{top_at}
use Rattle.closed_forms.proofs.Joining.{over_arity, tabled_over, key_solution, term_past, product_past}
use Rattle.closed_forms.proofs.Making.{product_is}
use Rattle.closed_forms.proofs.Mixing.{wide_on}
use Rattle.closed_forms.proofs.recurrence.Recurrence.term_solved.Goals as goal
use Rattle.closed_forms.proofs.recurrence.Recurrence.term_solved.Goals.{After-body}

pub power_of-requires-clause-normal : goal.power_of-requires-clause-normal
power_of-requires-clause-normal c =
    subst (λ (ws : List Whole).
    IsNormalKey (sizes ws) (key_of (length (sizes ws)) c.args.term.now.mono))
    (sym c.deref.ensures.value) c.requires.normal

pub power_of-requires-clause-width : goal.power_of-requires-clause-width
power_of-requires-clause-width c =
    subst (λ (ws : List Whole). width (length (sizes ws)) 0 ≤ length c.args.term.now.mono)
    (sym c.deref.ensures.value) (omega (arith, c.requires.arity))

pub steady-requires : goal.steady-requires
steady-requires c = record { width = omega (arith, c.requires.arity) }

pub returns-then-iterations-clause-wide : goal.returns-then-iterations-clause-wide
returns-then-iterations-clause-wide c = λ e.
    let top_is = c.exponent-iterations.ensures ∙ top_at c.args.term.now.mono in
    Solved.degree (omega (arith, top_is, c.if-iterations.true))

pub solve_term-requires-clause-inhomogeneity : goal.solve_term-requires-clause-inhomogeneity
solve_term-requires-clause-inhomogeneity c = c.in_ok-inhomogeneity.ensures.count
    ∙ ap (length {A = Whole}) c.deref.ensures.value

pub solve_term-requires-clause-own : goal.solve_term-requires-clause-own
solve_term-requires-clause-own c = c.args.self.now.power.count
    ∙ length-map c.args.self.now.base.now.items _

pub solve_term-requires-clause-arity : goal.solve_term-requires-clause-arity
solve_term-requires-clause-arity c = let n : length (base_by c.args.self.now)
    ≡ length c.args.self.now.base.now.items = length-map c.args.self.now.base.now.items _ in
    omega (arith, n, c.args.self.now.few)

pub returns-in_err-solution-clause-wide : goal.returns-in_err-solution-clause-wide
returns-in_err-solution-clause-wide c =
    let bs = base_by c.args.self.now in
    let t = term_of fraction_of c.args.term.now in
    let top_is = c.from.ensures ∙ c.exponent-iterations.ensures ∙ top_at t.0 in
    let key = subst (λ (ws : List Whole). key_of (length (sizes ws)) t.0 ≡ key_of_power
    c.in_ok-inhomogeneity.inhomogeneity) c.deref.ensures.value c.in_ok-inhomogeneity.ensures.key in
    wide_on c.from_residual-in_err-solution.ensures.1 (λ x. term_past bs c.args.self.now.vars t _
    top_is key (c.in_err-solution.ensures.wide x))

-- where the solution and what does not change are to be multiplied
module _ (c : After-body) where
  abbrev t : List ℕ × Fraction
  t = term_of fraction_of c.args.term.now

  over : IsExpoOver (base_by c.args.self.now) c.args.self.now.vars c.in_ok-solution.solution
  over = tabled_over c.args.self.now.vars _ c.in_ok-solution.ensures.table

  solution_arity : c.body.result.now.arity ≡ width (length (base_by c.args.self.now))
      c.args.self.now.vars
  solution_arity = ap (λ (p : FracPoly). p.arity) c.body.ensures
      ∙ over_arity over

  solution_is : IsKeySolution (base_by c.args.self.now) c.args.self.now.vars
      (value_by c.args.self.now) t (terms_in c.body.result.now)
  solution_is =
      let key = subst (λ (ws : List Whole). key_of (length (sizes ws)) t.0 ≡ key_of_power
      c.in_ok-inhomogeneity.inhomogeneity) c.deref.ensures.value
      c.in_ok-inhomogeneity.ensures.key in
      subst (λ (p : FracPoly). IsKeySolution (base_by c.args.self.now) c.args.self.now.vars
      (value_by c.args.self.now) t (terms_in p)) (sym c.body.ensures) (key_solution t
      c.in_ok-inhomogeneity.inhomogeneity c.args.self.now.own _
      (c.from.ensures ∙ c.exponent-iterations.ensures ∙ top_at t.0) key over
      c.in_ok-solution.ensures.solves)

  rest_is : terms_in c.in_ok-rest.rest ≡ steady (length (base_by c.args.self.now)) t
  rest_is = c.in_ok-rest.ensures.terms

pub mul-requires-clause-arity : goal.mul-requires-clause-arity
mul-requires-clause-arity c = solution_arity (goal.at.mul-requires-clause-arity c).After-body
    ∙ sym (c.in_ok-rest.ensures.arity ∙ c.requires.arity)

pub returns-clause-solved : goal.returns-clause-solved
returns-clause-solved c =
    let at = (goal.at.returns-clause-solved c).After-body in
    IfOk-weaker c.mul.result _ _ (λ p i. product_is (t at) c.body.result.now c.in_ok-rest.rest p
    (solution_arity at) (c.in_ok-rest.ensures.arity ∙ c.requires.arity) i.arity (solution_is at)
    (rest_is at) i.same) c.mul.ensures.product

pub returns-clause-wide : goal.returns-clause-wide
returns-clause-wide c =
    let at = (goal.at.returns-clause-wide c).After-body in
    λ w. product_past (t at) (solution_is at) (rest_is at) (c.mul.ensures.wide w)
