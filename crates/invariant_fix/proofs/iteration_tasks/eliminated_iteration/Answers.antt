use Rattle.std.proofs.Common.{◌≡◌, ◌+◌, ◌<◌, inl, inr, List, length, sym, ap, subst, ◌∙◌, arith}
use Rattle.std.proofs.lemmas.List.{length-map}
use Rattle.complete.proofs.Made.{if_ok}
use Rattle.poly.specs.Seen.{terms_in, terms_each}
use Rattle.divide.proofs.Refused.{unmade}
use Rattle.ideal_ops.specs.Calls.{elimination_of}
use Rattle.ideal_ops.specs.Eliminating.{HaveBlock}
use Rattle.loop_model.specs.FracPoly.{FracPoly}
use Rattle.task_lists.specs.Late as late
use Rattle.task_lists.specs.Late.{IsPastIterationOf, copies_in}
use Rattle.invariant_fix.specs.Orbits.{vars_of, turning, iteration_of, iteration_front_of, iteration_list_of}
use Rattle.invariant_fix.specs.Setting.{form_of}
use Rattle.invariant_fix.proofs.LateForms.{vars_are, iteration_front_is, iteration_list_is, iteration_past_is}
use Rattle.invariant_fix.proofs.Started.{ran_started}
use Rattle.invariant_fix.proofs.Eliminating.{AreStarting, gens_count, some_gens, block_first, block_arity, ran_of, over_of, reduced_of, iteration_list_length}
use Rattle.invariant_fix.proofs.iteration_tasks.eliminated_iteration.Goals.{After-deref-2}
use Rattle.invariant_fix.proofs.iteration_tasks.eliminated_iteration.Goals as goal

pub returns-in_err-gens-clause-ran : goal.returns-in_err-gens-clause-ran
returns-in_err-gens-clause-ran c =
    unmade (iteration_of c.args.branch.now c.args.before.now) _ _ c.from_residual.ensures.1 (λ w.
    inl (iteration_past_is c.requires.branch c.late_form.result c.late_form.ensures.base
    c.late_form.ensures.polys c.late_form.ensures.passing c.args.before.now
    (subst (λ (fs : List FracPoly). IsPastIterationOf c.late_form.result fs c.args.before.now)
    c.deref.ensures.value (c.in_err-gens.ensures.wide w))))

starting : (c : After-deref-2) → AreStarting (iteration_front_of c.args.branch.now)
    (vars_of c.args.branch.now) (iteration_list_of c.args.branch.now c.args.before.now)
    c.deref-2.result.now
starting c =
    let b = c.args.branch.now in
    let f = c.late_form.result in
    let e = c.late_form.ensures in
    let gs = c.args.before.now in
    let n = iteration_front_of b in
    let fits = c.requires.branch in
    record {
      list = ap terms_each c.deref-2.ensures.value ∙ c.in_ok-gens.ensures.list
          ∙ ap (λ (fs : List FracPoly). late.iteration_of f fs gs) c.deref.ensures.value
          ∙ iteration_list_is fits f e.base e.polys e.passing gs;
      block = subst (HaveBlock n (n + vars_of b)) (sym c.deref-2.ensures.value)
          (subst (λ k. HaveBlock k (k + vars_of b) c.in_ok-gens.gens.items)
          (iteration_front_is fits f e.base e.polys e.passing)
          (subst (λ m. HaveBlock (copies_in f) (copies_in f + m) c.in_ok-gens.gens.items)
          (vars_are fits f e.base e.polys e.passing) c.in_ok-gens.ensures.block));
    }

long : (c : After-deref-2) → length (iteration_list_of c.args.branch.now c.args.before.now)
    ≡ length (terms_each c.args.before.now) + vars_of c.args.branch.now
long c =
    let b = c.args.branch.now in
    iteration_list_length (form_of b.form) _ (terms_each c.args.before.now)
    (terms_each b.images.items) (length-map b.images.items _)

some : (c : After-deref-2) → 0 < length (iteration_list_of c.args.branch.now c.args.before.now)
some c = let a = long c in let b = c.requires.some in omega (arith, a, b)

pub eliminate-requires-clause-some : goal.eliminate-requires-clause-some
eliminate-requires-clause-some c =
    let at = (goal.at.eliminate-requires-clause-some c).After-deref-2 in
    let l = some_gens (starting at) (some at) in
    λ e. absurd (let n = ap length e in omega (arith, l, n))

pub eliminate-requires-clause-block : goal.eliminate-requires-clause-block
eliminate-requires-clause-block c =
    let at = (goal.at.eliminate-requires-clause-block c).After-deref-2 in
    let x = block_first (starting at) (some at) in
    let y = block_arity (starting at) (some at) in
    omega (arith, x, y)

pub eliminate-requires-clause-few : goal.eliminate-requires-clause-few
eliminate-requires-clause-few c =
    let at = (goal.at.eliminate-requires-clause-few c).After-deref-2 in
    let a = gens_count (starting at) in
    let b = long at in
    let d = c.requires.branch.few in
    let e = c.requires.few in
    let h = length-map c.args.before.now terms_in in
    omega (arith, a, b, d, e, h)

pub returns-clause-ran : goal.returns-clause-ran
returns-clause-ran c =
    let at = (goal.at.returns-clause-ran c).After-deref-2 in
    let b = c.args.branch.now in
    let gs = c.args.before.now in
    ran_started (elimination_of (turning b gs)) inr _
    (ran_of (starting at) (some at) _ c.eliminate.ensures.ran)

pub returns-clause-arity : goal.returns-clause-arity
returns-clause-arity c =
    let at = (goal.at.returns-clause-arity c).After-deref-2 in
    if_ok _ _ c.eliminate.result (λ hs e. over_of (starting at) (some at) e)
    c.eliminate.ensures.elimination

pub returns-clause-reduced : goal.returns-clause-reduced
returns-clause-reduced c =
    let at = (goal.at.returns-clause-reduced c).After-deref-2 in
    if_ok _ _ c.eliminate.result (λ hs e. reduced_of (starting at) (some at) e)
    c.eliminate.ensures.elimination
