use Rattle.std.proofs.Common.{◌+◌, ◌<◌, ◌≤◌, suc, inl, inr, length, sym, ap, subst, ◌∙◌, arith}
use Rattle.std.proofs.lemmas.List.{length-map}
use Rattle.complete.proofs.Made.{if_ok}
use Rattle.poly.specs.Seen.{terms_in, terms_each}
use Rattle.divide.proofs.Refused.{unmade}
use Rattle.ideal_ops.specs.Calls.{elimination_of}
use Rattle.ideal_ops.specs.Eliminating.{HaveBlock}
use Rattle.invariant_fix.specs.Orbits.{vars_of, pulling_back, orbit_of, orbit_front_of, orbit_list_of}
use Rattle.invariant_fix.specs.Setting.{form_of}
use Rattle.invariant_fix.proofs.Started.{ran_started}
use Rattle.invariant_fix.proofs.Eliminating.{AreStarting, gens_count, block_first, block_arity, ran_of, over_of, reduced_of, orbit_list_few}
use Rattle.invariant_fix.proofs.orbits.eliminated_orbit.Goals.{After-deref}
use Rattle.invariant_fix.proofs.orbits.eliminated_orbit.Goals as goal

pub returns-in_err-gens-clause-ran : goal.returns-in_err-gens-clause-ran
returns-in_err-gens-clause-ran c =
    unmade (orbit_of c.args.branch.now c.args.basis.now) _ _ c.from_residual.ensures.1
    (λ w. inl (c.in_err-gens.ensures.wide w))

starting : (c : After-deref) → AreStarting (orbit_front_of c.args.branch.now)
    (vars_of c.args.branch.now) (orbit_list_of c.args.branch.now c.args.basis.now)
    c.deref.result.now
starting c =
    let n = orbit_front_of c.args.branch.now in
    record {
      list = ap terms_each c.deref.ensures.value ∙ c.in_ok-gens.ensures.list;
      block = subst (HaveBlock n (n + vars_of c.args.branch.now)) (sym c.deref.ensures.value)
          c.in_ok-gens.ensures.block;
    }

abbrev Length : After-deref → Type 0
Length c =
    let n = length (orbit_list_of c.args.branch.now c.args.basis.now) in
    let b = c.args.branch.now in
    (0 < n) × (n ≤ length (terms_each c.args.basis.now) + vars_of b
    + suc (length (form_of b.form).base))

long : (c : After-deref) → Length c
long c =
    let b = c.args.branch.now in
    orbit_list_few (form_of b.form) _ (terms_each c.args.basis.now)
    (length-map b.form.polys.items _ ∙ c.requires.branch.form_count)

pub eliminate-requires-clause-block : goal.eliminate-requires-clause-block
eliminate-requires-clause-block c =
    let at = (goal.at.eliminate-requires-clause-block c).After-deref in
    let x = block_first (starting at) (long at).0 in
    let y = block_arity (starting at) (long at).0 in
    omega (arith, x, y)

pub eliminate-requires-clause-few : goal.eliminate-requires-clause-few
eliminate-requires-clause-few c =
    let at = (goal.at.eliminate-requires-clause-few c).After-deref in
    let a = gens_count (starting at) in
    let b = (long at).1 in
    let d = c.requires.branch.few in
    let e = c.requires.few in
    let h = length-map c.args.basis.now terms_in in
    omega (arith, a, b, d, e, h)

pub returns-clause-ran : goal.returns-clause-ran
returns-clause-ran c =
    let at = (goal.at.returns-clause-ran c).After-deref in
    let b = c.args.branch.now in
    let gs = c.args.basis.now in
    ran_started (elimination_of (pulling_back b gs)) inr _
    (ran_of (starting at) (long at).0 _ c.eliminate.ensures.ran)

pub returns-clause-arity : goal.returns-clause-arity
returns-clause-arity c =
    let at = (goal.at.returns-clause-arity c).After-deref in
    if_ok _ _ c.eliminate.result (λ hs e. over_of (starting at) (long at).0 e)
    c.eliminate.ensures.elimination

pub returns-clause-reduced : goal.returns-clause-reduced
returns-clause-reduced c =
    let at = (goal.at.returns-clause-reduced c).After-deref in
    if_ok _ _ c.eliminate.result (λ hs e. reduced_of (starting at) (long at).0 e)
    c.eliminate.ensures.elimination
