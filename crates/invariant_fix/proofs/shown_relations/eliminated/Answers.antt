use Rattle.std.proofs.Common.{inl, sym, ap, subst, ◌∙◌, arith}
use Rattle.complete.proofs.Made.{if_ok}
use Rattle.divide.specs.Outcomes.{outcome_of}
use Rattle.divide.proofs.Refused.{unmade}
use Rattle.poly.specs.Seen.{terms_each}
use Rattle.corollaries.specs.Journal.{elimination_from}
use Rattle.invariant_fix.specs.Ordering.{HaveHidden}
use Rattle.invariant_fix.proofs.Starting.{AreOrdered, few_ordered, some_ordered, first_ordered, arity_ordered, ran_so, over_ordered}
use Rattle.invariant_fix.proofs.shown_relations.eliminated.Goals.{After-deref}
use Rattle.invariant_fix.proofs.shown_relations.eliminated.Goals as goal

pub returns-in_err-gens-clause-ran : goal.returns-in_err-gens-clause-ran
returns-in_err-gens-clause-ran c =
    unmade (elimination_from c.args.shown.vars c.args.shown.shown.now (terms_each c.args.basis.now))
    _ _ c.from_residual.ensures.1 (λ w. inl (c.in_err-gens.ensures.wide w))

put : (c : After-deref)
    → AreOrdered c.args.shown.vars c.args.shown.shown.now c.args.basis.now c.deref.result.now
put c = record {
  list = ap terms_each c.deref.ensures.value ∙ c.in_ok-gens.ensures.starting;
  block = subst (HaveHidden c.args.shown.vars c.args.shown.shown.now)
      (sym c.deref.ensures.value) c.in_ok-gens.ensures.block;
  some = c.requires.elements;
}

pub eliminate-requires-clause-some : goal.eliminate-requires-clause-some
eliminate-requires-clause-some c =
    some_ordered (put (goal.at.eliminate-requires-clause-some c).After-deref)

pub eliminate-requires-clause-block : goal.eliminate-requires-clause-block
eliminate-requires-clause-block c =
    let u = put (goal.at.eliminate-requires-clause-block c).After-deref in
    let x = first_ordered u in
    let y = arity_ordered u in
    omega (arith, x, y)

pub eliminate-requires-clause-few : goal.eliminate-requires-clause-few
eliminate-requires-clause-few c =
    few_ordered (put (goal.at.eliminate-requires-clause-few c).After-deref) _ c.requires.limit

pub returns-clause-ran : goal.returns-clause-ran
returns-clause-ran c =
    ran_so (put (goal.at.returns-clause-ran c).After-deref) c.args.meter.now
    (outcome_of c.eliminate.result) c.eliminate.ensures.ran

pub returns-clause-arity : goal.returns-clause-arity
returns-clause-arity c =
    if_ok _ _ c.eliminate.result
    (λ hs e. over_ordered (put (goal.at.returns-clause-arity c).After-deref) hs.items e)
    c.eliminate.ensures.elimination
