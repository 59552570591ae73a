use Rattle.std.proofs.Common.{◌<◌, ap, refl, rules, ◌∙◌}
use Rattle.std.proofs.lemmas.Result.{on_ok_weaker}
use Rattle.expo.specs.Powers.{key_of_power}
use Rattle.solvable_maps.specs.Expo.{with_key}
use Rattle.solvable_maps.proofs.Exponents.{unit_is}
use Rattle.closed_forms.proofs.Joining.{growing_next}
use Rattle.closed_forms.proofs.Mixing.{head_all, tail_all}
use Rattle.closed_forms.proofs.recurrence.Recurrence.+push_growing.Goals as goal

pub variable-requires-clause-index : goal.variable-requires-clause-index
variable-requires-clause-index t c =
    head_all (λ j. j < c.args.self.now.vars) c.in-Some-Some.ensures'.cases.0 c.requires

pub behind_power-requires : goal.behind_power-requires
behind_power-requires t c = c.in_ok-unit.ensures.arity

pub push_growing-requires : goal.push_growing-requires
push_growing-requires t c = (
  search rules,
  tail_all (λ j. j < c.args.self.now.vars) c.in-Some-Some.ensures'.cases.0 c.requires,
)

pub returns : goal.returns
returns t c = record {
  terms = on_ok_weaker c.push_growing.result (growing_next _ (key_of_power c.args.self.now.own) _ _
      c.in-Some-Some.ensures.cases.0 c.in-Some-Some.ensures'.cases.0 c.in_ok-push.ensures.items
      (c.in_ok-mono.ensures.ok ∙ ap (with_key 0 (key_of_power c.args.self.now.own)) (unit_is _ _ _
      (head_all (λ j. j < c.args.self.now.vars) c.in-Some-Some.ensures'.cases.0 c.requires)
      c.in_ok-unit.ensures.ok)) refl) c.push_growing.ensures.terms;
}
