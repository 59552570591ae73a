use Rattle.std.proofs.Common.{◌≡◌, ◌⊎◌, ◌<◌, length, map, All, sym, ap, ◌∙◌, inl, inr, arith, subst}
use Rattle.poly.specs.Seen.{terms_each, arity_of}
use Rattle.loop_model.specs.ExpressionView.{expr_of}
use Rattle.poly.specs.Standing.{}
use Rattle.loop_model.specs.Operations.{operations_all}
use Rattle.loop_model.specs.Stops.{Stops}
use Rattle.loop_model.proofs.ValueLaws.{Valued, handed_on_all}
use Rattle.loop_model.proofs.StoreLaws.{storing_begins, storing_goes, storing_within, storing_ends}
use Rattle.loop_model.proofs.AfterLaws.{uses_of, after_stands}
use Rattle.loop_model.proofs.maps.after.Goals as goal
use Rattle.loop_model.proofs.maps.after.Goals.{After-into_iter-target-iterator}

targets_are : (c : After-into_iter-target-iterator) → c.into_iter-target-iterator.result.a.rest.now
    ≡ c.args.statement.now.targets.items
targets_are c =
    ap (λ z. z.a.rest.now) c.into_iter-target-iterator.ensures.into_iter_gives
    ∙ ap (λ z. z.rest.now) c.zip-target-items.ensures.first ∙ c.iter.ensures.rest
    ∙ c.deref-2.ensures.value

values_are : (c : After-into_iter-target-iterator) → c.into_iter-target-iterator.result.b.rest.items
    ≡ c.in_ok-values.values.items
values_are c = ap (λ z. z.b.rest.items) c.into_iter-target-iterator.ensures.into_iter_gives
    ∙ c.zip-target-items.ensures.second.0

pub values_at-requires-clause-state : goal.values_at-requires-clause-state
values_at-requires-clause-state c = c.requires.state

pub values_at-requires-clause-uses : goal.values_at-requires-clause-uses
values_at-requires-clause-uses c = uses_of c.args.state.items c.requires.state c.args.statement.now
    c.requires.statement c.deref.result.now c.deref.ensures.value

pub loop-target-init : goal.loop-target-init
loop-target-init c = storing_begins _ _ _ _
    (ap (λ z. z.b.rest.len) c.into_iter-target-iterator.ensures.into_iter_gives
    ∙ c.zip-target-items.ensures.second.1 ∙ c.in_ok-values.values.ok.0
    ∙ sym (ap length (values_are c)))
    (subst (All (λ i. i < length c.args.state.items)) (sym (targets_are c))
    c.requires.statement.targets)

pub index_mut-requires : goal.index_mut-requires
index_mut-requires c =
    let within : c.in-Some.target.now < length c.loop-target.state.items =
    storing_within _ _ _ c.loop-target.target-iterator.a.rest.now _ _ _
    c.loop-target.state.items c.in-Some.target.now c.loop-target.invariant
    c.in-Some.ensures.steps.0 in
    omega (arith, c.loop-target.state.ok.0)

pub loop-target-preserved : goal.loop-target-preserved
loop-target-preserved c = storing_goes _ _ _ c.loop-target.target-iterator.a.rest.now
    c.next.new.self.a.rest.now c.loop-target.target-iterator.b.rest.items
    c.next.new.self.b.rest.items
    c.loop-target.target-iterator.b.rest.len c.next.new.self.b.rest.len c.loop-target.state.items
    c.in-Some.target.now c.in-Some.value c.loop-target.invariant c.in-Some.ensures.steps.0
    c.in-Some.ensures.steps.1.0 c.in-Some.ensures.steps.1.1

pub returns : goal.returns
returns c =
    let before = (goal.at.returns c).After-into_iter-target-iterator in
    let rest : (length c.loop-target.target-iterator.a.rest.now ≡ 0)
    ⊎ (c.loop-target.target-iterator.b.rest.len ≡ 0) = elim c.in-None.ensures.steps [
      | inl h
          ↦ inl h.1.0
      | inr h ↦ inr h.1.0
    ] in
    after_stands c.args.state.items c.requires.state c.args.statement.now c.requires.statement _ _
    c.loop-target.state.items (targets_are before)
    (subst (Valued (arity_of c.args.state.items) (terms_each c.args.state.items)
    c.args.statement.now.values.items) (sym (values_are before))
    (subst (λ es. Valued (arity_of c.args.state.items) (terms_each c.args.state.items) es
    c.in_ok-values.values.items) c.deref.ensures.value c.in_ok-values.ensures))
    (storing_ends _ _ _ _ _ _ _ c.loop-target.invariant rest)

pub returns-in_err-values : goal.returns-in_err-values
returns-in_err-values c = handed_on_all _ _ _ c.in_err-values.field-0.0 c.from_residual.result
    c.from_residual.ensures.1
    (subst (λ es. Stops (arity_of c.args.state.items) (operations_all (arity_of c.args.state.items)
    (terms_each c.args.state.items) (map expr_of es)) c.in_err-values.field-0.0)
    c.deref.ensures.value c.in_err-values.ensures)
