use Rattle.std.proofs.Common.{◌≡◌, ◌<◌, length, ap, ◌∙◌, arith}
use Rattle.loop_model.proofs.Variables.{made_stand, made_length, made_arity, made_over}
use Rattle.loop_model.proofs.ValueLaws.{stops_handed_on}
use Rattle.loop_model.proofs.StartLaws.{begun_none, begun_more, begun_all, begun_length, begun_stop, start_stands, start_free, start_stops, equation_var, equation_uses}
use Rattle.loop_model.proofs.loop_.Loop.start_map.Goals as goal
use Rattle.loop_model.proofs.loop_.Loop.start_map.Goals.{In_ok-free, In_ok-state}

free_count : (c : In_ok-free) → c.len.result ≡ length c.args.self.now.names
free_count c = c.len.ensures.len ∙ ap length c.names.ensures.names

state_count : (c : In_ok-state) → c.len-2.result ≡ length c.args.self.now.names
state_count c = c.len-2.ensures.len ∙ ap length c.names-2.ensures.names

pub loop-init-init : goal.loop-init-init
loop-init-init c = begun_none (length c.args.self.now.names) c.start-init-items.result.now
    c.in_ok-state.state.items
    (made_stand c.len-2.result (length c.args.self.now.names)
    (state_count (goal.at-loop-init-init c).In_ok-state) c.in_ok-state.state.items
    c.in_ok-state.ensures.variables)

pub expr_poly-requires-clause-state : goal.expr_poly-requires-clause-state
expr_poly-requires-clause-state c =
    made_over c.len.result (length c.args.self.now.names)
    (free_count (goal.at-expr_poly-requires-clause-state c).In_ok-free) c.in_ok-free.free.items
    c.in_ok-free.ensures.variables

pub expr_poly-requires-clause-uses : goal.expr_poly-requires-clause-uses
expr_poly-requires-clause-uses c =
    equation_uses c.args.self.now c.start-init-items.result.now c.start-init-items.ensures
    c.loop-init.init-index c.init-item.result c.loop-init-test.true c.init-item.is
    (length c.in_ok-free.free.items)
    (made_length c.len.result (length c.args.self.now.names)
    (free_count (goal.at-expr_poly-requires-clause-uses c).In_ok-free) c.in_ok-free.free.items
    c.in_ok-free.ensures.variables)

pub index_mut-requires : goal.index_mut-requires
index_mut-requires c =
    let var : c.init-item.result.var < length c.args.self.now.names =
    equation_var c.args.self.now c.start-init-items.result.now c.start-init-items.ensures
    c.loop-init.init-index c.init-item.result c.loop-init-test.true c.init-item.is in
    let count : length c.loop-init.state.items ≡ length c.args.self.now.names =
    begun_length (length c.args.self.now.names) _ c.loop-init.state.items
    c.loop-init.invariant in
    omega (arith, c.loop-init.state.ok.0)

pub loop-init-preserved : goal.loop-init-preserved
loop-init-preserved c =
    let free = (goal.at-loop-init-preserved c).In_ok-free in
    begun_more (length c.args.self.now.names) c.start-init-items.result.now c.loop-init.init-index
    c.init-item.result c.loop-init-test.true c.init-item.is c.in_ok-free.free.items
    (made_stand c.len.result (length c.args.self.now.names) (free_count free)
    c.in_ok-free.free.items c.in_ok-free.ensures.variables)
    _ (made_arity c.len.result (length c.args.self.now.names) (free_count free)
    c.in_ok-free.free.items c.in_ok-free.ensures.variables)
    c.loop-init.state.items c.in_ok-state-2.field-0 c.loop-init.invariant
    c.in_ok-state-2.ensures.value c.in_ok-state-2.ensures.free

pub returns-clause-maps : goal.returns-clause-maps
returns-clause-maps c = start_stands c.args.self.now c.start-init-items.result.now
    c.start-init-items.ensures c.loop-init.state.items
    (begun_all (length c.args.self.now.names) c.start-init-items.result.now c.loop-init.init-index
    c.loop-init.state.items c.loop-init-test.false c.loop-init.invariant)

pub returns-clause-free : goal.returns-clause-free
returns-clause-free c = start_free c.args.self.now c.start-init-items.result.now
    c.start-init-items.ensures c.loop-init.state.items
    (begun_all (length c.args.self.now.names) c.start-init-items.result.now c.loop-init.init-index
    c.loop-init.state.items c.loop-init-test.false c.loop-init.invariant)

pub returns-in_err-state-2-clause-stops : goal.returns-in_err-state-2-clause-stops
returns-in_err-state-2-clause-stops c =
    let free = (goal.at-returns-in_err-state-2-clause-stops c).In_ok-free in
    stops_handed_on _ _ c.in_err-state-2.field-0.0 c.from_residual-in_err-state-2.result
    c.from_residual-in_err-state-2.ensures.1
    (start_stops c.args.self.now c.start-init-items.result.now c.start-init-items.ensures
    c.in_err-state-2.field-0.0
    (begun_stop (length c.args.self.now.names) c.start-init-items.result.now c.loop-init.init-index
    c.init-item.result c.loop-init-test.true c.init-item.is c.in_ok-free.free.items
    (made_stand c.len.result (length c.args.self.now.names) (free_count free)
    c.in_ok-free.free.items c.in_ok-free.ensures.variables)
    _ (made_arity c.len.result (length c.args.self.now.names) (free_count free)
    c.in_ok-free.free.items c.in_ok-free.ensures.variables)
    c.loop-init.state.items c.in_err-state-2.field-0.0 c.loop-init.invariant
    c.in_err-state-2.ensures.stops))
