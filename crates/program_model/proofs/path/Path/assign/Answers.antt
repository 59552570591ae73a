use Rattle.std.proofs.Common.{◌<◌, ◌++◌, ◌∷◌, [], map, length, sym, subst, IfOk, arith, All, refl}
use Rattle.std.proofs.lemmas.List.{length-map}
use Rattle.loops.specs.WellFormed.{IsStatement}
use Rattle.loop_model.specs.Parts.{statement_of}
use Rattle.program_model.specs.Program as program
use Rattle.program_model.specs.Code.{step_code}
use Rattle.program_model.specs.SyntaxView.{divisor_of, assignment_of}
use Rattle.program_model.specs.Events.{Makes, all_formed}
use Rattle.loop_model.specs.ExpressionView.{expr_of}
use Rattle.loop_model.specs.Operations.{operations_all}
use Rattle.program_model.specs.PathEvents.{places, behind, divisors_events}
use Rattle.program_model.specs.UnderWay.{IsUnderWay, IsReady}
use Rattle.program_model.proofs.Dividing.{dividing_none, dividing_more, dividing_stops, dividing_uses, divided_length, divided_makes}
use Rattle.program_model.proofs.path.Path.assign.Goals as goal

pub loop-divisor-init : goal.loop-divisor-init
loop-divisor-init c = dividing_none _ c.requires.ready

pub loop-divisor-preserved : goal.loop-divisor-preserved
loop-divisor-preserved c =
    dividing_more c.args.self c.loop-divisor.path c.deref-divisor-items.result.now
    c.loop-divisor.divisor-index c.divisor-item.result c.loop-divisor-test.true
    c.divisor-item.is c.loop-divisor.invariant c.in_ok-path.path c.in_ok-path.ensures.room
    c.in_ok-path.ensures.variables c.in_ok-path.ensures.count
    (λ n u cs es h. c.in_ok-path.ensures.makes n u cs es h)

pub divide-requires-clause-uses : goal.divide-requires-clause-uses
divide-requires-clause-uses c =
    dividing_uses c.args.self c.loop-divisor.path c.deref-divisor-items.result.now
    c.loop-divisor.divisor-index c.divisor-item.result c.loop-divisor-test.true
    c.divisor-item.is c.loop-divisor.invariant c.args.assignment.now
    (sym c.deref-divisor-items.ensures.value) c.requires.assignment

pub returns-in_err-path-clause-makes : goal.returns-in_err-path-clause-makes
returns-in_err-path-clause-makes c n u cs h =
    let a = c.args.assignment.now in
    let k = length (map divisor_of a.divisors.items) in
    let fs = all_formed (places n cs k) (operations_all (places n cs k) (behind n cs k k)
    (map expr_of a.statement.values.items)) in
    subst (λ ds. Makes (divisors_events n cs 0 (map divisor_of ds) ++ fs) (IsUnderWay n u
    (cs ++ step_code (program.assign (assignment_of a)) ∷ []) []) c.from_residual.result)
    c.deref-divisor-items.ensures.value
    (dividing_stops c.args.self c.loop-divisor.path c.deref-divisor-items.result.now
    c.loop-divisor.divisor-index c.divisor-item.result c.loop-divisor-test.true
    c.divisor-item.is c.loop-divisor.invariant fs _ c.in_err-path.field-0.0
    c.from_residual.result c.from_residual.ensures.1 n u cs h
    (λ g. c.in_err-path.ensures.makes n u cs _ g))

pub store-requires-clause-statement : goal.store-requires-clause-statement
store-requires-clause-statement c =
    let a = c.args.assignment.now in
    let k = divided_length c.args.self c.loop-divisor.path c.deref-divisor-items.result.now
    a.divisors.items c.loop-divisor.divisor-index c.loop-divisor-test.false
    c.deref-divisor-items.ensures.value c.loop-divisor.invariant in
    let e = length-map a.divisors.items divisor_of in
    let m = k.count in
    subst (λ j. IsStatement j (statement_of a.statement)) (omega (arith, e, m))
    c.requires.assignment.statement

pub store-requires-clause-targets : goal.store-requires-clause-targets
store-requires-clause-targets c =
    subst (λ n. All (λ i. i < n) c.args.assignment.now.statement.targets.items)
    (sym c.loop-divisor.invariant.variables) c.requires.assignment.targets

pub returns-clause-ready : goal.returns-clause-ready
returns-clause-ready c = subst (λ n. IfOk c.store.result (IsReady n))
    c.loop-divisor.invariant.variables c.store.ensures.ready

pub returns-clause-makes : goal.returns-clause-makes
returns-clause-makes c n u cs h =
    let a = c.args.assignment.now in
    divided_makes c.args.self c.loop-divisor.path a a.divisors.items refl
    (divided_length c.args.self c.loop-divisor.path c.deref-divisor-items.result.now
    a.divisors.items c.loop-divisor.divisor-index c.loop-divisor-test.false
    c.deref-divisor-items.ensures.value c.loop-divisor.invariant) n u cs h c.store.result
    (λ es g. c.store.ensures.makes n u cs es g)
