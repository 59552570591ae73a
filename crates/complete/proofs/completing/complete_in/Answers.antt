use Rattle.std.proofs.Common.{◌≤◌, ◌^◌, refl, sym, ap, get_or, subst, arith}
use Rattle.std.proofs.lemmas.List.{length-map}
use Rattle.algebra.specs.FieldArithmetic.{field_of}
use Rattle.algebra.specs.Scalars.{field}
use Rattle.algebra.proofs.ScalarFields.{is_field}
use Rattle.polynomials.specs.Polynomial.{IsPolynomial}
use Rattle.machines.specs.Completion as completion
use Rattle.machines.specs.Journal.{Journal, units_of}
use Rattle.machines.specs.Machine.{Machine}
use Rattle.machines.specs.Machines as machines
use Rattle.machines.proofs.Completed.{completed}
use Rattle.machines.proofs.Going.{going_here, going_on, going_off, ran_done}
use Rattle.machines.proofs.Measures.{open_, completion_holds}
use Rattle.machines.proofs.Starting.{basis_bounded}
use Rattle.machines.proofs.Working.{falls, turned_on, turned_off}
use Rattle.poly.specs.Seen.{terms_in, terms_each}
use Rattle.divide.proofs.Ended.{places_of}
use Rattle.divide.proofs.OneCut.{along}
use Rattle.divide.proofs.Refused.{unmade, step_refused}
use Rattle.complete.specs.Completing.{state_of, completion_of}
use Rattle.machines.proofs.Units.{units_within}
use Rattle.complete.proofs.Like.{fits_along}
use Rattle.complete.proofs.completing.complete_in.Given.{Over}
use Rattle.complete.proofs.completing.complete_in.Goals.{Start}
use Rattle.complete.proofs.completing.complete_in.Goals as goal

-- the completion, in each order
abbrev completes : (g : Over) (c : Start g) (o : g.row.O.Denot)
    → Machine (completion.State g.K.Ring.scalars.Elem)
completes g c o = machines.completion g.K.Ring.scalars (g.O.Order.order o)
    (terms_each c.args.gens.now)

pub returns-in_err-state-clause-ran : goal.returns-in_err-state-clause-ran
returns-in_err-state-clause-ran g c = unmade (completion_of c.args.order c.args.gens.now)
    c.from_residual.result _ c.from_residual.ensures.1 c.in_err-state.ensures.wide

pub loop-state-init : goal.loop-state-init
loop-state-init g c = (
  c.in_ok-state.ensures.fits,
  c.within_limit.ensures.within,
  c.within_limit.ensures.few,
  going_here _ c.args.meter.now _ c.in_ok-state.ensures.ok,
  c.in_ok-state.ensures.told,
)

pub step-requires-clause-few : goal.step-requires-clause-few
step-requires-clause-few g c =
    let i = c.loop-state.invariant in
    let bound = basis_bounded (field g.K.Ring.scalars) (g.O.Order.order c.args.order)
    (terms_each c.args.gens.now) (state_of c.loop-state.state) i.3.work.events i.3.work.run in
    let done = units_within c.args.meter.now.entries c.loop-state.meter.entries i.3.work.events
    i.3.work.entries in
    let all = length-map c.args.gens.now terms_in in
    let size = length-map c.loop-state.state.basis.items terms_in in
    let few = c.requires.few in
    let within = i.1 in
    let limit = i.2 in
    omega (arith, bound, done, all, size, few, within, limit)

pub loop-state-smaller : goal.loop-state-smaller
loop-state-smaller g c =
    let F = field g.K.Ring.scalars in
    let O = g.O.Order.order c.loop-state.state.order in
    let step = turned_on (completion.next F O) (state_of c.loop-state.state)
    (state_of c.step.new.state) c.loop-state.meter c.step.new.meter c.in_ok-step.field-0
    c.if-branch.true c.in_ok-step.ensures.ok in
    falls (completion.next F O) (λ s. open_ F O s.current) (completion_holds F O)
    (state_of c.loop-state.state) (state_of c.step.new.state) c.loop-state.meter
    c.step.new.meter step

pub loop-state-preserved : goal.loop-state-preserved
loop-state-preserved g c =
    let i = c.loop-state.invariant in
    let O = g.O.Order.order c.loop-state.state.order in
    let step = turned_on (completion.next (field g.K.Ring.scalars) O) (state_of c.loop-state.state)
    (state_of c.step.new.state) c.loop-state.meter c.step.new.meter c.in_ok-step.field-0
    c.if-branch.true c.in_ok-step.ensures.ok in (
      fits_along _ _ _ _ _ i.0.order i.0.arity c.in_ok-step.ensures.fits,
      step.within,
      subst (λ n. n ≤ 2 ^ 28) (sym step.limit) i.2,
      going_on (completes g (goal.at.loop-state-preserved g c).Start) i.0.order i.3 c.if-branch.true
          c.in_ok-step.ensures.ok,
      c.in_ok-step.ensures.told c.if-branch.true,
    )

pub returns-in_err-step-clause-ran : goal.returns-in_err-step-clause-ran
returns-in_err-step-clause-ran g c =
    let i = c.loop-state.invariant in
    step_refused (completes g (goal.at.returns-in_err-step-clause-ran g c).Start) i.0.order i.3
    c.from_residual-in_err-step.result _ c.from_residual-in_err-step.ensures.1
    c.in_err-step.ensures.err c.in_err-step.ensures.wide c.in_err-step.ensures.budget

pub returns-clause-ran : goal.returns-clause-ran
returns-clause-ran g c =
    let i = c.loop-state.invariant in
    let off = going_off (completes g (goal.at.returns-clause-ran g c).Start) i.0.order i.3
    c.if-branch.false c.in_ok-step.ensures.ok in
    ran_done off.0 off.1 (record {
      basis = refl;
      elements = (fits_along _ _ _ _ _ i.0.order i.0.arity c.in_ok-step.ensures.fits).elements;
    })

pub returns-clause-basis : goal.returns-clause-basis
returns-clause-basis g c =
    let S = g.K.Ring.scalars in
    let F = field S in
    let O = g.O.Order.order c.args.order in
    let i = c.loop-state.invariant in
    let off = going_off (completes g (goal.at.returns-clause-basis g c).Start) i.0.order i.3
    c.if-branch.false c.in_ok-step.ensures.ok in
    let gens = places_of terms_in (IsPolynomial S.arithmetic O c.args.arity) c.args.gens.now
    (λ k d l. let one = c.requires.like k d l in along S g.O.Order.order _ _ _ _ _ one.0 one.1
    (get_or c.args.gens.now k d).polynomial) in
    completed (field_of F (is_field S g.met.K.Ring.ring g.met.K.Field.field g.met.K.Ring.zero_is)) O
    (g.met.O.Order.is_order c.args.order) c.args.arity (terms_each c.args.gens.now) gens
    (state_of c.step.new.state) off.0.work.events off.0.work.run off.1

pub returns-clause-few : goal.returns-clause-few
returns-clause-few g c =
    let i = c.loop-state.invariant in
    let off = going_off (completes g (goal.at.returns-clause-few g c).Start) i.0.order i.3
    c.if-branch.false c.in_ok-step.ensures.ok in
    let bound = basis_bounded (field g.K.Ring.scalars) (g.O.Order.order c.args.order)
    (terms_each c.args.gens.now) (state_of c.step.new.state) off.0.work.events off.0.work.run in
    let done = units_within c.args.meter.now.entries c.step.new.meter.entries off.0.work.events
    off.0.work.entries in
    let all = length-map c.args.gens.now terms_in in
    let size = length-map c.step.new.state.basis.items terms_in in
    let few = c.requires.few in
    let within = i.1 in
    let limit = i.2 in
    let same =
    (turned_off (completion.next (field g.K.Ring.scalars)
    (g.O.Order.order c.loop-state.state.order)) (state_of c.loop-state.state)
    (state_of c.step.new.state) c.loop-state.meter c.step.new.meter c.in_ok-step.field-0
    c.if-branch.false c.in_ok-step.ensures.ok).2 in
    let units = ap (λ (j : Journal). units_of j.entries) same in
    omega (arith, bound, done, all, size, few, within, limit, units)
