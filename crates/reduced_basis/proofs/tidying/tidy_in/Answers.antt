use Rattle.std.proofs.Common.{List, length, refl}
use Rattle.algebra.specs.Scalars.{field}
use Rattle.polynomials.specs.Terms.{Terms}
use Rattle.machines.specs.Machine.{Machine}
use Rattle.machines.specs.Machines as machines
use Rattle.machines.specs.Tidying.{next}
use Rattle.machines.proofs.Going.{going_here, going_on, going_off, ran_done}
use Rattle.machines.proofs.Measures.{tidying_holds}
use Rattle.machines.proofs.Working.{falls, turned_on}
use Rattle.divide.proofs.Refused.{unmade, step_refused}
use Rattle.poly.specs.Seen.{terms_each}
use Rattle.reduced_basis.specs.Tidying.{monic_each, elements_of, tidying_of}
use Rattle.reduced_basis.proofs.Along.{fits_along}
use Rattle.reduced_basis.proofs.Finished.{reduced_of}
use Rattle.reduced_basis.proofs.tidying.tidy_in.Given.{Over}
use Rattle.reduced_basis.proofs.tidying.tidy_in.Goals.{Start}
use Rattle.reduced_basis.proofs.tidying.tidy_in.Goals as goal

-- the tidying, in each order
abbrev tidies : (g : Over) (c : Start g) (o : g.row.O.Denot)
    → Machine (List (Terms g.K.Ring.scalars.Elem))
tidies g c o = machines.tidying g.K.Ring.scalars (g.O.Order.order o) (terms_each c.args.list.now)

pub returns-in_err-state-clause-ran : goal.returns-in_err-state-clause-ran
returns-in_err-state-clause-ran g c = unmade (tidying_of c.args.order c.args.list.now)
    c.from_residual.result _ c.from_residual.ensures.1 c.in_err-state.ensures.wide

pub loop-state-init : goal.loop-state-init
loop-state-init g c = (
  c.in_ok-state.ensures.fits,
  going_here _ c.args.meter.now _
      c.in_ok-state.ensures.ok,
)

pub loop-state-smaller : goal.loop-state-smaller
loop-state-smaller g c =
    let F = field g.K.Ring.scalars in
    let O = g.O.Order.order c.loop-state.state.order in
    let step = turned_on (next F O) (elements_of c.loop-state.state) (elements_of c.step.new.state)
    c.loop-state.meter c.step.new.meter c.in_ok-step.field-0 c.if-branch.true
    c.in_ok-step.ensures.ok in
    falls (next F O) (λ gs. length gs) (tidying_holds F O) (elements_of c.loop-state.state)
    (elements_of c.step.new.state) c.loop-state.meter c.step.new.meter step

pub loop-state-preserved : goal.loop-state-preserved
loop-state-preserved g c =
    let i = c.loop-state.invariant in (
      fits_along _ _ _ _ _ i.0.order i.0.arity c.in_ok-step.ensures.fits,
      going_on (tidies g (goal.at.loop-state-preserved g c).Start) i.0.order i.1
          c.if-branch.true c.in_ok-step.ensures.ok,
    )

pub returns-in_err-step-clause-ran : goal.returns-in_err-step-clause-ran
returns-in_err-step-clause-ran g c =
    let i = c.loop-state.invariant in
    step_refused (tidies g (goal.at.returns-in_err-step-clause-ran g c).Start) i.0.order i.1
    c.from_residual-in_err-step.result _ c.from_residual-in_err-step.ensures.1
    c.in_err-step.ensures.err c.in_err-step.ensures.wide c.in_err-step.ensures.budget

-- ---- where it has ended
pub returns-clause-ran : goal.returns-clause-ran
returns-clause-ran g c =
    let i = c.loop-state.invariant in
    let off = going_off (tidies g (goal.at.returns-clause-ran g c).Start) i.0.order i.1
    c.if-branch.false c.in_ok-step.ensures.ok in
    ran_done off.0 off.1 (record {
      list = refl;
      elements = (fits_along _ _ _ _ _ i.0.order i.0.arity c.in_ok-step.ensures.fits).elements;
    })

pub returns-clause-reduced : goal.returns-clause-reduced
returns-clause-reduced g c = λ hs ph b.
    let S = g.K.Ring.scalars in
    let O = g.O.Order.order c.args.order in
    let i = c.loop-state.invariant in
    let off = going_off (tidies g (goal.at.returns-clause-reduced g c).Start) i.0.order i.1
    c.if-branch.false c.in_ok-step.ensures.ok in
    reduced_of S g.met.K.Ring.ring g.met.K.Field.field g.met.K.Ring.zero_is O
    (g.met.O.Order.is_order c.args.order) c.args.arity hs (monic_each c.args.list.now)
    (elements_of c.step.new.state) _ _ ph b (record { work = off.0.work; ended = off.1 })
