use Rattle.std.proofs.Common.{List, map, ◌≡◌, ◌≢◌, [], ◌++◌, false, sym, ap₂, get_or, subst, ◌∙◌}
use Rattle.algebra.specs.Scalars.{field}
use Rattle.polynomials.specs.Polynomial.{IsPolynomial}
use Rattle.polynomials.specs.Terms.{Terms, Same, combination}
use Rattle.machines.specs.Basis.{AtPlaces}
use Rattle.machines.specs.Cut.{lead_of, divides}
use Rattle.machines.specs.Division as division
use Rattle.machines.specs.Machine.{Machine}
use Rattle.machines.specs.Machines as machines
use Rattle.machines.proofs.Going.{Going, going_here, going_on, going_off, ran_done}
use Rattle.machines.proofs.Measures.{open_, division_holds}
use Rattle.machines.proofs.Working.{falls, turned_on}
use Rattle.machines.specs.Run.{HasEnded}
use Rattle.poly.specs.Seen.{terms_in, terms_each}
use Rattle.poly.specs.View.{terms_of}
use Rattle.divide.specs.Current.{left_of, IsCurrent}
use Rattle.divide.specs.Division.{state_of, division_of}
use Rattle.machines.proofs.Dividing.{division_undivided}
use Rattle.divide.proofs.Ended.{places_of, all_of, rest_is, sum_of, descending_of}
use Rattle.divide.proofs.Like.{divisors_along, fits_along, starts}
use Rattle.divide.proofs.OneCut.{along}
use Rattle.divide.proofs.Refused.{out_of_memory, out_of_room, step_refused}
use Rattle.divide.proofs.dividing.divide.Given.{Over}
use Rattle.divide.proofs.dividing.divide.Goals.{Start, In_ok-remainder}
use Rattle.divide.proofs.dividing.divide.Goals as goal

-- the division, of an element of each order
abbrev dividing : (g : Over) (c : Start g) (o : g.row.O.Denot)
    → Machine (division.State g.K.Ring.scalars.Elem)
dividing g c o = machines.division g.K.Ring.scalars (g.O.Order.order o) (terms_each c.args.list.now)
    (terms_in c.args.p.now)

pub returns-in_err-leads-clause-ran : goal.returns-in_err-leads-clause-ran
returns-in_err-leads-clause-ran g c = out_of_memory (division_of c.args.p.now c.args.list.now)
    c.from_residual.result c.from_residual.ensures.1

pub returns-in_err-state-clause-ran : goal.returns-in_err-state-clause-ran
returns-in_err-state-clause-ran g c = out_of_memory (division_of c.args.p.now c.args.list.now)
    c.from_residual-in_err-state.result c.from_residual-in_err-state.ensures.1

pub loop-state-init : goal.loop-state-init
loop-state-init g c = (
  c.in_ok-state.ensures.fits,
  going_here _ c.args.meter.now _
      (starts c.args.list.now c.args.p.now c.in_ok-state.state c.in_ok-state.ensures.ok),
  c.in_ok-state.ensures.current c.in_ok-leads.leads.items,
)

pub step-requires-clause-divisors : goal.step-requires-clause-divisors
step-requires-clause-divisors g c = let f = c.loop-state.invariant.0 in
    divisors_along _ _ _ _ c.args.list.now (sym f.order) (sym f.arity) c.requires.divisors

pub step-requires-clause-fits : goal.step-requires-clause-fits
step-requires-clause-fits g c = let f = c.loop-state.invariant.0 in
    fits_along _ _ _ _ _ _ (sym f.order) (sym f.arity) f

pub loop-state-smaller : goal.loop-state-smaller
loop-state-smaller g c =
    let F = field g.K.Ring.scalars in
    let O = g.O.Order.order c.loop-state.state.current.rest.order in
    let gs = terms_each c.args.list.now in
    let step = turned_on (division.next F O gs) (state_of c.loop-state.state)
    (state_of c.step.new.state) c.loop-state.meter c.step.new.meter c.in_ok-step.field-0
    c.if-branch.true c.in_ok-step.ensures.ok in
    falls (division.next F O gs) (λ s. open_ F O s.current) (division_holds F O gs)
    (state_of c.loop-state.state) (state_of c.step.new.state) c.loop-state.meter
    c.step.new.meter step

pub loop-state-preserved : goal.loop-state-preserved
loop-state-preserved g c =
    let i = c.loop-state.invariant in (
      fits_along _ _ _ _ _ _ i.0.order i.0.arity c.in_ok-step.ensures.fits,
      going_on (dividing g (goal.at.loop-state-preserved g c).Start) i.0.order i.1
          c.if-branch.true c.in_ok-step.ensures.ok,
      subst (λ l. IsCurrent l c.step.new.state.current) c.deref.ensures.value
          c.in_ok-step.ensures.current,
    )

pub returns-in_err-step-clause-ran : goal.returns-in_err-step-clause-ran
returns-in_err-step-clause-ran g c =
    let i = c.loop-state.invariant in
    step_refused (dividing g (goal.at.returns-in_err-step-clause-ran g c).Start) i.0.order i.1
    c.from_residual-in_err-step.result _ c.from_residual-in_err-step.ensures.1
    c.in_err-step.ensures.err c.in_err-step.ensures.wide c.in_err-step.ensures.budget

-- ---- where it has ended
elements : (g : Over) (c : Start g)
    → AtPlaces (λ q. IsPolynomial g.K.Ring.scalars.arithmetic (g.O.Order.order c.args.p.now.order)
    c.args.p.now.arity q × (q ≢ [])) (terms_each c.args.list.now)
elements g c =
    let S = g.K.Ring.scalars in
    places_of terms_in (λ q. IsPolynomial S.arithmetic (g.O.Order.order c.args.p.now.order)
    c.args.p.now.arity q × (q ≢ [])) c.args.list.now
    (λ k d l. let one = c.requires.divisors k d l in (
      along S g.O.Order.order _ _ _ _ _ one.0 one.1 (get_or c.args.list.now k d).polynomial,
      one.2,
    ))

pub polynomials_of-requires-clause-descending : goal.polynomials_of-requires-clause-descending
polynomials_of-requires-clause-descending g c =
    let start = (goal.at.polynomials_of-requires-clause-descending g c).Start in
    let S = g.K.Ring.scalars in
    let p = c.args.p.now in
    let O = g.O.Order.order p.order in
    let off = going_off (dividing g start) c.loop-state.invariant.0.order c.loop-state.invariant.1
    c.if-branch.false c.in_ok-step.ensures.ok in
    let descending = all_of (λ v. terms_of g.K.Ring.meaning v.items)
    (IsPolynomial S.arithmetic O p.arity) c.step.new.state.cofactors.items
    (descending_of S g.met.K.Ring.ring g.met.K.Field.field g.met.K.Ring.zero_is O
    (g.met.O.Order.is_order p.order) p.arity (terms_each c.args.list.now) (terms_in p)
    (state_of c.step.new.state) _ _ (elements g start) p.polynomial
    (record { work = off.0.work; ended = off.1 })) in
    λ k d l. along S g.O.Order.order _ _ _ _ _ (sym c.order-order.ensures)
    (sym c.arity-arity.ensures.arity) (descending k d l)

pub returns-in_err-cofactors-clause-ran : goal.returns-in_err-cofactors-clause-ran
returns-in_err-cofactors-clause-ran g c =
    let i = c.loop-state.invariant in
    let off = going_off (dividing g (goal.at.returns-in_err-cofactors-clause-ran g c).Start)
    i.0.order i.1 c.if-branch.false c.in_ok-step.ensures.ok in
    out_of_room off.0 c.from_residual-in_err-cofactors.result
    c.from_residual-in_err-cofactors.ensures.1

pub into_poly-requires : goal.into_poly-requires
into_poly-requires g c = record { descending = c.in_ok-step.ensures.current.descending }

pub returns-in_err-remainder-clause-ran : goal.returns-in_err-remainder-clause-ran
returns-in_err-remainder-clause-ran g c =
    let i = c.loop-state.invariant in
    let off = going_off (dividing g (goal.at.returns-in_err-remainder-clause-ran g c).Start)
    i.0.order
    i.1 c.if-branch.false c.in_ok-step.ensures.ok in
    out_of_room off.0 c.from_residual-in_err-remainder.result
    c.from_residual-in_err-remainder.ensures.1

-- ---- what it gives
over : (g : Over) (c : In_ok-remainder g) → Going (division_of c.args.p.now c.args.list.now)
    c.args.meter.now c.step.new.meter (state_of c.step.new.state)
    × HasEnded (division_of c.args.p.now c.args.list.now).next (state_of c.step.new.state)
over g c = going_off (dividing g (goal.at.In_ok-remainder g c).Start) c.loop-state.invariant.0.order
    c.loop-state.invariant.1 c.if-branch.false c.in_ok-step.ensures.ok

remainder_is_left : (g : Over) (c : In_ok-remainder g) → terms_in c.in_ok-remainder.remainder
    ≡ division.remainder
    (state_of c.step.new.state)
remainder_is_left g c = c.in_ok-remainder.ensures.terms
    ∙ rest_is c.step.new.state.put_away (left_of c.step.new.state.current)
    (map (λ v. terms_of g.K.Ring.meaning v.items) c.step.new.state.cofactors.items)
    c.in_ok-step.ensures.fits.away

pub returns-clause-ran : goal.returns-clause-ran
returns-clause-ran g c =
    let at = (goal.at.returns-clause-ran g c).In_ok-remainder in
    let f = fits_along _ _ _ _ _ _ c.loop-state.invariant.0.order c.loop-state.invariant.0.arity
    c.in_ok-step.ensures.fits in
    ran_done (over g at).0 (over g at).1
    (record {
      cofactors = c.in_ok-cofactors.ensures.terms;
      remainder = remainder_is_left g at;
      like = λ k d l. let one = c.in_ok-cofactors.ensures.like k d l in
          (one.0 ∙ c.order-order.ensures, one.1 ∙ c.arity-arity.ensures.arity);
      remainder_order = c.in_ok-remainder.ensures.order ∙ f.order;
      remainder_arity = c.in_ok-remainder.ensures.arity ∙ f.arity;
    })

pub returns-clause-sum : goal.returns-clause-sum
returns-clause-sum g c =
    let at = goal.at.returns-clause-sum g c in
    let end = over g at.In_ok-remainder in
    let S = g.K.Ring.scalars in
    let gs = terms_each c.args.list.now in
    let p = c.args.p.now in
    subst (λ (q : Terms S.Elem). Same S.arithmetic (terms_in p) q)
    (ap₂ (λ (qs : List (Terms S.Elem)) (q : Terms S.Elem). combination S.arithmetic qs gs ++ q)
    (sym c.in_ok-cofactors.ensures.terms) (sym (remainder_is_left g at.In_ok-remainder)))
    (sum_of S g.met.K.Ring.ring g.met.K.Field.field g.met.K.Ring.zero_is (g.O.Order.order p.order)
    (g.met.O.Order.is_order p.order) p.arity gs (terms_in p) (state_of c.step.new.state) _ _
    (elements g at.Start) p.polynomial (record { work = end.0.work; ended = end.1 }))

pub returns-clause-undivided : goal.returns-clause-undivided
returns-clause-undivided g c =
    let at = goal.at.returns-clause-undivided g c in
    subst (AtPlaces (λ t. AtPlaces (λ q. divides (lead_of q) t.0 ≡ false)
    (terms_each c.args.list.now))) (sym (remainder_is_left g at.In_ok-remainder))
    (division_undivided (field g.K.Ring.scalars) (g.O.Order.order c.args.p.now.order)
    (terms_each c.args.list.now) (state_of c.step.new.state) (over g at.In_ok-remainder).1)
