use Rattle.std.proofs.Common.{refl, sym, ap, ap₂, map, ◌∙◌, arith}
use Rattle.std.proofs.lemmas.Option.{MatchOption-at_some, MatchOption-at_none}
use Rattle.std.proofs.lemmas.List.{length-map}
use Rattle.poly.specs.Seen.{terms_in}
use Rattle.poly.specs.View.{term_of, terms_of}
use Rattle.machines.specs.Division.{with_term}
use Rattle.divide.proofs.Divided.{wide_of, budget_of, appended, pushed, state, away_ended, cut_step, cut_stops, cut_past, zero_step, nothing_left, place_below, no_true}
use Rattle.divide.proofs.dividing.step.Goals as goal

pub returns-then-state-clause-ok : goal.returns-then-state-clause-ok
returns-then-state-clause-ok g c = (
  away_ended g.K.Ring.scalars _ _ _ _ _ c.if-state.true,
  refl,
  refl,
)

pub returns-in_err-factor-clause-wide : goal.returns-in_err-factor-clause-wide
returns-in_err-factor-clause-wide g c =
    λ w. cut_past g.K.Ring.scalars (g.O.Order.order c.args.state.now.current.rest.order) _ _ _ _
    c.if-state.false
    (c.in_err-factor.ensures.wide (cc (wide_of c.from_residual.result c.in_err-factor.field-0.0
    c.from_residual.ensures.1 w)))

pub index_mut-requires : goal.index_mut-requires
index_mut-requires g c =
    let t = MatchOption-at_some _ _ c.in-Some.field-0 c.in-Some.is c.in_ok-factor.ensures.ok in
    let below = place_below g.K.Ring.scalars _ _ _ t.found in
    let at = t.element in
    let count = c.requires.fits.count in
    let size = length-map c.args.list.now terms_in in
    omega (arith, below, at, count, size)

pub returns-in_err-note-in-Some-clause-budget : goal.returns-in_err-note-in-Some-clause-budget
returns-in_err-note-in-Some-clause-budget g c =
    let t = MatchOption-at_some _ _ c.in-Some.field-0 c.in-Some.is c.in_ok-factor.ensures.ok in
    λ w. cut_stops g.K.Ring.scalars (g.O.Order.order c.args.state.now.current.rest.order) _ _ _ _
    c.if-state.false t.cutting c.args.meter.now t.found
    (c.in_err-note-in-Some.ensures.budget.0
    (cc (budget_of c.from_residual-in_err-note-in-Some.result c.in_err-note-in-Some.field-0.0
    c.from_residual-in_err-note-in-Some.ensures.1 w))).1

pub returns-then-not-is_zero-clause-ok : goal.returns-then-not-is_zero-clause-ok
returns-then-not-is_zero-clause-ok g c =
    let none = MatchOption-at_none _ _ c.in-None.is c.in_ok-factor.ensures.ok in (
      nothing_left g.K.Ring.scalars _ _ _ _ _ c.if-state.false
          (λ e. no_true (c.if-not-is_zero.ensures.1 (none.1 ∙ e))) none.0,
      ap (λ p. state c.args.state.now.put_away p
          (map (λ v. terms_of g.K.Ring.meaning v.items) c.args.state.now.cofactors.items)) none.1,
      refl,
    )

pub returns-in_ok-note-in-Some-clause-ok : goal.returns-in_ok-note-in-Some-clause-ok
returns-in_ok-note-in-Some-clause-ok g c =
    let t = MatchOption-at_some _ _ c.in-Some.field-0 c.in-Some.is c.in_ok-factor.ensures.ok in
    let below = place_below g.K.Ring.scalars _ _ _ t.found in
    let at = t.element in
    let count = c.requires.fits.count in
    let size = length-map c.args.list.now terms_in in
    cut_step g.K.Ring.scalars (g.O.Order.order c.args.state.now.current.rest.order) _ _ _ _
    c.if-state.false t.cutting _ _ c.in-Some.field-0.element _ _ t.found t.element t.left
    (appended (λ v. terms_of g.K.Ring.meaning v.items) c.args.state.now.cofactors.items
    c.in-Some.field-0.element c.index_mut.result.now c.push.new.self _
    (omega (arith, below, at, count, size)) c.index_mut.ensures.value
    (pushed (term_of g.K.Ring.meaning) c.index_mut.result.now.items c.push.new.self.items _
    c.in_ok-push-in-Some.ensures.items)
    ∙ ap₂ (λ e a. with_term c.in-Some.field-0.element (e, a)
    (map (λ v. terms_of g.K.Ring.meaning v.items) c.args.state.now.cofactors.items)) t.by
    t.number)
    c.in_ok-note-in-Some.ensures.ok c.in_ok-note-in-Some.ensures.within

pub returns-in_ok-note-in-None-clause-ok : goal.returns-in_ok-note-in-None-clause-ok
returns-in_ok-note-in-None-clause-ok g c =
    let none = MatchOption-at_none _ _ c.in-None.is c.in_ok-factor.ensures.ok in
    zero_step g.K.Ring.scalars (g.O.Order.order c.args.state.now.current.rest.order) _ _ _ _
    c.if-state.false _ _ (sym none.1 ∙ c.if-not-is_zero.ensures.0 refl)
    c.in_ok-note-in-None.ensures.ok
    c.in_ok-note-in-None.ensures.within
