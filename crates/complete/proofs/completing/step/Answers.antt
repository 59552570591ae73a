use Rattle.std.proofs.Common.{◌≡◌, Some, None, IfOk, refl, sym, ap, subst, ◌∙◌}
use Rattle.std.proofs.lemmas.Option.{MatchOption-at_some, MatchOption-at_none}
use Rattle.algebra.specs.Scalars.{field}
use Rattle.poly.specs.Seen.{terms_each}
use Rattle.machines.specs.Completion.{next, with_element}
use Rattle.machines.specs.Cut.{after_cut, find_cut, all_places, monic}
use Rattle.machines.specs.Event.{Keep, Zero}
use Rattle.machines.specs.Past.{IsPastCompletion, IsPastMonic, IsPastReduction}
use Rattle.machines.specs.Work.{StepOrEnd, StoppedAt}
use Rattle.machines.proofs.Working.{step_of}
use Rattle.divide.specs.Current.{left_of, Cancels, IsCurrent}
use Rattle.divide.proofs.Divided.{no_true, wide_of, budget_of}
use Rattle.complete.specs.Completing.{state_of, current_of}
use Rattle.complete.proofs.Coming.{cut_comes, zero_comes, keep_comes, cut_past, keep_past, known}
use Rattle.complete.proofs.Like.{fits_idle, fits_with}
use Rattle.complete.proofs.completing.step.Given.{Over}
use Rattle.complete.proofs.completing.step.Goals.{In_default, In-Some, In_default-2}
use Rattle.complete.proofs.completing.step.Goals as goal

-- ---- nothing is current: the state without it is the same
idle : (g : Over) (c : In_default g) → c.take.new.self ≡ c.args.state.now.current
idle g c = c.in_default.ensures.after ∙ c.in_default.ensures.value

same : (g : Over) (c : In_default g)
    → state_of (record c.args.state.now { current = c.take.new.self }) ≡ state_of c.args.state.now
same g c = ap (λ o. state_of (record c.args.state.now { current = o })) (idle g c)

pub take_pair-requires-clause-fits : goal.take_pair-requires-clause-fits
take_pair-requires-clause-fits g c =
    fits_idle _ _ c.take.new.self c.args.state.now c.in_default.ensures.after c.requires.fits

pub returns-in_default-clause-ok : goal.returns-in_default-clause-ok
returns-in_default-clause-ok g c =
    let at = (goal.at.returns-in_default-clause-ok g c).In_default in
    let O = g.O.Order.order c.args.state.now.order in
    subst (λ s. IfOk c.take_pair.result (λ b. StepOrEnd (next (field g.K.Ring.scalars) O) s
    (state_of c.take_pair.new.state) c.args.meter.now c.take_pair.new.meter b)) (same g at)
    c.take_pair.ensures.ok

pub returns-in_default-clause-wide : goal.returns-in_default-clause-wide
returns-in_default-clause-wide g c =
    let at = (goal.at.returns-in_default-clause-wide g c).In_default in
    λ w. subst (IsPastCompletion g.K.Ring.scalars (field g.K.Ring.scalars)) (same g at)
    (c.take_pair.ensures.wide w)

pub returns-in_default-clause-budget : goal.returns-in_default-clause-budget
returns-in_default-clause-budget g c =
    let at = (goal.at.returns-in_default-clause-budget g c).In_default in
    let O = g.O.Order.order c.args.state.now.order in
    λ w. subst (λ s. StoppedAt (next (field g.K.Ring.scalars) O) s c.args.meter.now) (same g at)
    (c.take_pair.ensures.budget w)

-- ---- the current polynomial
was : (g : Over) (c : In-Some g) → c.args.state.now.current ≡ Some c.in-Some.current
was g c = sym c.in-Some.ensures.value

like : (g : Over) (c : In-Some g) → (c.in-Some.current.rest.order ≡ c.args.state.now.order)
    × (c.in-Some.current.rest.arity ≡ c.args.state.now.arity)
    × IsCurrent c.args.state.now.leads.items c.in-Some.current
like g c = let s = c.args.state.now in
    known (λ q. (q.rest.order ≡ s.order) × (q.rest.arity ≡ s.arity)
    × IsCurrent s.leads.items q) s.current c.in-Some.current (was g c) c.requires.fits.current

pub next_cut-requires-clause-current : goal.next_cut-requires-clause-current
next_cut-requires-clause-current g c =
    let at = (goal.at.next_cut-requires-clause-current g c).In-Some in
    subst (λ l. IsCurrent l c.in-Some.current) (sym c.deref-2.ensures.value) (like g at).2

pub returns-in_err-cut-clause-wide : goal.returns-in_err-cut-clause-wide
returns-in_err-cut-clause-wide g c =
    let at = (goal.at.returns-in_err-cut-clause-wide g c).In-Some in
    let s = c.args.state.now in
    let F = field g.K.Ring.scalars in
    λ w. cut_past g.K.Ring.scalars (g.O.Order.order s.order) (state_of s)
    (left_of c.in-Some.current) (ap current_of (was g at))
    (subst (λ l. IsPastReduction g.K.Ring.scalars F (terms_each l) (left_of c.in-Some.current))
    c.deref.ensures.value
    (c.in_err-cut.ensures.wide (cc (wide_of c.from_residual.result c.in_err-cut.field-0.0
    c.from_residual.ensures.1 w))))

-- ---- a cancellation
pub returns-in_err-note-clause-budget : goal.returns-in_err-note-clause-budget
returns-in_err-note-clause-budget g c =
    let at = (goal.at.returns-in_err-note-clause-budget g c).In-Some in
    let s = c.args.state.now in
    let p = c.in-Some.current in
    let t = subst (λ l. Cancels p.rest.order (terms_each l) (left_of p) c.next_cut.new.self
    c.in-Some-2.cut) c.deref.ensures.value (MatchOption-at_some _ _ c.in-Some-2.cut
    c.in-Some-2.is c.in_ok-cut.ensures.ok) in
    λ w. record {
      event = _;
      following = _;
      comes = cut_comes g.K.Ring.scalars (g.O.Order.order s.order) (state_of s)
          (left_of p) (ap current_of (was g at)) t.cutting _ _ t.found refl refl;
      unit = refl;
      exhausted = (c.in_err-note.ensures.budget.0
          (cc (budget_of c.from_residual-in_err-note.result c.in_err-note.field-0.0
          c.from_residual-in_err-note.ensures.1 w))).1;
    }

pub returns-in-Some-2-clause-ok : goal.returns-in-Some-2-clause-ok
returns-in-Some-2-clause-ok g c =
    let at = (goal.at.returns-in-Some-2-clause-ok g c).In-Some in
    let s = c.args.state.now in
    let p = c.in-Some.current in
    let q = c.next_cut.new.self in
    let t = subst (λ l. Cancels p.rest.order (terms_each l) (left_of p) q c.in-Some-2.cut)
    c.deref.ensures.value (MatchOption-at_some _ _ c.in-Some-2.cut c.in-Some-2.is
    c.in_ok-cut.ensures.ok) in
    let left = subst (λ o. left_of q ≡ after_cut (field g.K.Ring.scalars) (g.O.Order.order o)
    (left_of p) t.cutting) (like g at).0 t.left in
    step_of (next (field g.K.Ring.scalars) (g.O.Order.order s.order)) (state_of s) _
    c.args.meter.now c.note.new.self _
    (cut_comes g.K.Ring.scalars (g.O.Order.order s.order) (state_of s) (left_of p)
    (ap current_of (was g at)) t.cutting (left_of q) c.in-Some-2.cut.element t.found
    t.element left)
    c.in_ok-note.ensures.ok c.in_ok-note.ensures.within

pub returns-in-Some-2-clause-fits : goal.returns-in-Some-2-clause-fits
returns-in-Some-2-clause-fits g c =
    let at = (goal.at.returns-in-Some-2-clause-fits g c).In-Some in
    fits_with _ _ c.in-Some.current c.next_cut.new.self c.args.state.now (was g at)
    c.in_ok-cut.ensures.like
    (subst (λ l. IsCurrent l c.next_cut.new.self) c.deref-2.ensures.value
    c.in_ok-cut.ensures.current) c.requires.fits

-- ---- no cancellation any more: what is left stays what it was
stays : (g : Over) (c : In_default-2 g)
    → (find_cut (field g.K.Ring.scalars) all_places (terms_each c.args.state.now.basis.items)
    (left_of c.in-Some.current) ≡ None)
    × (left_of c.next_cut.new.self ≡ left_of c.in-Some.current)
stays g c =
    let none = MatchOption-at_none _ _ c.in_default-2.is c.in_ok-cut.ensures.ok in (
      subst (λ l. find_cut (field g.K.Ring.scalars) all_places (terms_each l)
          (left_of c.in-Some.current) ≡ None) c.deref.ensures.value none.0,
      none.1,
    )

pub returns-then-is_zero-clause-ok : goal.returns-then-is_zero-clause-ok
returns-then-is_zero-clause-ok g c =
    let at = goal.at.returns-then-is_zero-clause-ok g c in
    let s = c.args.state.now in
    step_of (next (field g.K.Ring.scalars) (g.O.Order.order s.order)) (state_of s) _
    c.args.meter.now c.note-then-is_zero.new.self _
    (zero_comes g.K.Ring.scalars (g.O.Order.order s.order) (state_of s)
    (left_of c.in-Some.current) (ap current_of (was g at.In-Some))
    (sym (stays g at.In_default-2).1 ∙ c.if-is_zero.ensures.0 refl)
    ∙ ap (λ o. Some (Zero, record (state_of s) { current = current_of o }))
    (sym c.in-Some.ensures.after))
    c.in_ok-note-2.ensures.ok c.in_ok-note-2.ensures.within

pub returns-then-is_zero-clause-fits : goal.returns-then-is_zero-clause-fits
returns-then-is_zero-clause-fits g c =
    fits_idle _ _ c.take.new.self c.args.state.now c.in-Some.ensures.after c.requires.fits

pub into_poly-requires : goal.into_poly-requires
into_poly-requires g c = record { descending = c.in_ok-cut.ensures.current.descending }

pub made_monic-requires : goal.made_monic-requires
made_monic-requires g c =
    λ e. no_true (c.if-is_zero.ensures.1 (sym c.in_ok-into_poly.ensures.terms ∙ e))

pub returns-in_err-monic-clause-wide : goal.returns-in_err-monic-clause-wide
returns-in_err-monic-clause-wide g c =
    let at = goal.at.returns-in_err-monic-clause-wide g c in
    let left = stays g at.In_default-2 in
    let s = c.args.state.now in
    let F = field g.K.Ring.scalars in
    λ w. keep_past g.K.Ring.scalars (g.O.Order.order s.order) (state_of s)
    (left_of c.in-Some.current) (ap current_of (was g at.In-Some)) left.0
    (subst (IsPastMonic g.K.Ring.scalars F) (c.in_ok-into_poly.ensures.terms ∙ left.1)
    (c.in_err-monic.ensures.wide (cc (wide_of c.from_residual-in_err-monic.result
    c.in_err-monic.field-0.0 c.from_residual-in_err-monic.ensures.1 w))))

pub add_element-requires-clause-fits : goal.add_element-requires-clause-fits
add_element-requires-clause-fits g c =
    fits_idle _ _ c.take.new.self c.args.state.now c.in-Some.ensures.after c.requires.fits

pub add_element-requires-clause-order : goal.add_element-requires-clause-order
add_element-requires-clause-order g c =
    let at = (goal.at.add_element-requires-clause-order g c).In-Some in
    c.in_ok-monic.ensures.order ∙ c.in_ok-into_poly.ensures.order ∙ c.in_ok-cut.ensures.like.0
    ∙ (like g at).0

pub add_element-requires-clause-arity : goal.add_element-requires-clause-arity
add_element-requires-clause-arity g c =
    let at = (goal.at.add_element-requires-clause-arity g c).In-Some in
    c.in_ok-monic.ensures.arity ∙ c.in_ok-into_poly.ensures.arity ∙ c.in_ok-cut.ensures.like.1
    ∙ (like g at).1

pub returns-clause-ok : goal.returns-clause-ok
returns-clause-ok g c =
    let at = goal.at.returns-clause-ok g c in
    let F = field g.K.Ring.scalars in
    let s = c.args.state.now in
    let O = g.O.Order.order s.order in
    let p = c.in-Some.current in
    let left = stays g at.In_default-2 in
    let v = current_of c.take.new.self in
    let element = c.in_ok-add_element.ensures.element
    ∙ ap (λ m. with_element F O (record (state_of s) { current = v }) m s.pair_sugar)
    (c.in_ok-monic.ensures.monic
    ∙ ap (monic F) (c.in_ok-into_poly.ensures.terms ∙ left.1)) in
    step_of (next F O) (state_of s) _ c.args.meter.now c.note-2.new.self _
    (keep_comes g.K.Ring.scalars O (state_of s) (left_of p)
    (ap current_of (was g at.In-Some)) v left.0
    (λ e. no_true (c.if-is_zero.ensures.1 (left.1 ∙ e)))
    ∙ ap (λ t. Some (Keep, t)) (sym element))
    c.in_ok-note-3.ensures.ok c.in_ok-note-3.ensures.within
