use Rattle.std.proofs.Common.{◌≡◌, ◌<◌, false, List, sym, ap, subst}
use Rattle.poly.specs.Seen.{terms_in, terms_each}
use Rattle.loop_model.specs.FracPoly.{FracPoly}
use Rattle.expansion.specs.Counts.{most_terms}
use Rattle.expansion.specs.Lengths.{composition_length}
use Rattle.divide.specs.Current.{AreDivisors}
use Rattle.invariant_fix.specs.InWork.{Stops}
use Rattle.invariant_fix.proofs.Lists.{divisors_of, known_later}
use Rattle.invariant_fix.proofs.LongLaws.{none_is_above, some_is_few}
use Rattle.invariant_fix.proofs.Options.{some_given, if_some}
use Rattle.invariant_fix.proofs.Squares.{quotients_over}
use Rattle.invariant_fix.proofs.Stepping.{IsTest, element_over, step_open, step_next, step_done, step_long, step_units, step_refused}
use Rattle.invariant_fix.proofs.branch_in_work.BranchInWork.closing_step.Goals as goal
use Rattle.invariant_fix.proofs.branch_in_work.BranchInWork.closing_step.Goals.{After-index-basis-element, After-is_none}

test : (c : After-index-basis-element) → IsTest c.args.self.now c.args.element
    c.index-branch.result.now c.index-basis-element.result c.args.meter.now c.begin.new.self
    c.number_of_place.result c.number_of_place-2.result
test c = record {
  at = c.requires.at;
  inside = c.requires.element;
  branch_is = c.index-branch.ensures;
  element_is = c.index-basis-element.is;
  named = c.number_of_place.ensures;
  numbered = c.number_of_place-2.ensures;
  begun = c.in_ok-begin.ensures.ok;
  due = c.requires.next;
}

pub closing_division-requires-clause-divisors : goal.closing_division-requires-clause-divisors
closing_division-requires-clause-divisors c =
    let w = c.args.self.now in
    let at = goal.at.closing_division-requires-clause-divisors c in
    subst (λ n. AreDivisors _ n w.basis.now)
    (sym (element_over (test at.After-index-basis-element)))
    (divisors_of _ _ w.basis.now c.requires.at.basis)

length_at : (c : After-is_none)
    → composition_length (terms_in c.index-basis-element.result) (terms_each c.as_slice.result.now)
    ≡ composition_length (terms_in c.index-basis-element.result)
    (terms_each c.index-branch.result.now.images.items)
length_at c = ap (λ (ps : List FracPoly). composition_length (terms_in c.index-basis-element.result)
    (terms_each ps)) c.as_slice.ensures.value

few_of : (c : After-is_none) → c.is_none.result ≡ false
    → most_terms < composition_length (terms_in c.index-basis-element.result)
    (terms_each c.index-branch.result.now.images.items) → ⊥
few_of c shown l =
    some_is_few _ _ _ c.composition_length.ensures
    c.is_none.ensures shown (subst (λ n. most_terms < n) (sym (length_at c)) l)

pub returns-then-is_none-clause-err : goal.returns-then-is_none-clause-err
returns-then-is_none-clause-err c =
    let at = goal.at.returns-then-is_none-clause-err c in
    step_long (test at.After-index-basis-element) (subst (λ n. most_terms < n)
    (length_at at.After-is_none)
    (none_is_above _ _ _ c.composition_length.ensures c.is_none.ensures c.if-is_none.true))

pub returns-in-Ok-clause-open_ : goal.returns-in-Ok-clause-open_
returns-in-Ok-clause-open_ c = λ n.
    let at = goal.at.returns-in-Ok-clause-open_ c in
    step_open (test at.After-index-basis-element) (few_of at.After-is_none c.if-is_none.false)
    c.closing_division.new.meter c.in-Ok.division c.in-Ok.ensures.ran
    (c.cofactors_of.ensures.none.0 n)

pub returns-in-Ok-clause-next : goal.returns-in-Ok-clause-next
returns-in-Ok-clause-next c = λ s.
    let at = goal.at.returns-in-Ok-clause-next c in
    let some = some_given _ _ s c.cofactors_of.ensures.some in
    step_next (test at.After-index-basis-element) (few_of at.After-is_none c.if-is_none.false)
    c.closing_division.new.meter c.in-Ok.division c.in-Ok.ensures.ran some.2.0

pub returns-in-Ok-clause-step : goal.returns-in-Ok-clause-step
returns-in-Ok-clause-step c =
    let at = goal.at.returns-in-Ok-clause-step c in
    if_some _ _ _ (λ qs h. step_done (test at.After-index-basis-element)
    (few_of at.After-is_none c.if-is_none.false) c.closing_division.new.meter c.in-Ok.division
    c.in-Ok.ensures.ran h.0 qs h.1) c.cofactors_of.ensures.some

pub returns-in-Ok-clause-over : goal.returns-in-Ok-clause-over
returns-in-Ok-clause-over c =
    let at = goal.at.returns-in-Ok-clause-over c in
    if_some _ _ _ (λ qs h. quotients_over qs c.in-Ok.ensures.ran.to.gives.like
    (element_over (test at.After-index-basis-element)) h.1) c.cofactors_of.ensures.some

pub returns-in-Ok-clause-units : goal.returns-in-Ok-clause-units
returns-in-Ok-clause-units c =
    let at = goal.at.returns-in-Ok-clause-units c in
    step_units (test at.After-index-basis-element) (few_of at.After-is_none c.if-is_none.false)
    c.closing_division.new.meter c.in-Ok.division c.in-Ok.ensures.ran

pub returns-in-Ok-clause-list : goal.returns-in-Ok-clause-list
returns-in-Ok-clause-list c =
    let at = goal.at.returns-in-Ok-clause-list c in
    known_later _ _ c.requires.at.basis
    (step_units (test at.After-index-basis-element) (few_of at.After-is_none c.if-is_none.false)
    c.closing_division.new.meter c.in-Ok.division c.in-Ok.ensures.ran)

pub returns-in-Err-clause-err : goal.returns-in-Err-clause-err
returns-in-Err-clause-err c =
    let at = goal.at.returns-in-Err-clause-err c in
    subst (Stops c.args.self.now c.closing_division.new.meter) (sym c.in_task.ensures)
    (step_refused (test at.After-index-basis-element) (few_of at.After-is_none c.if-is_none.false)
    c.closing_division.new.meter c.in-Err.error c.in-Err.ensures.ran)
