use Rattle.std.proofs.Common.{◌≡◌, List, ◌≤◌, ◌<◌, All, length, ap₂, subst, sym, ◌∙◌, arith, Vec, Global}
use Rattle.std.proofs.lemmas.Int.{to_z-of_z}
use mir.Syntax.{w32}
use Rattle.frac128.specs.declared.fraction.Frac.{Frac}
use Rattle.linear.specs.Rows.{rows_of}
use Rattle.linear.proofs.Clearing.{rows-length}
use Rattle.eigen_split.specs.Ints.{ints_of}
use Rattle.eigen_split.specs.WholeMultiple.{rows_in, size_of}
use Rattle.eigen_split.proofs.Squares.{widths_are, fit_next}
use Rattle.eigen_split.proofs.Reading.{candidate_small}
use Rattle.eigen_split.proofs.Taking.{kernel_few, kernel_widths}
use Rattle.eigen_split.proofs.Going.{Going, IsPowerAt, columns_are, power_at, kernel_at, going_first, going_next, going_stop, column_past, vector_past}
use Rattle.eigen_split.proofs.multiple.WholeMultiple.forms_of.Goals as goal
use Rattle.eigen_split.proofs.multiple.WholeMultiple.forms_of.Goals.{In_ok-power}

pub columns_of-requires : goal.columns_of-requires
columns_of-requires c = widths_are c.args.self.now.denominator _ _ 0 _ c.in_ok-first.ensures

pub loop-step-init : goal.loop-step-init
loop-step-init c =
    subst (λ (fs : List (Vec Frac Global)). Going (size_of c.args.self.now)
    (rows_in c.args.self.now) c.args.self.now.denominator c.args.number.now.value 0
    (ints_of c.in_ok-first.first.items) (rows_of fs) c.new-2.result 0)
    (sym c.new.ensures.items)
    (going_first _ c.args.self.now.ready c.new-2.result c.in_ok-first.ensures
    (ap₂ (λ w r. record { width = w; rows = r }) (c.new-2.ensures.width
    ∙ c.len-size.ensures ∙ c.args.self.now.matrix.now.ok.0) c.new-2.ensures.rows))

pub next_power-requires : goal.next_power-requires
next_power-requires c = λ some.
    let few : c.loop-step.step < size_of c.args.self.now = (let l = c.loop-step-test.true in
    let e = c.len-size.ensures in let v = c.args.self.now.matrix.now.ok.0 in
    omega (arith, l, e, v)) in
    let small = candidate_small c.args.self.now.ready c.requires.candidate in
    fit_next c.args.self.now.denominator c.args.number.now.value (rows_in c.args.self.now)
    c.loop-step.step c.loop-step.power.items c.in_ok-columns.columns.items c.args.self.now.ready
    small
    some few c.loop-step.invariant.ints_are (columns_are _ c.args.self.now.ready
    c.in_ok-first.first.items _ c.in_ok-first.ensures c.in_ok-columns.ensures)

-- the power of this step, and that its number is below the size
module _ (c : In_ok-power) where
  now : IsPowerAt c.args.number.now.value c.args.self.now.ready c.loop-step.step
      c.in_ok-power.power.items
  now = power_at _ c.args.self.now.ready _ _ _ _ _ c.loop-step.invariant.ints_are
      c.in_ok-first.ensures c.in_ok-columns.ensures c.in_ok-power.ensures

  few : c.loop-step.step < size_of c.args.self.now
  few = let l = c.loop-step-test.true in let e = c.len-size.ensures in
      let v = c.args.self.now.matrix.now.ok.0 in omega (arith, l, e, v)

  size_is : c.loop-step.known.size ≡ size_of c.args.self.now
  size_is = sym c.loop-step.known.width ∙ c.loop-step.invariant.width

pub kernel-requires-clause-few : goal.kernel-requires-clause-few
kernel-requires-clause-few c =
    let at = (goal.at.kernel-requires-clause-few c).In_ok-power in
    subst (λ m. m ≤ 12) (sym (now at).count) c.args.self.now.ready.few

pub kernel-requires-clause-widths : goal.kernel-requires-clause-widths
kernel-requires-clause-widths c =
    let at = (goal.at.kernel-requires-clause-widths c).In_ok-power in
    (now at).widths

pub returns-in-Err-clause-refused : goal.returns-in-Err-clause-refused
returns-in-Err-clause-refused c =
    let at = (goal.at.returns-in-Err-clause-refused c).In_ok-power in
    column_past _ c.args.self.now.ready c.loop-step.step
    c.in_ok-power.power.items _ c.in-Err.error (record {
      candidate = c.requires.candidate;
      few = few at;
      grown = c.loop-step.invariant.grew;
    }) (now at)
    (to_z-of_z w32 c.args.candidate c.ranges.candidate ∙ sym c.requires.number)
    c.in-Err.ensures.refused

pub returns-then-len-grown-clause-forms : goal.returns-then-len-grown-clause-forms
returns-then-len-grown-clause-forms c =
    let at = (goal.at.returns-then-len-grown-clause-forms c).In_ok-power in
    going_stop _ c.args.self.now.ready c.loop-step.step c.loop-step.power.items
    c.in_ok-power.power.items
    c.in-Ok.vectors.items c.loop-step.known.echelon c.loop-step.grown _ c.loop-step.invariant
    (omega (arith, few at)) (now at) c.in-Ok.ensures.kernel (c.len.ensures ∙ c.in-Ok.vectors.ok.0)
    c.if-len-grown.true

pub take_new-requires-clause-few : goal.take_new-requires-clause-few
take_new-requires-clause-few c =
    let at = (goal.at.take_new-requires-clause-few c).In_ok-power in
    let a = kernel_few _ _ _ (kernel_at _ c.args.self.now.ready (now at) c.in-Ok.ensures.kernel) in
    let b = rows-length c.in-Ok.vectors.items in
    let f = c.args.self.now.ready.few in
    omega (arith, a, b, f)

pub take_new-requires-clause-widths : goal.take_new-requires-clause-widths
take_new-requires-clause-widths c =
    let at = (goal.at.take_new-requires-clause-widths c).In_ok-power in
    subst (λ m. All (λ v. length v.items ≡ m) c.in-Ok.vectors.items)
    (sym (size_is at)) (kernel_widths _ _ c.in-Ok.vectors.items
    (kernel_at _ c.args.self.now.ready (now at) c.in-Ok.ensures.kernel))

pub returns-in-Err-take_new-clause-refused : goal.returns-in-Err-take_new-clause-refused
returns-in-Err-take_new-clause-refused c =
    let at = (goal.at.returns-in-Err-take_new-clause-refused c).In_ok-power in
    vector_past _ c.args.self.now.ready c.loop-step.step
    c.loop-step.power.items c.in_ok-power.power.items (rows_of c.loop-step.known.forms.items)
    c.in-Ok.vectors.items c.loop-step.known.echelon c.loop-step.grown _ _ c.in-Err-take_new.error
    (record {
      candidate = c.requires.candidate;
      few = few at;
      grown = c.loop-step.invariant.grew;
    })
    c.loop-step.invariant (now at) c.in-Ok.ensures.kernel (size_is at)
    (to_z-of_z w32 c.args.candidate c.ranges.candidate ∙ sym c.requires.number)
    c.in-Err-take_new.ensures.refused

pub loop-step-preserved : goal.loop-step-preserved
loop-step-preserved c =
    let at = (goal.at.loop-step-preserved c).In_ok-power in
    going_next _ c.args.self.now.ready c.loop-step.step c.loop-step.power.items
    c.in_ok-power.power.items
    (rows_of c.loop-step.known.forms.items) c.in-Ok.vectors.items c.loop-step.known.echelon
    c.take_new.new.self.echelon
    c.loop-step.grown _ _ c.loop-step.invariant (now at) c.in-Ok.ensures.kernel
    c.in_default.ensures.taken (c.take_new.new.self.width ∙ c.in_default.ensures.size)
    c.in_default.ensures.echelon
    (size_is at) (c.len-grown.ensures ∙ c.in-Ok.vectors.ok.0) (λ e.
    c.if-len-grown.false (c.len.ensures ∙ sym c.len-grown.ensures ∙ e))
