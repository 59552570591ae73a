use Rattle.std.proofs.Common.{◌≡◌, ◌≢◌, ◌≤◌, ◌+◌, length, sym, ap, subst, ◌∙◌, arith}
use Rattle.algebra.specs.Each.{Each}
use Rattle.algebra.proofs.In.{each_from}
use Rattle.algebra.specs.Fraction.{ℚ}
use Rattle.exponentials.specs.Base.{IsTheBase}
use Rattle.linear.specs.Rows.{fractions_of}
use Rattle.linear.proofs.Lists.{fractions-length}
use Rattle.coprime_base.specs.Sizes.{sizes}
use Rattle.solvable_maps.specs.Classes.{sizes_of}
use Rattle.closed_forms.specs.States.{some_of, zeros_in}
use Rattle.closed_forms.specs.Values.{values_in}
use Rattle.closed_forms.proofs.Ahead.{zeros_counted}
use Rattle.closed_forms.proofs.Filling.{in_some}
use Rattle.closed_forms.proofs.Sizing.{values_are}
use Rattle.closed_forms.proofs.base.base_of.Goals as goal
use Rattle.closed_forms.proofs.base.base_of.Goals.{In_ok-push_some}

-- all values, and those that aren't zero
module _ (c : In_ok-push_some) where
  seen : fractions_of c.push_values.new.out.items ≡ values_in c.args.splits.now
  seen = values_are _ _ c.in_ok-push_values.ensures c.new-values.ensures.items

  some : fractions_of c.push_some.new.out.items ≡ some_of (values_in c.args.splits.now)
  some = values_are _ _ c.in_ok-push_some.ensures c.new-some.ensures.items
      ∙ ap some_of (ap fractions_of c.as_slice.ensures.value ∙ seen)

  counted : zeros_in (values_in c.args.splits.now) + length c.push_some.new.out.items
      ≡ length c.push_values.new.out.items
  counted =
      let n = zeros_counted (values_in c.args.splits.now) in
      let a = sym (fractions-length c.push_some.new.out.items) ∙ ap length some in
      let b = sym (fractions-length c.push_values.new.out.items) ∙ ap length seen in
      omega (arith, n, a, b)

  few : length c.push_values.new.out.items ≤ 12
  few = (let n = sym (fractions-length c.push_values.new.out.items) ∙ ap length seen in
      omega (arith, n, c.requires))

pub base_among-requires-clause-nonzero : goal.base_among-requires-clause-nonzero
base_among-requires-clause-nonzero c =
    let vs = values_in c.args.splits.now in
    subst (Each (λ c. c ≢ ℚ.zero)) (sym (ap fractions_of c.as_slice-2.ensures.value
    ∙ some (goal.at.base_among-requires-clause-nonzero c).In_ok-push_some))
    (each_from (some_of vs) (λ x i. (in_some vs x i).1))

pub base_among-requires-clause-few : goal.base_among-requires-clause-few
base_among-requires-clause-few c =
    let at = (goal.at.base_among-requires-clause-few c).In_ok-push_some in
    let n = counted at in
    let m = few at in
    let s = ap length c.as_slice-2.ensures.value in
    omega (arith, n, m, s)

pub overflow_sub-zeros : goal.overflow_sub-zeros
overflow_sub-zeros c =
    let n = counted (goal.at.overflow_sub-zeros c).In_ok-push_some in
    omega (
      arith,
      n,
      c.len.ensures,
      c.len-2.ensures,
      c.push_values.new.out.ok.0,
      c.push_some.new.out.ok.0,
    )

pub returns-clause-base : goal.returns-clause-base
returns-clause-base c = subst (λ vs. IsTheBase (sizes_of vs) (sizes c.in_ok-base.base.items))
    (ap fractions_of c.as_slice-2.ensures.value
    ∙ some (goal.at.returns-clause-base c).In_ok-push_some) c.in_ok-base.ensures.base

pub returns-clause-zeros : goal.returns-clause-zeros
returns-clause-zeros c =
    let n = counted (goal.at.returns-clause-zeros c).In_ok-push_some in
    omega (
      arith,
      n,
      c.len.ensures,
      c.len-2.ensures,
      c.push_values.new.out.ok.0,
      c.push_some.new.out.ok.0,
    )
