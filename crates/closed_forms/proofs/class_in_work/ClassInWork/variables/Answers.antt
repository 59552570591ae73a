use Rattle.std.proofs.Common.{◌≡◌, ◌+◌, inl, inr, All, length, ap, sym, subst, ◌∙◌, arith}
use Rattle.std.proofs.lemmas.List.{length_push}
use Rattle.std.proofs.lemmas.List.Elements.{All-push, All-same}
use Rattle.algebra.specs.Fraction.{fraction_size}
use Rattle.algebra.specs.Size.{IsPast}
use Rattle.polynomials.specs.Weight.{weight}
use Rattle.linear.specs.Rows.{fractions_of}
use Rattle.poly.specs.Seen.{terms_in, terms_each}
use Rattle.solvable.proofs.Using.{FracPoly}
use Rattle.solvable_maps.specs.Expo.{with_normal_keys}
use Rattle.closed_forms.specs.ClassInWork.{base_in, vars_in}
use Rattle.closed_forms.specs.Inhomogeneities.{collect_terms, part}
use Rattle.closed_forms.specs.Sums.{IsPastMix}
use Rattle.closed_forms.specs.Values.{IsExpoOver}
use Rattle.closed_forms.proofs.Chaining.{variables_next, row_past}
use Rattle.closed_forms.proofs.Making.{normal_over}
use Rattle.closed_forms.proofs.Mixing.{wide_on, read_of}
use Rattle.closed_forms.proofs.class_in_work.ClassInWork.variables.Goals as goal

pub weighted_sum-requires-clause-few : goal.weighted_sum-requires-clause-few
weighted_sum-requires-clause-few c = omega (arith, c.arity-arity.ensures, c.args.self.now.ready.few)

pub weighted_sum-requires-clause-arities : goal.weighted_sum-requires-clause-arities
weighted_sum-requires-clause-arities c =
    subst (λ n. All (λ (p : FracPoly). p.arity ≡ n) c.args.forms.now)
    (sym c.arity-arity.ensures) c.requires

pub returns-in_err-sum-clause-wide : goal.returns-in_err-sum-clause-wide
returns-in_err-sum-clause-wide c =
    let forms = terms_each c.args.forms.now in
    let at = read_of c.deref-row-items.ensures.value c.loop-row-test.true c.row-item.is in
    wide_on c.from_residual.ensures.1 (λ w. row_past _ _ forms at.0 at.1 (inl (subst (λ r. IsPastMix
    (fractions_of r) forms) c.deref.ensures.value (c.in_err-sum.ensures.wide w))))

pub returns-in_err-normal-clause-wide : goal.returns-in_err-normal-clause-wide
returns-in_err-normal-clause-wide c =
    let forms = terms_each c.args.forms.now in
    let at = read_of c.deref-row-items.ensures.value c.loop-row-test.true c.row-item.is in
    let sum_is : terms_in c.in_ok-sum.sum ≡ part (fractions_of c.row-item.result.items) forms =
    c.in_ok-sum.ensures.terms ∙ ap (λ r. part (fractions_of r) forms) c.deref.ensures.value in
    wide_on c.from_residual-in_err-normal.ensures.1 (λ w. row_past _ _ forms at.0 at.1
    (inr (subst (λ q. IsPast (weight fraction_size q)) sum_is (c.in_err-normal.ensures.wide w))))

pub loop-row-preserved : goal.loop-row-preserved
loop-row-preserved c =
    let bs = base_in c.args.self.now in
    let m = vars_in c.args.self.now in
    let forms = terms_each c.args.forms.now in
    let out = c.loop-row.out.items in
    let e = c.in_ok-normal.field-0 in
    let more = c.in_ok-push.ensures.items in
    let at = read_of c.deref-row-items.ensures.value c.loop-row-test.true c.row-item.is in
    let sum_is : terms_in c.in_ok-sum.sum ≡ part (fractions_of c.row-item.result.items) forms =
    c.in_ok-sum.ensures.terms ∙ ap (λ r. part (fractions_of r) forms) c.deref.ensures.value in
    let arity = c.in_ok-sum.ensures.arity ∙ c.arity-arity.ensures in (
      ap length more ∙ length_push out e ∙ ap (λ k. k + 1) c.loop-row.invariant.0,
      All-same (IsExpoOver bs m) _ _ more (All-push (IsExpoOver bs m) out e
          c.loop-row.invariant.1 (normal_over m _ e arity c.in_ok-normal.ensures.normal)),
      variables_next bs forms _ _ out e at.0 at.1 more
          (c.in_ok-normal.ensures.normal.terms
          ∙ ap (λ q. collect_terms (with_normal_keys (length bs) q))
          sum_is) c.loop-row.invariant.2,
    )
