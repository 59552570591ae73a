use Rattle.std.proofs.Common.{◌≡◌, All, refl, sym, ap, subst, ◌∙◌, arith}
use Rattle.std.proofs.lemmas.Result.{IfOk-weaker}
use Rattle.linear.specs.Rows.{fractions_of, rows_of}
use Rattle.poly.specs.Seen.{terms_each}
use Rattle.solvable.proofs.Using.{FracPoly}
use Rattle.closed_forms.specs.FormInWork.{numbers_for}
use Rattle.closed_forms.specs.Inhomogeneities.{part, IsBy}
use Rattle.closed_forms.specs.Inhomogeneities as past
use Rattle.closed_forms.specs.Sums.{IsPastMix}
use Rattle.closed_forms.proofs.Mixing.{wide_on}
use Rattle.linear.proofs.Lists.{fractions-length}
use Rattle.closed_forms.proofs.Rows.{product_at, past_row_at}
use Rattle.closed_forms.proofs.form_in_work.FormInWork.combination_of_earlier.Goals as goal
use Rattle.closed_forms.proofs.form_in_work.FormInWork.combination_of_earlier.Goals.{In_ok-by}

is_by : (c : In_ok-by)
    → IsBy (numbers_for c.args.self.now) (rows_of c.args.self.now.class.now.setting.matrix.items)
    (rows_of c.args.self.now.class.now.setting.back.items) (fractions_of c.in_ok-by.by.items)
is_by c =
    let w = numbers_for c.args.self.now in
    let n = fractions-length c.args.self.now.form.now in
    record {
      turned = fractions_of c.in_ok-turned.turned.items;
      first = product_at refl c.deref.ensures.value (sym n)
          c.in_ok-turned.ensures.product;
      second = product_at c.deref-2.ensures.value c.deref-3.ensures.value (sym n)
          c.in_ok-by.ensures.product;
    }

pub weighted_sum-requires-clause-few : goal.weighted_sum-requires-clause-few
weighted_sum-requires-clause-few c = omega (arith, c.arity.ensures, c.args.self.now.ready.few)

pub weighted_sum-requires-clause-arities : goal.weighted_sum-requires-clause-arities
weighted_sum-requires-clause-arities c =
    subst (λ k. All (λ (p : FracPoly). p.arity ≡ k) c.args.done.now)
    (sym c.arity.ensures) c.requires

pub returns-clause-terms : goal.returns-clause-terms
returns-clause-terms c =
    let by = is_by (goal.at.returns-clause-terms c).In_ok-by in
    IfOk-weaker c.weighted_sum.result _ _
    (λ p h. record {
      by = fractions_of c.in_ok-by.by.items;
      is_by = by;
      terms = h
          ∙ ap (λ by. part (fractions_of by) (terms_each c.args.done.now))
          c.deref-4.ensures.value;
    })
    c.weighted_sum.ensures.terms

pub returns-clause-wide : goal.returns-clause-wide
returns-clause-wide c =
    λ wide. past.before (fractions_of c.in_ok-by.by.items)
    (is_by (goal.at.returns-clause-wide c).In_ok-by)
    (subst (λ by. IsPastMix (fractions_of by) (terms_each c.args.done.now)) c.deref-4.ensures.value
    (c.weighted_sum.ensures.wide wide))

pub returns-in_err-turned-clause-wide : goal.returns-in_err-turned-clause-wide
returns-in_err-turned-clause-wide c =
    let n = fractions-length c.args.self.now.form.now in
    wide_on c.from_residual.ensures.1 (λ wide. past.turned (past_row_at refl c.deref.ensures.value
    (sym n) (c.in_err-turned.ensures.wide wide)))

pub returns-in_err-by-clause-wide : goal.returns-in_err-by-clause-wide
returns-in_err-by-clause-wide c =
    let w = numbers_for c.args.self.now in
    let n = fractions-length c.args.self.now.form.now in
    wide_on c.from_residual-in_err-by.ensures.1 (λ wide. past.back
    (fractions_of c.in_ok-turned.turned.items) (product_at refl c.deref.ensures.value (sym n)
    c.in_ok-turned.ensures.product) (past_row_at c.deref-2.ensures.value c.deref-3.ensures.value
    (sym n) (c.in_err-by.ensures.wide wide)))
