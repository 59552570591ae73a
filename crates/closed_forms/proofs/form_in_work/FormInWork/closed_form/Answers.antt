use Rattle.std.proofs.Common.{length, sym, subst}
use Rattle.linear.specs.Rows.{rows_of}
use Rattle.polynomials.specs.Order.{grevlex}
use Rattle.solvable.proofs.Using.{FracPoly}
use Rattle.solvable_maps.specs.Iterations.{IsNormalForm}
use Rattle.poly.specs.Seen.{terms_in, terms_each}
use Rattle.closed_forms.specs.FormInWork.{base_for, variables_for, numbers_for, value_for}
use Rattle.closed_forms.specs.ClassForms.{ahead_in}
use Rattle.closed_forms.specs.Known.{IsNextForm, inhomogeneity_past, making_past}
use Rattle.closed_forms.proofs.Joining.{over_normal}
use Rattle.closed_forms.proofs.Mixing.{wide_on}
use Rattle.closed_forms.proofs.form_in_work.FormInWork.closed_form.Goals as goal

pub returns-in_err-inhomogeneity-clause-wide : goal.returns-in_err-inhomogeneity-clause-wide
returns-in_err-inhomogeneity-clause-wide c = wide_on
    c.from_residual.ensures.1 (λ w. inhomogeneity_past (c.in_err-inhomogeneity.ensures.wide w))

pub returns-in_err-closed-clause-wide : goal.returns-in_err-closed-clause-wide
returns-in_err-closed-clause-wide c =
    wide_on c.from_residual-in_err-closed.ensures.1 (λ w. making_past
    (terms_in c.in_ok-inhomogeneity.inhomogeneity.body) c.in_ok-inhomogeneity.ensures.inhomogeneity
    (c.in_err-closed.ensures.wide w))

pub returns-clause-normal : goal.returns-clause-normal
returns-clause-normal c =
    let bs = base_for c.args.self.now in
    let m = variables_for c.args.self.now in
    subst (λ (p : FracPoly). IsNormalForm bs grevlex m (terms_in p)) (sym c.into_body.ensures)
    (over_normal c.in_ok-closed.ensures.over)

pub returns-clause-next : goal.returns-clause-next
returns-clause-next c =
    let bs = base_for c.args.self.now in
    let s = c.args.self.now.class.now.setting in
    subst (λ (p : FracPoly). IsNextForm bs (length s.earlier.items)
    c.args.self.now.class.now.group.now
    (terms_each s.rests.items) (terms_each s.earlier.items) (rows_of s.matrix.items)
    (rows_of s.back.items) (ahead_in s) (numbers_for c.args.self.now)
    (value_for c.args.self.now) (terms_each c.args.done.now) (terms_in p))
    (sym c.into_body.ensures)
    (record {
      inhomogeneity = terms_in c.in_ok-inhomogeneity.inhomogeneity.body;
      is = c.in_ok-inhomogeneity.ensures.inhomogeneity;
      made = c.in_ok-closed.ensures.form;
    })
