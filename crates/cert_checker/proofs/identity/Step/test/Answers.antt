use Rattle.std.proofs.Common.{ℕ, ◌+◌, length, refl, arith}
use Rattle.std.proofs.Math.Path.{subst₃}
use Rattle.poly.specs.Seen.{terms_in, terms_each}
use Rattle.loop_model.proofs.Items.{in_list, past_list}
use Rattle.cert_form.specs.Cert.{polys_in, rows_in}
use Rattle.expansion.specs.Counts.{IsCount, composition_terms, combination_terms}
use Rattle.cert_checker.specs.Long.{step_terms}
use Rattle.cert_checker.proofs.SearchLaws.{step_counted}
use Rattle.cert_checker.proofs.LongLaws.{total_none, all_counted, long_here, more_counted, none_none}
use Rattle.cert_checker.proofs.identity.Step.test.Goals as goal
use Rattle.cert_checker.proofs.identity.Step.test.Goals.{After-with_step}

abbrev terms_of_element : After-with_step → ℕ → ℕ
terms_of_element c = step_terms (polys_in c.args.self.now.basis.now)
    (polys_in c.args.self.now.images.now)
    (rows_in c.args.self.now.rows.now)

-- the count of the element, of the certificate's lists
counted : (c : After-with_step) → IsCount (c.loop-i.before + terms_of_element c c.loop-i.i)
    c.with_step.result
counted c =
    step_counted (length c.args.self.now.images.now.items) c.args.self.now.images.now.items _
    c.deref-element-items.ensures.value c.loop-i.i c.loop-i-test.true c.element-item.is
    c.args.self.now.rows.now c.index.result.now c.args.self.now.square.height c.index.ensures
    c.loop-i.before c.with_step.result (subst₃ (λ xs ys zs. IsCount
    (c.loop-i.before + (composition_terms (terms_in c.element-item.result) (terms_each xs)
    + combination_terms (terms_each ys) (terms_each zs))) c.with_step.result) c.deref.ensures.value
    c.deref-in-loop-i.ensures.value c.deref-in-loop-i-2.ensures.value c.with_step.ensures)

pub loop-i-init : goal.loop-i-init
loop-i-init c = record { is = total_none _; few = omega arith }

pub returns-in-None-clause-limit : goal.returns-in-None-clause-limit
returns-in-None-clause-limit c =
    let at = (goal.at.returns-in-None-clause-limit c).After-with_step in (
      refl,
      long_here (terms_of_element at) (length c.args.self.now.basis.now.items) c.loop-i.i
          c.loop-i.invariant.is c.loop-i.invariant.few (counted at) (none_none c.in-None.is)
          (in_list _ _ c.deref-element-items.ensures.value _ c.loop-i-test.true),
    )

pub loop-i-preserved : goal.loop-i-preserved
loop-i-preserved c =
    let at = (goal.at.loop-i-preserved c).After-with_step in
    let more = more_counted (terms_of_element at) (length c.args.self.now.basis.now.items)
    c.loop-i.i c.loop-i.invariant.is c.loop-i.invariant.few (counted at)
    c.in-Some.terms c.in-Some.is in
    record { is = more.0; few = more.1 }

pub returns-clause-few : goal.returns-clause-few
returns-clause-few c =
    all_counted _ _ c.loop-i.i
    (past_list _ _ c.deref-element-items.ensures.value c.loop-i.i c.loop-i-test.false)
    c.loop-i.invariant.is c.loop-i.invariant.few
