use Rattle.std.proofs.Common.{ℕ, ◌+◌, length, refl, subst, arith}
use Rattle.poly.specs.Seen.{terms_in, terms_each}
use Rattle.loop_model.proofs.Items.{in_list, past_list}
use Rattle.cert_form.specs.Cert.{polys_in}
use Rattle.expansion.specs.Counts.{IsCount, composition_terms}
use Rattle.cert_checker.specs.Long.{start_terms}
use Rattle.cert_checker.proofs.SearchLaws.{start_counted}
use Rattle.cert_checker.proofs.LongLaws.{total_none, all_counted, long_here, more_counted, none_none}
use Rattle.cert_checker.proofs.limits.test_start.Goals as goal
use Rattle.cert_checker.proofs.limits.test_start.Goals.{After-with_start}

abbrev terms_of_element : After-with_start → ℕ → ℕ
terms_of_element c = start_terms (polys_in c.args.basis.now) (polys_in c.args.images.now)

-- the count of the element, of the certificate's lists
counted : (c : After-with_start) → IsCount (c.loop-i.before + terms_of_element c c.loop-i.i)
    c.with_start.result
counted c =
    start_counted (length c.args.images.now.items) c.args.images.now.items _
    c.deref-element-items.ensures.value c.loop-i.i c.loop-i-test.true c.element-item.is
    c.loop-i.before c.with_start.result (subst (λ q. IsCount (c.loop-i.before + composition_terms
    (terms_in c.element-item.result) (terms_each q)) c.with_start.result) c.deref.ensures.value
    c.with_start.ensures)

pub loop-i-init : goal.loop-i-init
loop-i-init c = record { is = total_none _; few = omega arith }

pub returns-in-None-clause-limit : goal.returns-in-None-clause-limit
returns-in-None-clause-limit c =
    let at = (goal.at.returns-in-None-clause-limit c).After-with_start in (
      refl,
      long_here (terms_of_element at) (length c.args.basis.now.items) c.loop-i.i
          c.loop-i.invariant.is c.loop-i.invariant.few (counted at) (none_none c.in-None.is)
          (in_list _ _ c.deref-element-items.ensures.value _ c.loop-i-test.true),
    )

pub loop-i-preserved : goal.loop-i-preserved
loop-i-preserved c =
    let at = (goal.at.loop-i-preserved c).After-with_start in
    let more = more_counted (terms_of_element at) (length c.args.basis.now.items) c.loop-i.i
    c.loop-i.invariant.is c.loop-i.invariant.few (counted at) c.in-Some.terms c.in-Some.is in
    record { is = more.0; few = more.1 }

pub returns-clause-few : goal.returns-clause-few
returns-clause-few c =
    all_counted _ _ c.loop-i.i
    (past_list _ _ c.deref-element-items.ensures.value c.loop-i.i c.loop-i-test.false)
    c.loop-i.invariant.is c.loop-i.invariant.few
