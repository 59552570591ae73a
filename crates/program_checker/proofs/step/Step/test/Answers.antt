use Rattle.std.proofs.Common.{ℕ, ◌+◌, length, refl, arith, subst}
use Rattle.poly.specs.Seen.{terms_in, terms_each}
use Rattle.loop_model.proofs.Items.{in_list, past_list}
use Rattle.cert_form.specs.Cert.{polys_in}
use Rattle.expansion.specs.Counts.{IsCount, composition_terms, combination_terms}
use Rattle.cert_checker.proofs.LongLaws.{all_counted, long_here, more_counted}
use Rattle.cert_checker.proofs.LongLaws as long_laws
use Rattle.program_checker.specs.Rows.{chosen}
use Rattle.program_checker.specs.Identities.{step_terms}
use Rattle.program_checker.specs.View.{rows_of}
use Rattle.program_checker.proofs.Identifying.{step_counted, row_fits}
use Rattle.program_checker.proofs.step.Step.test.Goals as goal
use Rattle.program_checker.proofs.step.Step.test.Goals.{After-with_step}

abbrev terms_of_element : After-with_step → ℕ → ℕ
terms_of_element c = step_terms (polys_in c.args.self.now.elements.now)
    (polys_in c.args.self.now.images.now) (polys_in c.args.self.now.generators.now)
    (rows_of c.args.self.now.rows.now)

-- the count of the element, of the certificate's lists
counted : (c : After-with_step) → IsCount (c.loop-i.before + terms_of_element c c.loop-i.i)
    c.with_step.result
counted c =
    let s = c.args.self.now in
    step_counted s.arity s.images.now.items _ c.deref-element-items.ensures.value
    s.generators.now.items c.loop-i.i c.loop-i-test.true c.element-item.is s.rows.now
    c.index.result.now s.fit c.index.ensures c.loop-i.before c.with_step.result
    (subst (λ xs. IsCount (c.loop-i.before + (composition_terms (terms_in c.element-item.result)
    (terms_each xs) + combination_terms (terms_each c.index.result.now.cofactors.items)
    (chosen (terms_each s.generators.now.items) c.index.result.now.positions.items)))
    c.with_step.result) c.deref.ensures.value c.with_step.ensures)

pub loop-i-init : goal.loop-i-init
loop-i-init c = record { is = long_laws.total_none _; few = omega arith }

pub with_step-requires-clause-count : goal.with_step-requires-clause-count
with_step-requires-clause-count c =
    let s = c.args.self.now in
    (row_fits s.arity s.images.now.items _ c.deref-element-items.ensures.value
    s.generators.now.items c.loop-i.i c.loop-i-test.true c.element-item.is s.rows.now
    c.index.result.now s.fit c.index.ensures).count

pub with_step-requires-clause-ascend : goal.with_step-requires-clause-ascend
with_step-requires-clause-ascend c =
    let s = c.args.self.now in
    (row_fits s.arity s.images.now.items _ c.deref-element-items.ensures.value
    s.generators.now.items c.loop-i.i c.loop-i-test.true c.element-item.is s.rows.now
    c.index.result.now s.fit c.index.ensures).ascend

pub returns-in-None-clause-limit : goal.returns-in-None-clause-limit
returns-in-None-clause-limit c =
    let at = (goal.at.returns-in-None-clause-limit c).After-with_step in (
      refl,
      long_here (terms_of_element at) (length c.args.self.now.elements.now.items) c.loop-i.i
          c.loop-i.invariant.is c.loop-i.invariant.few (counted at)
          (long_laws.none_none c.in-None.is)
          (in_list _ _ c.deref-element-items.ensures.value _ c.loop-i-test.true),
    )

pub loop-i-preserved : goal.loop-i-preserved
loop-i-preserved c =
    let at = (goal.at.loop-i-preserved c).After-with_step in
    let more = more_counted (terms_of_element at) (length c.args.self.now.elements.now.items)
    c.loop-i.i c.loop-i.invariant.is c.loop-i.invariant.few (counted at)
    c.in-Some.terms c.in-Some.is in
    record { is = more.0; few = more.1 }

pub returns-clause-few : goal.returns-clause-few
returns-clause-few c =
    all_counted _ _ c.loop-i.i
    (past_list _ _ c.deref-element-items.ensures.value c.loop-i.i c.loop-i-test.false)
    c.loop-i.invariant.is c.loop-i.invariant.few
