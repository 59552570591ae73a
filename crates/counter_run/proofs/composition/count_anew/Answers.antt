use Rattle.std.proofs.Common.{◌≡◌, [], rules, refl, ap, subst, ◌∙◌}
use Rattle.std.proofs.lemmas.List.{drop_all}
use Rattle.frac128.specs.FracMeaning.{fraction_of}
use Rattle.poly.specs.Seen.{terms_in, terms_each}
use Rattle.poly.specs.View.{term_of, terms_of}
use Rattle.poly.proofs.Standing.{arities_over}
use Rattle.loop_model.proofs.Items.{past_list}
use Rattle.loop_model.specs.Stops.{Forms}
use Rattle.counter_run.specs.Composition.{composition_onto, composition_operations}
use Rattle.counter_run.specs.Costs.{image_length}
use Rattle.counter_run.proofs.Costs.{counts_none, counts_more, counts_all, formed_length_at, stopped_on}
use Rattle.counter_run.proofs.Compositions.{summing_arity, summing_more, summing_sum_stop, summing_product_stop, summing_all, read_at}
use Rattle.counter_run.proofs.composition.count_anew.Goals as goal

pub loop-term-init : goal.loop-term-init
loop-term-init c =
    let p = c.args.polynomial.now in
    let images = terms_each c.args.images.now.items in
    let none : terms_in c.zero-total.result ≡ [] = search rules in
    record {
      arity = search rules;
      goes = λ r h.
          subst (λ s. Forms p.arity (composition_operations p.arity images s (terms_in p))
          (composition_onto p.arity images s (terms_in p)) r) none h;
      counts = counts_none (image_length p.arity images) (terms_in p) _ _ refl refl;
    }

pub returns-in_err-next : goal.returns-in_err-next
returns-in_err-next c =
    let p = c.args.polynomial.now in
    let order =
    ap (terms_of fraction_of)
    (read_at p.terms.items c.deref-term-items.result.now
    (c.deref-term-items.ensures.value ∙ ap (λ v. v.items) c.terms.ensures)
    c.loop-term.term-index c.term-item.result c.loop-term-test.true c.term-item.is) in
    stopped_on p.arity (terms_each c.args.images.now.items) (terms_in p) c.in_err-next.field-0.0
    c.from_residual.result c.from_residual.ensures.1
    (summing_product_stop p.arity (terms_each c.args.images.now.items) (terms_in p)
    (term_of fraction_of c.term-item.result) _ _ order c.loop-term.total
    c.loop-term.invariant.arity c.loop-term.invariant.goes
    c.arity-in-loop-term.result c.arity-in-loop-term.ensures.arity (terms_each c.deref.result.now)
    (ap terms_each c.deref.ensures.value) c.in_err-next.field-0.0 c.in_err-next.ensures)

pub returns-in_err-total : goal.returns-in_err-total
returns-in_err-total c =
    let p = c.args.polynomial.now in
    let order =
    ap (terms_of fraction_of)
    (read_at p.terms.items c.deref-term-items.result.now
    (c.deref-term-items.ensures.value ∙ ap (λ v. v.items) c.terms.ensures)
    c.loop-term.term-index c.term-item.result c.loop-term-test.true c.term-item.is) in
    stopped_on p.arity (terms_each c.args.images.now.items) (terms_in p) c.in_err-total.field-0.0
    c.from_residual-in_err-total.result
    c.from_residual-in_err-total.ensures.1
    (summing_sum_stop p.arity (terms_each c.args.images.now.items) (terms_in p)
    (term_of fraction_of c.term-item.result) _ _ order c.loop-term.total
    c.loop-term.invariant.arity c.loop-term.invariant.goes
    c.arity-in-loop-term.result c.arity-in-loop-term.ensures.arity (terms_each c.deref.result.now)
    (ap terms_each c.deref.ensures.value) c.in_ok-next.next c.in_ok-next.ensures
    c.in_err-total.field-0.0 c.in_err-total.ensures)

pub loop-term-preserved : goal.loop-term-preserved
loop-term-preserved c =
    let p = c.args.polynomial.now in
    let order =
    ap (terms_of fraction_of)
    (read_at p.terms.items c.deref-term-items.result.now
    (c.deref-term-items.ensures.value ∙ ap (λ v. v.items) c.terms.ensures)
    c.loop-term.term-index c.term-item.result c.loop-term-test.true c.term-item.is) in
    record {
      arity =
          summing_arity p.arity (terms_each c.args.images.now.items) (terms_in p)
          (term_of fraction_of c.term-item.result) _ _ order c.loop-term.total
          c.loop-term.invariant.arity c.loop-term.invariant.goes
          c.arity-in-loop-term.result c.arity-in-loop-term.ensures.arity
          (terms_each c.deref.result.now)
          (ap terms_each c.deref.ensures.value) c.in_ok-next.next c.in_ok-total.total
          c.in_ok-total.ensures;
      goes =
          summing_more p.arity (terms_each c.args.images.now.items) (terms_in p)
          (term_of fraction_of c.term-item.result) _ _ order c.loop-term.total
          c.loop-term.invariant.arity c.loop-term.invariant.goes
          c.arity-in-loop-term.result c.arity-in-loop-term.ensures.arity
          (terms_each c.deref.result.now)
          (ap terms_each c.deref.ensures.value) c.in_ok-next.next c.in_ok-next.ensures
          c.in_ok-total.total c.in_ok-total.ensures;
      counts =
          counts_more (image_length p.arity (terms_each c.args.images.now.items)) (terms_in p)
          (term_of fraction_of c.term-item.result) _ _ c.loop-term.cost _
          c.with_terms_of-cost.result order c.loop-term.invariant.counts
          (formed_length_at p.arity c.arity-in-loop-term.result
          c.arity-in-loop-term.ensures.arity (terms_each c.deref.result.now)
          (terms_each c.args.images.now.items)
          (ap terms_each c.deref.ensures.value) (term_of fraction_of c.term-item.result)
          c.in_ok-next.next (arities_over p.arity c.args.images.now.items c.requires.images)
          c.in_ok-next.ensures) c.with_terms_of-cost.ensures;
    }

pub returns : goal.returns
returns c =
    let p = c.args.polynomial.now in
    let past = past_list p.terms.items c.deref-term-items.result.now
    (c.deref-term-items.ensures.value ∙ ap (λ v. v.items) c.terms.ensures)
    c.loop-term.term-index c.loop-term-test.false in
    let none = ap (terms_of fraction_of) (drop_all c.loop-term.term-index p.terms.items past) in (
      summing_all p.arity (terms_each c.args.images.now.items) (terms_in p) _ c.loop-term.total none
          c.loop-term.invariant.arity c.loop-term.invariant.goes,
      counts_all (image_length p.arity (terms_each c.args.images.now.items)) (terms_in p) _
          c.loop-term.cost none c.loop-term.invariant.counts,
    )
