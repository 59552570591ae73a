use Rattle.std.proofs.Common.{◌≢◌, [], ◌∷◌, Ok, refl, ap, subst, ◌∙◌}
use Rattle.std.proofs.lemmas.List.{drop_all}
use Rattle.algebra.specs.Fraction.{ℚ}
use Rattle.polynomials.specs.Terms.{constant}
use Rattle.frac128.specs.FracMeaning.{fraction_of}
use Rattle.poly.specs.Seen.{terms_in, terms_each}
use Rattle.poly.specs.View.{term_of, terms_of}
use Rattle.loop_model.specs.Operations.{sum_at, IsFree}
use Rattle.loop_model.specs.Stops.{Forms}
use Rattle.counter_run.specs.Composition.{factors, product_operations, term_product, composition_onto, composition_operations}
use Rattle.counter_run.specs.OpenSums.{terms_so_far}
use Rattle.poly.proofs.Standing.{arities_over}
use Rattle.counter_run.specs.Costs.{image_length}
use Rattle.counter_run.proofs.Costs.{counts_none, counts_more, formed_length}
use Rattle.counter_run.proofs.Combining.{composed, each_item, known_at}
use Rattle.loop_model.proofs.Items.{in_list, item_of, past_list}
use Rattle.counter_run.proofs.Compositions.{summing_from_more, read_at}
use Rattle.counter_run.proofs.combination.combine.Goals as goal

pub loop-term-init : goal.loop-term-init
loop-term-init c =
    let p = c.args.polynomial.now in
    let images = terms_each c.args.images.now.items in
    record {
      arity = c.zero-so_far.ensures.arity ∙ c.arity.ensures.arity;
      goes = λ r h.
          subst (λ s. Forms p.arity (composition_operations p.arity images s (terms_in p))
          (composition_onto p.arity images s (terms_in p)) r) c.zero-so_far.ensures.none h;
      known = c.requires.known;
      counts =
          counts_none (image_length p.arity images) (terms_in p) _ _ refl
          c.zero-so_far.ensures.came;
    }

pub with_term-requires-clause-nonzero : goal.with_term-requires-clause-nonzero
with_term-requires-clause-nonzero c =
    let p = c.args.polynomial.now in
    let value = c.deref-term-items.ensures.value ∙ ap (λ v. v.items) c.terms.ensures in
    each_item (term_of fraction_of) (λ t. t.1 ≢ ℚ.zero) p.terms.items c.loop-term.term-index
    c.term-item.result p.polynomial.nonzero
    (in_list p.terms.items c.deref-term-items.result.now value c.loop-term.term-index
    c.loop-term-test.true)
    (item_of p.terms.items c.deref-term-items.result.now value c.loop-term.term-index
    c.term-item.result c.term-item.is)

pub loop-term-preserved : goal.loop-term-preserved
loop-term-preserved c =
    let p = c.args.polynomial.now in
    let images = terms_each c.args.images.now.items in
    let order =
    ap (terms_of fraction_of)
    (read_at p.terms.items c.deref-term-items.result.now
    (c.deref-term-items.ensures.value ∙ ap (λ v. v.items) c.terms.ensures)
    c.loop-term.term-index c.term-item.result c.loop-term-test.true c.term-item.is) in
    let adds = c.in_ok-so_far.ensures.sum in
    let arity = c.loop-term.invariant.arity in
    let formed : Forms p.arity
    (product_operations (constant p.arity (fraction_of c.term-item.result.coef))
    (factors images c.term-item.result.mono))
    (term_product p.arity images (term_of fraction_of c.term-item.result)) (Ok adds.term) =
    subst (λ k. Forms k (product_operations (constant k (fraction_of c.term-item.result.coef))
    (factors images c.term-item.result.mono))
    (term_product k images (term_of fraction_of c.term-item.result)) (Ok adds.term))
    c.arity-in-loop-term.ensures.arity adds.formed in
    record {
      arity = adds.sum.arity ∙ arity;
      goes =
          summing_from_more p.arity images (terms_in p) (term_of fraction_of c.term-item.result) _ _
          order (terms_so_far c.loop-term.so_far) c.loop-term.invariant.goes adds.term formed
          (terms_so_far c.in_ok-so_far.so_far) adds.sum.same
          (subst (λ k. IsFree k (sum_at 0 (terms_so_far c.loop-term.so_far) (terms_in adds.term)
          ∷ [])) arity adds.sum.free);
      known =
          known_at c.arity-in-loop-term.result p.arity images _
          c.arity-in-loop-term.ensures.arity c.with_term.ensures.known;
      counts =
          counts_more (image_length p.arity images) (terms_in p)
          (term_of fraction_of c.term-item.result) _ _ c.loop-term.so_far.came _
          c.in_ok-so_far.so_far.came order c.loop-term.invariant.counts
          (formed_length p.arity images (term_of fraction_of c.term-item.result) adds.term
          (arities_over p.arity c.args.images.now.items c.requires.images) formed)
          adds.sum.came;
    }

pub returns-clause-combined : goal.returns-clause-combined
returns-clause-combined c =
    let p = c.args.polynomial.now in
    let past = past_list p.terms.items c.deref-term-items.result.now
    (c.deref-term-items.ensures.value ∙ ap (λ v. v.items) c.terms.ensures)
    c.loop-term.term-index c.loop-term-test.false in
    composed p.arity (terms_each c.args.images.now.items) (terms_in p) _ c.loop-term.so_far _
    (ap (terms_of fraction_of) (drop_all c.loop-term.term-index p.terms.items past))
    c.loop-term.invariant.arity c.loop-term.invariant.goes c.in_ok-collected.ensures
    c.loop-term.invariant.counts refl
