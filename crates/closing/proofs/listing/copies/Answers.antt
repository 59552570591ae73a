use Rattle.std.proofs.Common.{ap, subst, sym, ◌∙◌}
use Rattle.std.proofs.lemmas.List.Elements.{All-nil}
use Rattle.poly.specs.Seen.{terms_each}
use Rattle.ideal_ops.specs.Calls.{AreOver}
use Rattle.loop_model.specs.FracPoly.{FracPoly}
use Rattle.closing.proofs.Listed.{over_more, copies_more, copies_all}
use Rattle.closing.proofs.listing.copies.Goals as goal

pub loop-polynomial-init : goal.loop-polynomial-init
loop-polynomial-init c = record {
  terms = ap terms_each c.new-list.ensures.items;
  over = λ m a. subst (AreOver m) (sym c.new-list.ensures.items) (All-nil _);
}

pub loop-polynomial-preserved : goal.loop-polynomial-preserved
loop-polynomial-preserved c =
    let inv = c.loop-polynomial.invariant in
    record {
      terms =
          copies_more _ c.in_ok-copy.field-0 c.in_ok-push.ensures.items c.args.polynomials.now _
          c.loop-polynomial-test.true c.polynomial-item.is c.in_ok-copy.ensures.terms inv.terms;
      over = λ m a.
          over_more m _ c.in_ok-copy.field-0 (inv.over m a)
          (c.in_ok-copy.ensures.arity ∙ ap (λ (p : FracPoly). p.arity) c.polynomial-item.is ∙ a
          c.loop-polynomial.polynomial-index c.polynomial-item.result c.loop-polynomial-test.true)
          c.in_ok-push.ensures.items;
    }

pub returns-clause-terms : goal.returns-clause-terms
returns-clause-terms c =
    copies_all c.args.polynomials.now _ _ c.loop-polynomial-test.false
    c.loop-polynomial.invariant.terms

pub returns-clause-over : goal.returns-clause-over
returns-clause-over c = c.loop-polynomial.invariant.over
