use Rattle.std.proofs.Common.{◌≡◌, true, false, sym, subst}
use Rattle.std.specs.List.{slice_get}
use Rattle.std.specs.Option.{IsSomeAnd}
use Rattle.polynomials.specs.Terms.{Same}
use Rattle.poly.specs.declared.Term.{Term}
use Rattle.poly.specs.View.{term_of, terms_of}
use Rattle.poly.proofs.Single.{few_polynomial, few_zero}
use Rattle.poly.proofs.build.at_most_one.Goals as goal

pub returns-then-begins_with_zero : goal.returns-then-begins_with_zero
returns-then-begins_with_zero g c =
    let zero = subst (λ xs. IsSomeAnd (slice_get xs 0) (λ (t : Term g.row.K.Denot).
    g.K.Ring.meaning t.coef ≡ g.K.Ring.scalars.zero)) c.deref.ensures.value
    (c.begins_with_zero.ensures.0 c.if-begins_with_zero.true) in
    record {
      order = c.zero.ensures.order;
      arity = c.zero.ensures.arity;
      same = subst (λ ts. Same g.K.Ring.scalars.arithmetic ts
          (terms_of g.K.Ring.meaning c.args.terms.items)) (sym c.zero.ensures.terms)
          (few_zero g.K.Ring.scalars g.met.K.Ring.ring (g.O.Order.order c.args.order) c.args.arity
          (term_of g.K.Ring.meaning) c.args.terms.items c.requires.one zero);
    }

pub invariant_of-result : goal.invariant_of-result
invariant_of-result g c = record {
  few = c.requires.few;
  polynomial = few_polynomial g.K.Ring.scalars g.met.K.Ring.ring (g.O.Order.order c.args.order)
      c.args.arity (term_of g.K.Ring.meaning) c.args.terms.items c.requires.one c.requires.arities
      (λ z. let e : c.begins_with_zero.result ≡ true =
      c.begins_with_zero.ensures.1
      (subst (λ xs. IsSomeAnd (slice_get xs 0) (λ (t : Term g.row.K.Denot).
      g.K.Ring.meaning t.coef ≡ g.K.Ring.scalars.zero)) (sym c.deref.ensures.value)
      z) in
      let f : c.begins_with_zero.result ≡ false = c.if-begins_with_zero.false in cc);
}
