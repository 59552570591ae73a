use Rattle.std.proofs.Common.{◌≡◌, ◌≤◌, ◌-◌, drop, length, sym, ap, subst, ◌∙◌, arith, length-drop}
use Rattle.std.proofs.lemmas.List.Elements.{All-weaker}
use Rattle.polynomials.specs.Polynomial.{Arity, IsDistinct}
use Rattle.polynomials.specs.Terms.{retold}
use Rattle.polynomials.proofs.Distinct.{distinct_falls}
use Rattle.poly.specs.declared.Term.{Term}
use Rattle.poly.specs.View.{terms_of}
use Rattle.poly.proofs.Retelling.{arity-retold, rest_distinct}
use Rattle.poly.proofs.Steps.{all_arity}
use Rattle.poly.proofs.Poly.without_first.Goals as goal

pub terms_without_first-requires : goal.terms_without_first-requires
terms_without_first-requires g c = rw c.deref.ensures.value (All-weaker (λ (t : Term g.row.K.Denot).
    length t.mono ≡ c.args.self.now.arity) (λ t. c.args.count ≤ length t.mono)
    (λ t e. (let r = c.requires.count in omega (arith, e, r))) c.args.self.now.terms.items
    (all_arity g.K.Ring.meaning _ c.args.self.now.terms.items c.args.self.now.polynomial.arity))

pub sum_of_distinct-requires-clause-arities : goal.sum_of_distinct-requires-clause-arities
sum_of_distinct-requires-clause-arities g c =
    let n = c.args.count in
    let m = c.args.self.now.arity in
    let k = terms_of g.K.Ring.meaning in
    let seen = c.in_ok-terms.ensures.ok ∙ ap (λ ts. retold (drop n) (k ts)) c.deref.ensures.value in
    let long = arity-retold (drop n) m (m - n) (λ e l.
    (let s = length-drop n e in omega (arith, l, s))) (k c.args.self.now.terms.items)
    c.args.self.now.polynomial.arity in
    all_arity g.K.Ring.meaning (m - n) _ (subst (Arity (m - n)) (sym seen) long)

pub sum_of_distinct-requires-clause-distinct : goal.sum_of_distinct-requires-clause-distinct
sum_of_distinct-requires-clause-distinct g c =
    let n = c.args.count in
    let k = terms_of g.K.Ring.meaning in
    let seen = c.in_ok-terms.ensures.ok ∙ ap (λ ts. retold (drop n) (k ts)) c.deref.ensures.value in
    subst IsDistinct (sym seen) (rest_distinct n (k c.args.self.now.terms.items)
    c.requires.free (distinct_falls _ (g.met.O.Order.is_order c.args.self.now.order) _
    c.args.self.now.polynomial.falls))
