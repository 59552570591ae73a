use Rattle.std.proofs.Common.{◌≡◌, ◌≤◌, ◌+◌, ◌++◌, length, sym, ap, subst, ◌∙◌, arith}
use Rattle.std.proofs.lemmas.List.{length-append}
use Rattle.std.proofs.lemmas.List.Elements.{All-weaker}
use Rattle.polynomials.specs.Polynomial.{Arity, IsDistinct}
use Rattle.polynomials.specs.Terms.{retold}
use Rattle.polynomials.proofs.Distinct.{distinct_falls}
use Rattle.poly.specs.declared.Term.{Term}
use Rattle.poly.specs.View.{terms_of}
use Rattle.poly.proofs.Retelling.{arity-retold, behind_distinct}
use Rattle.poly.proofs.Steps.{all_arity}
use Rattle.poly.proofs.Poly.behind.Goals as goal

pub terms_behind-requires : goal.terms_behind-requires
terms_behind-requires g c = rw c.deref.ensures.value (All-weaker (λ (t : Term g.row.K.Denot).
    length t.mono ≡ c.args.self.now.arity) (λ t. length c.args.front.now + length t.mono ≤ 4096)
    (λ t e. (let r = c.requires in omega (arith, e, r))) c.args.self.now.terms.items
    (all_arity g.K.Ring.meaning _ c.args.self.now.terms.items c.args.self.now.polynomial.arity))

pub sum_of_distinct-requires-clause-arities : goal.sum_of_distinct-requires-clause-arities
sum_of_distinct-requires-clause-arities g c =
    let front = c.args.front.now in
    let m = c.args.self.now.arity in
    let k = terms_of g.K.Ring.meaning in
    let seen = c.in_ok-terms.ensures.ok ∙ ap (λ ts. retold (λ e. front ++ e) (k ts))
    c.deref.ensures.value in
    let long = arity-retold (λ e. front ++ e) m (c.arity.result + m) (λ e l.
    (let s = length-append front e in let a = c.arity.ensures.arity in
    omega (arith, l, s, a))) (k c.args.self.now.terms.items)
    c.args.self.now.polynomial.arity in
    all_arity g.K.Ring.meaning (c.arity.result + m) _ (subst (Arity (c.arity.result + m)) (sym seen)
    long)

pub sum_of_distinct-requires-clause-distinct : goal.sum_of_distinct-requires-clause-distinct
sum_of_distinct-requires-clause-distinct g c =
    let front = c.args.front.now in
    let k = terms_of g.K.Ring.meaning in
    let seen = c.in_ok-terms.ensures.ok ∙ ap (λ ts. retold (λ e. front ++ e) (k ts))
    c.deref.ensures.value in
    subst IsDistinct (sym seen) (behind_distinct front (k c.args.self.now.terms.items)
    (distinct_falls _ (g.met.O.Order.is_order c.args.self.now.order) _
    c.args.self.now.polynomial.falls))
