use Rattle.std.proofs.Common.{◌≡◌, ◌<◌, [], length, drop, get_or, sym, ap, subst, ◌∙◌, arith}
use Rattle.std.proofs.lemmas.List.{length-map, take_rest}
use Rattle.algebra.specs.Scalars.{field}
use Rattle.machines.specs.Cut.{tail_of, find_cut}
use Rattle.machines.specs.Tidying.{others}
use Rattle.poly.specs.Seen.{terms_in, terms_each}
use Rattle.poly.specs.View.{term_of, terms_of}
use Rattle.divide.proofs.OneCut.{along, leads_long}
use Rattle.complete.proofs.Drawn.{got}
use Rattle.reduced_basis.proofs.Behind.{tail_seen, tail_long, tail_at, tail_next, tail_end}
use Rattle.reduced_basis.proofs.tails.first_tail.Goals as goal

pub divided_term-requires : goal.divided_term-requires
divided_term-requires g c =
    let S = g.K.Ring.scalars in
    let list = c.args.list.now in
    let f = c.index-list-element.result in
    let items = c.deref.ensures.value ∙ ap (λ v. v.items) c.terms-terms.ensures in
    let one = subst (λ q. (q.order ≡ c.args.order) × (q.arity ≡ c.args.arity)
    × (terms_in q ≡ [] → ⊥)) (sym c.index-list-element.is)
    (c.requires.divisors c.loop-element.element f c.loop-element-test.true) in
    let long = leads_long terms_in c.args.arity list c.args.leads.now c.requires.leads
    (λ k d l. let each = c.requires.divisors k d l in (
      each.2,
      (along S g.O.Order.order _ _ _ _ _ each.0 each.1
          (get_or list k d).polynomial).arity,
    )) in
    tail_long (term_of g.K.Ring.meaning) c.args.arity f.terms.items _ c.args.leads.now
    (take_rest c.deref.result.now 1 ∙ ap (drop 1) items)
    (along S g.O.Order.order _ _ _ _ _ one.0 one.1 f.polynomial).arity long

pub returns-in-Some : goal.returns-in-Some
returns-in-Some g c =
    let S = g.K.Ring.scalars in
    let list = c.args.list.now in
    let gs = terms_each list in
    let at = c.loop-element.element in
    let f = c.index-list-element.result in
    let items = c.deref.ensures.value ∙ ap (λ v. v.items) c.terms-terms.ensures in
    let seen = ap (terms_of g.K.Ring.meaning) (take_rest c.deref.result.now 1 ∙ ap (drop 1) items)
    ∙ tail_seen (term_of g.K.Ring.meaning) f.terms.items
    ∙ ap tail_of (sym (got terms_in list at f c.loop-element-test.true c.index-list-element.is))
    in
    let within : at < length gs = subst (λ n. at < n) (sym (length-map list terms_in))
    c.loop-element-test.true in
    tail_at S gs c.args.from at c.in-Some.place.term c.in-Some.place.divisor _ seen within
    (c.in-Some.ensures gs c.requires.leads) c.loop-element.invariant

pub loop-element-preserved : goal.loop-element-preserved
loop-element-preserved g c =
    let S = g.K.Ring.scalars in
    let list = c.args.list.now in
    let gs = terms_each list in
    let at = c.loop-element.element in
    let f = c.index-list-element.result in
    let items = c.deref.ensures.value ∙ ap (λ v. v.items) c.terms-terms.ensures in
    let seen = ap (terms_of g.K.Ring.meaning) (take_rest c.deref.result.now 1 ∙ ap (drop 1) items)
    ∙ tail_seen (term_of g.K.Ring.meaning) f.terms.items
    ∙ ap tail_of (sym (got terms_in list at f c.loop-element-test.true c.index-list-element.is))
    in
    let within : at < length gs = subst (λ n. at < n) (sym (length-map list terms_in))
    c.loop-element-test.true in
    c.loop-element.invariant
    ∙ tail_next S gs at within (ap (find_cut (field S) (others at) gs) (sym seen)
    ∙ c.in_default.ensures gs c.requires.leads)

pub returns : goal.returns
returns g c =
    let list = c.args.list.now in
    let size = length-map list terms_in in
    let out = c.loop-element-test.false in
    c.loop-element.invariant ∙ tail_end g.K.Ring.scalars (terms_each list) c.loop-element.element
    (omega (arith, size, out))
