use Rattle.std.proofs.Common.{◌≡◌, ◌≢◌, ◌<◌, [], take, length, get_or, refl, sym, ap, subst, ◌∙◌, arith}
use Rattle.std.proofs.lemmas.List.{length-map}
use Rattle.std.proofs.lemmas.Result.{err_from_is_err_and}
use Rattle.algebra.specs.Scalars.{field}
use Rattle.poly.specs.Seen.{terms_in, terms_each}
use Rattle.poly.specs.View.{terms_of}
use Rattle.machines.specs.Cut.{after_cut}
use Rattle.polynomials.specs.Polynomial.{IsPolynomial}
use Rattle.divide.specs.Current.{left_of, done_of}
use Rattle.divide.specs.Cutting.{FoundAt, cutting_of, term_at}
use Rattle.divide.proofs.OneCut.{seen_at, along, leads_long, after_any}
use Rattle.divide.proofs.Parts.{Moved, moved, found_behind, undivided_more}
use Rattle.divide.proofs.current.Current.next_cut.Given.{Over}
use Rattle.divide.proofs.current.Current.next_cut.Goals.{In-Some, After-index-list-place}
use Rattle.divide.proofs.current.Current.next_cut.Goals as goal

pub find-requires : goal.find-requires
find-requires g c = leads_long terms_in c.args.self.now.rest.arity c.args.list.now c.args.leads.now
    c.requires.leads
    (λ k d l. let one = c.requires.divisors k d l in (
      one.2,
      (along g.K.Ring.scalars g.O.Order.order _ _ _ _ _ one.0 one.1
          (get_or c.args.list.now k d).polynomial).arity,
    ))

pub returns-in_default-clause-ok : goal.returns-in_default-clause-ok
returns-in_default-clause-ok g c =
    let s = c.args.self.now in
    let gs = terms_each c.args.list.now in (
      found_behind g.K.Ring.scalars c.args.leads.now gs (done_of s) (terms_in s.rest)
          c.requires.leads c.requires.current.undivided
          ∙ c.in_default.ensures.found gs c.requires.leads,
      refl,
    )

-- ---- the place that is found, and its element
found : (g : Over) (c : In-Some g) → FoundAt g.K.Ring.scalars (terms_each c.args.list.now)
    (terms_in c.args.self.now.rest) c.in-Some.place.term c.in-Some.place.element
found g c = c.in-Some.ensures.found (terms_each c.args.list.now) c.requires.leads

inside : (g : Over) (c : In-Some g) → c.in-Some.place.element < length c.args.list.now
inside g c =
    let within = (found g c).element_in in
    let size = length-map c.args.list.now terms_in in
    omega (arith, within, size)

pub unreachable-requires : goal.unreachable-requires
unreachable-requires g c =
    let within = inside g (goal.at.unreachable-requires g c).In-Some in
    let few = c.requires.few in
    c.in_default-try_from.ensures (omega (arith, within, few))

pub finish-requires : goal.finish-requires
finish-requires g c =
    let within = (found g (goal.at.finish-requires g c).In-Some).term_in in
    omega (arith, within)

-- ---- the terms before it are done
finished : (g : Over) (c : After-index-list-place g)
    → Moved g.K.Ring.scalars (terms_each c.args.list.now) (done_of c.args.self.now)
    (terms_in c.args.self.now.rest) (done_of c.finish.new.self) (terms_in c.finish.new.self.rest)
    (terms_in c.index-list-place.result) c.in-Some.place.element
finished g c =
    let f = found g (goal.at.After-index-list-place g c).In-Some in
    moved g.K.Ring.scalars c.args.leads.now _ _ _ _ _ _ c.in-Some.place.term _ c.requires.leads
    c.requires.current.undivided f
    (seen_at terms_in c.args.list.now c.in-Some.place.element c.index-list-place.result []
    f.element_in c.index-list-place.is) c.in_ok-finish.ensures.done c.in_ok-finish.ensures.rest

pub cancel_first-requires : goal.cancel_first-requires
cancel_first-requires g c =
    let at = goal.at.cancel_first-requires g c in
    let s = c.args.self.now in
    let f = finished g at.After-index-list-place in
    let like = c.in_ok-finish.ensures.like in
    let one = subst (λ q. (q.order ≡ s.rest.order) × (q.arity ≡ s.rest.arity) × (terms_in q ≢ []))
    (sym c.index-list-place.is)
    (c.requires.divisors c.in-Some.place.element c.index-list-place.result (inside g at.In-Some)) in
    record {
      order = one.0 ∙ sym like.0;
      arity = one.1 ∙ sym like.1;
      nonzero = one.2;
      first = f.some;
      divided = f.divided;
      descending = along g.K.Ring.scalars g.O.Order.order _ _ _ _ _ (sym like.0) (sym like.1)
          (subst (IsPolynomial g.K.Ring.scalars.arithmetic (g.O.Order.order s.rest.order)
          s.rest.arity) (sym f.whole) c.requires.current.descending);
    }

pub returns-in_err-factor-clause-wide : goal.returns-in_err-factor-clause-wide
returns-in_err-factor-clause-wide g c =
    let at = (goal.at.returns-in_err-factor-clause-wide g c).After-index-list-place in
    let p = err_from_is_err_and c.from_residual-in_err-factor.result
    c.from_residual-in_err-factor.ensures.1 in
    λ w. (finished g at).past (c.in_err-factor.ensures.wide (cc (p.1, p.2, w)))

pub returns-clause-ok : goal.returns-clause-ok
returns-clause-ok g c =
    let S = g.K.Ring.scalars in
    let s = c.args.self.now in
    let t = c.finish.new.self in
    let e = c.index-list-place.result in
    let k = c.in-Some.place.element in
    let f = finished g (goal.at.returns-clause-ok g c).After-index-list-place in
    let cut = c.in_ok-factor.ensures.cutting in
    let first = term_at S (terms_in t.rest) 0 in
    let left = subst (λ o. left_of c.cancel_first.new.self
    ≡ after_cut (field S) (g.O.Order.order o) (left_of t) (cutting_of S 0 first (terms_in e)))
    c.in_ok-finish.ensures.like.0 cut.left_is in
    record {
      cutting = cutting_of S k first (terms_in e);
      found = f.found;
      element = c.in-Ok.ensures.1;
      by = cut.by_is;
      number = cut.number_is;
      left = left ∙ after_any S _ _ _ _ 0 k
          ∙ ap (λ q. after_cut (field S) (g.O.Order.order s.rest.order) q
          (cutting_of S k first (terms_in e))) f.whole;
    }

pub returns-clause-current : goal.returns-clause-current
returns-clause-current g c =
    let s = c.args.self.now in
    record {
      descending = c.in_ok-factor.ensures.descending;
      undivided = undivided_more c.args.leads.now (done_of s)
          (take c.in-Some.place.term (terms_in s.rest)) _
          (ap (λ v. terms_of g.K.Ring.meaning v.items) c.in_ok-factor.ensures.done
          ∙ c.in_ok-finish.ensures.done)
          c.requires.current.undivided c.in-Some.ensures.before;
    }

pub returns-clause-like : goal.returns-clause-like
returns-clause-like g c = (
  c.in_ok-factor.ensures.like.0 ∙ c.in_ok-finish.ensures.like.0,
  c.in_ok-factor.ensures.like.1 ∙ c.in_ok-finish.ensures.like.1,
)
