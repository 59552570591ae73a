use Rattle.std.proofs.Common.{◌≡◌, ◌≢◌, [], insert, refl, sym, ap, subst, ◌∙◌, arith}
use Rattle.std.specs.Option.{IfSome}
use Rattle.std.proofs.lemmas.List.{nil_from_length}
use Rattle.std.proofs.lemmas.List.Elements.{All-nil, All-pop}
use Rattle.machines.specs.Tidying.{put_by_lead}
use Rattle.poly.specs.Seen.{terms_in, terms_each}
use Rattle.divide.specs.Current.{AreDivisors}
use Rattle.divide.proofs.Divided.{pushed}
use Rattle.divide.proofs.Like.{divisors_along}
use Rattle.complete.proofs.Putting.{all_insert}
use Rattle.reduced_basis.proofs.Ordered.{put_all, all_put, none_put, last_put}
use Rattle.reduced_basis.proofs.sorting.by_lead.Goals as goal

pub loop-g-init : goal.loop-g-init
loop-g-init g c =
    let empty = sym c.in_ok-sorted.ensures.items in
    let all = terms_each c.args.list.items in
    let O = g.O.Order.order c.args.order in (
      c.requires.divisors,
      subst (AreDivisors c.args.order c.args.arity) empty (All-nil (λ h. (h.order ≡ c.args.order)
          × (h.arity ≡ c.args.arity) × (terms_in h ≢ []))),
      all_put O all ∙ ap (λ l. put_all O all (terms_each l)) empty,
    )

pub place_of-place-requires-clause-divisors : goal.place_of-place-requires-clause-divisors
place_of-place-requires-clause-divisors g c =
    let popped = All-pop (λ h. (h.order ≡ c.args.order) × (h.arity ≡ c.args.arity)
    × (terms_in h ≢ [])) c.loop-g.rest.items c.pop.new.self.items c.pop.result
    c.pop.ensures.items c.loop-g.invariant.0 in
    let last = subst (λ r. IfSome r (λ h. (h.order ≡ c.args.order) × (h.arity ≡ c.args.arity)
    × (terms_in h ≢ []))) c.in-Some.is popped.1 in
    divisors_along c.args.order c.args.order c.args.arity c.in-Some.g.arity c.deref.result.now refl
    (sym last.1) (subst (AreDivisors c.args.order c.args.arity) (sym c.deref.ensures.value)
    c.loop-g.invariant.1)

pub place_of-place-requires-clause-nonzero : goal.place_of-place-requires-clause-nonzero
place_of-place-requires-clause-nonzero g c =
    let popped = All-pop (λ h. (h.order ≡ c.args.order) × (h.arity ≡ c.args.arity)
    × (terms_in h ≢ [])) c.loop-g.rest.items c.pop.new.self.items c.pop.result
    c.pop.ensures.items c.loop-g.invariant.0 in
    let last = subst (λ r. IfSome r (λ h. (h.order ≡ c.args.order) × (h.arity ≡ c.args.arity)
    × (terms_in h ≢ []))) c.in-Some.is popped.1 in
    last.2

pub loop-g-preserved : goal.loop-g-preserved
loop-g-preserved g c =
    let O = g.O.Order.order c.args.order in
    let h = c.in-Some.g in
    let rest = c.pop.new.self.items in
    let sorted = c.loop-g.sorted.items in
    let popped = All-pop (λ h. (h.order ≡ c.args.order) × (h.arity ≡ c.args.arity)
    × (terms_in h ≢ [])) c.loop-g.rest.items rest c.pop.result c.pop.ensures.items
    c.loop-g.invariant.0 in
    let last = subst (λ r. IfSome r (λ h. (h.order ≡ c.args.order) × (h.arity ≡ c.args.arity)
    × (terms_in h ≢ []))) c.in-Some.is popped.1 in
    let placed = subst (λ l. put_by_lead O (terms_in h) (terms_each l)
    ≡ terms_each (insert l c.place_of-place.result h)) c.deref.ensures.value
    c.place_of-place.ensures.place in (
      popped.0,
      subst (AreDivisors c.args.order c.args.arity) (sym c.in_ok-insert.ensures.items)
          (all_insert (λ h. (h.order ≡ c.args.order) × (h.arity ≡ c.args.arity) × (terms_in h ≢ []))
          sorted c.place_of-place.result h c.loop-g.invariant.1 last),
      c.loop-g.invariant.2
          ∙ ap (λ l. put_all O l (terms_each sorted)) (pushed terms_in rest c.loop-g.rest.items h
          c.in-Some.ensures.items)
          ∙ last_put O (terms_each rest) (terms_each sorted) (terms_in h)
          ∙ ap (put_all O (terms_each rest)) (placed
          ∙ ap terms_each (sym c.in_ok-insert.ensures.items)),
    )

pub returns-clause-sorted : goal.returns-clause-sorted
returns-clause-sorted g c =
    let O = g.O.Order.order c.args.order in
    let same = c.loop-g.rest.ok in
    let zero = c.in_default.ensures.cases.0 in
    let none : c.loop-g.rest.items ≡ [] = nil_from_length c.loop-g.rest.items
    (omega (arith, same, zero)) in
    sym (c.loop-g.invariant.2 ∙ none_put O (terms_each c.loop-g.rest.items)
    (terms_each c.loop-g.sorted.items) (ap terms_each none))
