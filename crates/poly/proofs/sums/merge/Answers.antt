use Rattle.std.proofs.Common.{◌≡◌, [], ◌∷◌, length, arith, sym, ap, ◌∙◌, ◌⊎◌, inl, inr, refl}
use Rattle.std.proofs.lemmas.List.{map-append, length_push}
use Rattle.poly.specs.View.{term_of, terms_of}
use Rattle.poly.proofs.Peeked.{taken, taken_rest, pushed}
use Rattle.poly.proofs.Shifting.{takes_as}
use Rattle.poly.proofs.Merging.{Merged, begin_at, heads_same, step_greater, step_less, step_equal, finish, heads_past, heads_shared}
use Rattle.poly.proofs.sums.merge.Given.{Over}
use Rattle.poly.proofs.sums.merge.Goals as goal
use Rattle.poly.proofs.sums.merge.Goals.{In_ok-put_rest-2, in-Some-peek+in_default-peek-2, in_default-peek}

pub loop-x-init : goal.loop-x-init
loop-x-init g c =
    let none : length c.in_ok-terms.terms.items ≡ 0 = ap length c.in_ok-terms.ensures.items in
    let room = c.in_ok-terms.ensures.capacity in
    let sum = c.in-Some.ensures.1 in
    let lefts = c.count.ensures in
    let rights = c.count-2.ensures in (
      begin_at _ g.met.K.Ring.ring _ (g.met.O.Order.is_order c.args.order) _ _ _ _
          (ap (terms_of g.K.Ring.meaning) c.in_ok-terms.ensures.items) c.requires.left
          c.requires.right,
      omega (arith, none, room, sum, lefts, rights),
    )

pub compare-requires : goal.compare-requires
compare-requires g c =
    let k = terms_of g.K.Ring.meaning in
    heads_same _ g.met.K.Ring.ring _ _ _ _ _ _ _ _ _ _ _ _ (ap k c.in-Some-peek.ensures.some)
    (ap k c.in-Some-peek-2.ensures.some) c.loop-x.invariant.0

pub loop-x-preserved-in-Greater : goal.loop-x-preserved-in-Greater
loop-x-preserved-in-Greater g c =
    let k = terms_of g.K.Ring.meaning in
    let t = term_of g.K.Ring.meaning in
    let fits = c.loop-x.invariant.1 in
    let less = ap length c.in_ok-take-in-Greater.ensures.ok in
    let count = ap length c.push_reserved.ensures.items ∙ length_push _ _ in
    let room = c.push_reserved.ensures.capacity in (
      step_greater _ g.met.K.Ring.ring _ _ _ _ _ _ _ _ _ _ _ _ _
          (ap k (taken_rest _ _ _ _ _ c.in-Some-peek.ensures.some
          c.in_ok-take-in-Greater.ensures.ok)) (ap k c.in-Some-peek-2.ensures.some)
          (pushed t _ _ _ _ c.push_reserved.ensures.items
          (ap t (taken _ _ _ _ _ c.in-Some-peek.ensures.some c.in_ok-take-in-Greater.ensures.ok)))
          (sym c.compare.ensures ∙ c.in-Greater.is) c.loop-x.invariant.0,
      omega (arith, fits, less, count, room),
    )

pub loop-x-preserved-in-Less : goal.loop-x-preserved-in-Less
loop-x-preserved-in-Less g c =
    let k = terms_of g.K.Ring.meaning in
    let t = term_of g.K.Ring.meaning in
    let fits = c.loop-x.invariant.1 in
    let less = ap length c.in_ok-take-in-Less.ensures.ok in
    let count = ap length c.push_reserved-in-Less.ensures.items ∙ length_push _ _ in
    let room = c.push_reserved-in-Less.ensures.capacity in (
      step_less _ g.met.K.Ring.ring _ _ _ _ _ _ _ _ _ _ _ _ _
          (ap k c.in-Some-peek.ensures.some)
          (ap k (taken_rest _ _ _ _ _ c.in-Some-peek-2.ensures.some
          c.in_ok-take-in-Less.ensures.ok))
          (pushed t _ _ _ _ c.push_reserved-in-Less.ensures.items
          (ap t (taken _ _ _ _ _ c.in-Some-peek-2.ensures.some c.in_ok-take-in-Less.ensures.ok)))
          (sym c.compare.ensures ∙ c.in-Less.is) c.loop-x.invariant.0,
      omega (arith, fits, less, count, room),
    )

pub loop-x-preserved : goal.loop-x-preserved
loop-x-preserved g c =
    let k = terms_of g.K.Ring.meaning in
    let is = taken _ _ _ _ _ c.in-Some-peek.ensures.some c.in_ok-mono-in-Equal.ensures.ok in
    let fits = c.loop-x.invariant.1 in
    let less = ap length c.in_ok-mono-in-Equal.ensures.ok in
    let rest = c.in-Some-peek-2.ensures.some
    ∙ ap (λ ts. c.in-Some-peek-2.y.now ∷ ts) (sym c.skip.ensures) in
    let other = ap length rest in
    let count = c.put_nonzero.ensures.count in
    let room = c.put_nonzero.ensures.room in (
      step_equal _ g.met.K.Ring.ring _ _ _ _ _ _ _ _ _ _ _ _ _
          (ap k (taken_rest _ _ _ _ _ c.in-Some-peek.ensures.some
          c.in_ok-mono-in-Equal.ensures.ok)) (ap k rest)
          (takes_as g.K.Ring.scalars _ _ _ _ _ _ (ap (λ u. u.mono) is)
          c.in_ok-coef-in-Equal.ensures.ok c.put_nonzero.ensures.term)
          (sym c.compare.ensures ∙ c.in-Equal.is) c.loop-x.invariant.0,
      omega (arith, fits, less, other, count, room),
    )

merged : (g : Over) (c : In_ok-put_rest-2 g)
    → Merged g.K.Ring.scalars g.met.K.Ring.ring (g.O.Order.order c.args.order)
    (g.met.O.Order.is_order c.args.order) c.args.arity
    (terms_of g.K.Ring.meaning (g.L.Source.items c.args.left))
    (terms_of g.K.Ring.meaning (g.R.Source.items c.args.right))
    (terms_of g.K.Ring.meaning c.put_rest-2.new.out.items)
merged g c =
    let t = term_of g.K.Ring.meaning in
    let k = terms_of g.K.Ring.meaning in
    let over : (k (g.L.Source.items c.loop-x.lefts) ≡ [])
    ⊎ (k (g.R.Source.items c.loop-x.rights) ≡ []) =
    elim c.match-peek.branch [
      | in-Some-peek+in_default-peek-2 w
          ↦ inr (ap k (w.in_default-peek-2.ensures.none refl))
      | in_default-peek w
          ↦ inl (ap k (w.in_default-peek.ensures.none refl))
    ] in
    finish _ g.met.K.Ring.ring _ _ _ _ _ _ _ _ _ _ (ap k c.in_ok-put_rest.ensures.ok
    ∙ map-append t _ _) (ap k c.in_ok-put_rest-2.ensures.ok ∙ map-append t _ _) over
    c.loop-x.invariant.0

pub invariant_of-result : goal.invariant_of-result
invariant_of-result g c = record { few = c.requires.few; polynomial = (merged g c).is }

pub returns-clause-sum : goal.returns-clause-sum
returns-clause-sum g c = record {
  order = refl;
  arity = refl;
  same = (merged g (goal.at.returns-clause-sum g c).In_ok-put_rest-2).sum;
}

pub returns-in_err-coef-in-Equal-clause-wide : goal.returns-in_err-coef-in-Equal-clause-wide
returns-in_err-coef-in-Equal-clause-wide g c =
    let k = terms_of g.K.Ring.meaning in
    λ _. heads_past _ g.met.K.Ring.ring _ _ _ g.met.K.Ring.bounded _ _ _ _ _ _ _ _ _
    (ap k c.in-Some-peek.ensures.some) (ap k c.in-Some-peek-2.ensures.some) c.loop-x.invariant.0
    (c.in_err-coef-in-Equal.ensures.wide refl)

pub returns-in_err-coef-in-Equal-clause-shared : goal.returns-in_err-coef-in-Equal-clause-shared
returns-in_err-coef-in-Equal-clause-shared g c =
    let k = terms_of g.K.Ring.meaning in
    λ _. heads_shared _ g.met.K.Ring.ring _ _ _ _ _ _ _ _ _ _ _ _ (ap k c.in-Some-peek.ensures.some)
    (ap k c.in-Some-peek-2.ensures.some) (sym c.compare.ensures ∙ c.in-Equal.is)
    c.loop-x.invariant.0
