use Rattle.std.proofs.Common.{refl, ◌≡◌, ◌<◌, ◌/◌, length, map, sym, ap, subst, ◌∙◌, arith, rules}
use Rattle.std.specs.List.{All}
use Rattle.std.proofs.lemmas.List.Elements.{All-drop}
use Rattle.std.proofs.lemmas.Result.{err_from_is_err_and}
use Rattle.polynomials.specs.Weight.{IsPastProduct}
use Rattle.polynomials.proofs.Past.{past_product_front, past_product_back, past_product_sum}
use Rattle.poly.specs.declared.Term.{Term}
use Rattle.poly.specs.View.{term_of}
use Rattle.poly.specs.Seen.{terms_in}
use Rattle.poly.proofs.IsLaws.{is_as}
use Rattle.algebra.proofs.Lists.{nil_from_length, one_from_length}
use Rattle.poly.proofs.Kept.{polynomial_in}
use Rattle.poly.proofs.Halves.{parts}
use Rattle.poly.proofs.Products.{product_none, product_one, product_halves}
use Rattle.poly.proofs.product.+product_of.Goals as goal

pub returns-in-empty-clause-product : goal.returns-in-empty-clause-product
returns-in-empty-clause-product g t c = record {
  order = c.zero.ensures.order;
  arity = c.zero.ensures.arity;
  same = product_none g.K.Ring.scalars _ _ _
      (ap (map (term_of g.K.Ring.meaning)) (nil_from_length _ c.in-empty.len_below))
      c.zero.ensures.terms;
}

pub returns-in-len1-clause-product : goal.returns-in-len1-clause-product
returns-in-len1-clause-product g t c =
    let one = one_from_length _ _ c.in-len1.len_at_least c.in-len1.len_below c.term-item.is in
    is_as c.term_product.result _ _ _ _ _ _ refl refl (λ p same.
    product_one g.K.Ring.scalars g.met.K.Ring.ring _ _ _ _ _
    (ap (map (term_of g.K.Ring.meaning)) one) same) c.term_product.ensures.product

pub returns-in-len1-clause-wide : goal.returns-in-len1-clause-wide
returns-in-len1-clause-wide g t c =
    let one = one_from_length _ _ c.in-len1.len_at_least c.in-len1.len_below c.term-item.is in
    λ w. subst (λ ts. IsPastProduct g.K.Ring.scalars ts (terms_in c.args.factor.now))
    (sym (ap (map (term_of g.K.Ring.meaning)) one)) (c.term_product.ensures.wide w)

pub product_of-requires-in_default : goal.product_of-requires-in_default
product_of-requires-in_default g t c κs within =
    let less : length c.split_at.result.1.now < length c.args.terms.now = omega arith in
    let all : All (λ (t : Term g.row.K.Denot). length t.mono ≡ c.args.factor.now.arity)
    c.split_at.result.1.now =
    rw c.split_at.ensures.back (All-drop (λ (t : Term g.row.K.Denot).
    length t.mono ≡ c.args.factor.now.arity) (length c.args.terms.now / 2) c.args.terms.now
    c.requires.arities) in
    search rules

pub returns-in_err-left-in_default-clause-wide : goal.returns-in_err-left-in_default-clause-wide
returns-in_err-left-in_default-clause-wide g t c =
    let p = err_from_is_err_and c.from_residual.result c.from_residual.ensures.1 in
    λ w. subst (λ ts. IsPastProduct g.K.Ring.scalars ts (terms_in c.args.factor.now))
    (parts (term_of g.K.Ring.meaning) _ _ _ c.split_at.ensures.front c.split_at.ensures.back)
    (past_product_front g.K.Ring.scalars g.met.K.Ring.ring g.met.K.Ring.bounded _ _ _
    (c.in_err-left-in_default.ensures.wide (cc (p.1, p.2))))

pub returns-in_err-right-in_default-clause-wide : goal.returns-in_err-right-in_default-clause-wide
returns-in_err-right-in_default-clause-wide g t c =
    let p = err_from_is_err_and c.from_residual-in_err-right-in_default.result
    c.from_residual-in_err-right-in_default.ensures.1 in
    λ w. subst (λ ts. IsPastProduct g.K.Ring.scalars ts (terms_in c.args.factor.now))
    (parts (term_of g.K.Ring.meaning) _ _ _ c.split_at.ensures.front c.split_at.ensures.back)
    (past_product_back g.K.Ring.scalars g.met.K.Ring.ring g.met.K.Ring.bounded _ _ _
    (c.in_err-right-in_default.ensures.wide (cc (p.1, p.2))))

pub returns-in_ok-right-in_default-clause-product :
    goal.returns-in_ok-right-in_default-clause-product
returns-in_ok-right-in_default-clause-product g t c =
    is_as c.plus.result _ _ _ _ _ _ c.in_ok-left-in_default.ensures.product.order
    c.in_ok-left-in_default.ensures.product.arity
    (λ p sum. product_halves g.K.Ring.scalars g.met.K.Ring.ring _ _ _ _ _ _ _
    (parts (term_of g.K.Ring.meaning) _ _ _ c.split_at.ensures.front c.split_at.ensures.back)
    c.in_ok-left-in_default.ensures.product.same c.in_ok-right-in_default.ensures.product.same sum)
    c.plus.ensures.sum

pub returns-in_ok-right-in_default-clause-wide : goal.returns-in_ok-right-in_default-clause-wide
returns-in_ok-right-in_default-clause-wide g t c =
    λ w. subst (λ ts. IsPastProduct g.K.Ring.scalars ts (terms_in c.args.factor.now))
    (parts (term_of g.K.Ring.meaning) _ _ _ c.split_at.ensures.front c.split_at.ensures.back)
    (past_product_sum g.K.Ring.scalars g.met.K.Ring.ring g.met.K.Ring.bounded _
    (g.met.O.Order.is_order c.args.factor.now.order) _ _ _ _ _ _
    (polynomial_in g.K.Ring.scalars _ _ _ _ _
    (ap g.O.Order.order c.in_ok-left-in_default.ensures.product.order)
    c.in_ok-left-in_default.ensures.product.arity c.in_ok-left-in_default.left.polynomial)
    (polynomial_in g.K.Ring.scalars _ _ _ _ _
    (ap g.O.Order.order c.in_ok-right-in_default.ensures.product.order)
    c.in_ok-right-in_default.ensures.product.arity c.in_ok-right-in_default.right.polynomial)
    c.in_ok-left-in_default.ensures.product.same c.in_ok-right-in_default.ensures.product.same
    (c.plus.ensures.wide w))

pub plus-requires : goal.plus-requires
plus-requires g t c =
    let left = c.in_ok-left-in_default.ensures.product in
    let right = c.in_ok-right-in_default.ensures.product in
    record { order = left.order ∙ sym right.order; arity = left.arity ∙ sym right.arity }
