use Rattle.std.proofs.Common.{◌≡◌, ◌++◌, take, drop, sym, ap, subst, ◌∙◌, take-append-drop, arith}
use Rattle.std.proofs.lemmas.List.{append-nil, length-map, take-map, drop-map}
use Rattle.std.specs.Prelude.{vec_len}
use Rattle.polynomials.specs.Polynomial.{IsPolynomial}
use Rattle.poly.proofs.Raising.{polynomial_back}
use Rattle.poly.specs.Seen.{terms_in}
use Rattle.poly.specs.View.{term_of, terms_of}
use Rattle.divide.specs.Current.{done_of}
use Rattle.divide.proofs.OneCut.{along}
use Rattle.divide.proofs.Parts.{joined}
use Rattle.divide.proofs.current.Current.finish.Given.{Over}
use Rattle.divide.proofs.current.Current.finish.Goals.{After-into_terms-front, In_ok-back}
use Rattle.divide.proofs.current.Current.finish.Goals as goal

pub returns-then-count-eq0-clause-done : goal.returns-then-count-eq0-clause-done
returns-then-count-eq0-clause-done g c =
    sym (append-nil (done_of c.args.self.now))
    ∙ ap (λ n. done_of c.args.self.now ++ take n (terms_in c.args.self.now.rest))
    (sym c.if-count-eq0.true)

pub returns-then-count-eq0-clause-rest : goal.returns-then-count-eq0-clause-rest
returns-then-count-eq0-clause-rest g c =
    ap (λ n. drop n (terms_in c.args.self.now.rest)) (sym c.if-count-eq0.true)

-- the terms as they are taken out
out : (g : Over) (c : After-into_terms-front g)
    → c.into_terms-front.result ≡ c.args.self.now.rest.terms
out g c = c.into_terms-front.ensures ∙ ap (λ r. r.terms) c.replace.ensures.value

pub split_off-requires : goal.split_off-requires
split_off-requires g c =
    let terms = c.args.self.now.rest.terms in
    let whole =
    ap (λ v. vec_len v) (out g (goal.at.split_off-requires g c).After-into_terms-front) in
    let size = length-map terms.items (term_of g.K.Ring.meaning) in
    let same = terms.ok in
    let few = c.requires in
    omega (arith, whole, size, same, few)

-- those that stay
rest : (g : Over) (c : In_ok-back g) → terms_of g.K.Ring.meaning c.in_ok-back.back.items
    ≡ drop c.args.count (terms_in c.args.self.now.rest)
rest g c = ap (terms_of g.K.Ring.meaning) (c.in_ok-back.ensures.tail
    ∙ ap (λ v. drop c.args.count v.items) (out g (goal.at.In_ok-back g c).After-into_terms-front))
    ∙ sym (drop-map (term_of g.K.Ring.meaning) c.args.count c.args.self.now.rest.terms.items)

pub from_descending-requires-clause-descending : goal.from_descending-requires-clause-descending
from_descending-requires-clause-descending g c =
    let S = g.K.Ring.scalars in
    let s = c.args.self.now in
    let O = g.O.Order.order s.rest.order in
    let p = terms_in s.rest in
    let at = (goal.at.from_descending-requires-clause-descending g c).In_ok-back in
    let whole = subst (IsPolynomial S.arithmetic O s.rest.arity)
    (sym (take-append-drop c.args.count p))
    s.rest.polynomial in
    along S g.O.Order.order _ _ _ _ _ (sym c.order-order.ensures) (sym c.arity-arity.ensures.arity)
    (subst (IsPolynomial S.arithmetic O s.rest.arity) (sym (rest g at))
    (polynomial_back O S s.rest.arity (take c.args.count p) (drop c.args.count p) whole))

pub returns-clause-done : goal.returns-clause-done
returns-clause-done g c =
    let t = term_of g.K.Ring.meaning in
    let s = c.args.self.now in
    let at = (goal.at.returns-clause-done g c).In_ok-back in
    joined t s.done.items (take c.args.count s.rest.terms.items) _
    (c.in_ok-append.ensures.items ∙ ap (λ l. s.done.items ++ l) (c.in_ok-back.ensures.items
    ∙ ap (λ v. take c.args.count v.items)
    (out g (goal.at.In_ok-back g at).After-into_terms-front)))
    ∙ ap (λ l. done_of s ++ l) (sym (take-map t c.args.count s.rest.terms.items))

pub returns-clause-rest : goal.returns-clause-rest
returns-clause-rest g c =
    c.from_descending.ensures.terms ∙ rest g (goal.at.returns-clause-rest g c).In_ok-back
