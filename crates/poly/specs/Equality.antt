-- Whether two polynomials are equal.
--   same_term eq t u         the same exponents, and equal coefficients
--   same_polynomial p q      the same arity, and the same terms in the same places;  same_polynomial_equiv: it is an equivalence
use Rattle.std.specs.Prelude.{◌&&◌, Bool, nat_eq}
use Rattle.std.specs.Cmp.{IsEquivalence}
use Rattle.std.specs.Cmp.Lexicographic.{pointwise}
use Rattle.std.proofs.lemmas.Cmp.{and_equiv, on_equiv, lists_equiv, nat_eq_equiv, nat_list_eq_equiv}
use Rattle.std.specs.declared.cmp.PartialEq as PartialEq
use Rattle.ring_laws.specs.declared.Ring as Ring
use Rattle.monos.specs.declared.order.Order as Order
use Rattle.poly.specs.declared.Poly.{Poly}
use Rattle.poly.specs.declared.Term.{Term}

abbrev pub same_term : {K : Type 0} → (K → K → Bool) → Term K → Term K → Bool
same_term eq t u = pointwise nat_eq t.mono u.mono && eq t.coef u.coef

abbrev pub same_polynomial : {K O : Type 0} {g : Ring.Ghosts K} {h : PartialEq.Ghosts K}
    {k : Order.Ghosts O} {l : PartialEq.Ghosts O} → Poly K O g h k l → Poly K O g h k l → Bool
same_polynomial {h = h} p q = nat_eq p.arity q.arity && pointwise (same_term h.eq) p.terms.items
    q.terms.items

pub same_polynomial_equiv : {K O : Type 0} {g : Ring.Ghosts K} {h : PartialEq.Ghosts K}
    {k : Order.Ghosts O} {l : PartialEq.Ghosts O} → IsEquivalence h.eq
    → IsEquivalence (same_polynomial {K = K} {O = O} {g = g} {h = h} {k = k} {l = l})
same_polynomial_equiv e = and_equiv (on_equiv (λ p. p.arity) nat_eq_equiv)
    (on_equiv (λ p. p.terms.items)
    (lists_equiv (and_equiv (on_equiv (λ t. t.mono) nat_list_eq_equiv)
    (on_equiv (λ t. t.coef) e))))
