-- What `==` tells of lists of terms.
--   equal_terms     whether they are the same terms in the same places
--   equal_answer    the answer where the arities are equal
--   equal_polynomials, equal_same     whether two polynomials have the same arity and terms, and so whether they are the same
use Rattle.std.proofs.Common.{◌≡◌, ◌↔◌, ℕ, ◌&&◌, Bool, true, nat_eq, List, [], ◌∷◌, refl, sym, ap, ap₂, subst, ◌∙◌, true≢false}
use Rattle.std.specs.Cmp.Lexicographic.{pointwise, bytes_decides}
use Rattle.std.proofs.lemmas.Bool.{eqb-true, eq-eqb, and_parts}
use Rattle.std.specs.declared.cmp.PartialEq as PartialEq
use Rattle.algebra.specs.Ring.{IsRing, ring as ring_of}
use Rattle.polynomials.specs.Terms.{Same}
use Rattle.polynomials.specs.Order.{IsMonomialOrder}
use Rattle.polynomials.proofs.Same.{Same-refl}
use Rattle.polynomials.proofs.Canonical.{polynomial_unique}
use Rattle.ring_laws.specs.declared.Ring as Ring
use Rattle.monos.specs.declared.order.Order as Order
use Rattle.poly.specs.declared.Poly.{Poly}
use Rattle.poly.specs.declared.Term.{Term}
use Rattle.poly.specs.Equality.{same_term, same_polynomial}
use Rattle.poly.specs.Seen.{terms_in}
use Rattle.poly.specs.View.{term_of, terms_of}
use Rattle.poly.proofs.Kept.{polynomial_in}

module _ {K E : Type 0} (meaning : K → E) (eq : K → K → Bool) (decides : (x y : K)
    → meaning x ≡ meaning y → x ≡ y) (is : (x y : K) → (eq x y ≡ true) ↔ (x ≡ y)) where
  term_is : (t u : Term K) → (same_term eq t u ≡ true) ↔ (term_of meaning t ≡ term_of meaning u)
  term_is t u = (out, into)
    where
      out : same_term eq t u ≡ true → term_of meaning t ≡ term_of meaning u
      out e = let both = and_parts (pointwise nat_eq t.mono u.mono) (eq t.coef u.coef) e in
          λ i. ((bytes_decides t.mono u.mono).0 both.0 i, meaning ((is t.coef u.coef).0 both.1 i))

      into : term_of meaning t ≡ term_of meaning u → same_term eq t u ≡ true
      into e = ap₂ ◌&&◌ ((bytes_decides t.mono u.mono).1 (ap (λ (x : List ℕ × E). x.0) e))
          ((is t.coef u.coef).1 (decides t.coef u.coef (ap (λ (x : List ℕ × E). x.1) e)))

  cons_is : (x y : Term K) (xs ys : List (Term K)) → (pointwise (same_term eq) xs ys ≡ true)
      ↔ (terms_of meaning xs ≡ terms_of meaning ys)
      → (pointwise (same_term eq) (x ∷ xs) (y ∷ ys) ≡ true)
      ↔ (terms_of meaning (x ∷ xs) ≡ terms_of meaning (y ∷ ys))
  cons_is x y xs ys rest = (out, into)
    where
      out : pointwise (same_term eq) (x ∷ xs) (y ∷ ys) ≡ true → terms_of meaning (x ∷ xs)
          ≡ terms_of meaning (y ∷ ys)
      out e = let both = and_parts (same_term eq x y) (pointwise (same_term eq) xs ys) e in
          ap₂ ◌∷◌ ((term_is x y).0 both.0) (rest.0 both.1)

      into : terms_of meaning (x ∷ xs) ≡ terms_of meaning (y ∷ ys)
          → pointwise (same_term eq) (x ∷ xs) (y ∷ ys) ≡ true
      into e = let head : term_of meaning x ≡ term_of meaning y = cc in
          let tail : terms_of meaning xs ≡ terms_of meaning ys = cc in
          ap₂ ◌&&◌ ((term_is x y).1 head) (rest.1 tail)

  equal_terms : (xs ys : List (Term K)) → (pointwise (same_term eq) xs ys ≡ true)
      ↔ (terms_of meaning xs ≡ terms_of meaning ys)
  equal_terms [] [] = ((λ e. refl), (λ e. refl))
  equal_terms [] (y ∷ ys) = ((λ e. absurd (true≢false (sym e))), (λ e. absurd (cc)))
  equal_terms (x ∷ xs) [] = ((λ e. absurd (true≢false (sym e))), (λ e. absurd (cc)))
  equal_terms (x ∷ xs) (y ∷ ys) = cons_is x y xs ys (equal_terms xs ys)

module _ {K O : Type 0} {g : Ring.Ghosts K} {h : PartialEq.Ghosts K} {k : Order.Ghosts O}
    {l : PartialEq.Ghosts O}
    (decides : (x y : K) → g.meaning x ≡ g.meaning y → x ≡ y) (is : (x y : K) → (h.eq x y ≡ true)
    ↔ (x ≡ y)) (p q : Poly K O g h k l) where
  pub equal_answer : (b : Bool) → p.arity ≡ q.arity → b ≡ pointwise (same_term h.eq) p.terms.items
      q.terms.items → b ≡ same_polynomial p q
  equal_answer b arity e = e
      ∙ ap (λ (a : Bool). a && pointwise (same_term h.eq) p.terms.items q.terms.items)
      (sym (eq-eqb p.arity q.arity arity))

  pub equal_polynomials : (same_polynomial p q ≡ true)
      ↔ ((p.arity ≡ q.arity) × (terms_in p ≡ terms_in q))
  equal_polynomials = (
    (λ e. let both = and_parts (nat_eq p.arity q.arity) (pointwise (same_term h.eq) p.terms.items
        q.terms.items) e in (
          eqb-true p.arity q.arity both.0,
          (equal_terms g.meaning h.eq decides is p.terms.items q.terms.items).0 both.1,
        )),
    (λ e. ap₂ ◌&&◌ (eq-eqb p.arity q.arity e.0)
        ((equal_terms g.meaning h.eq decides is p.terms.items q.terms.items).1 e.1)),
  )

  pub equal_same : IsRing g.scalars.arithmetic → IsMonomialOrder (k.order p.order)
      → p.order ≡ q.order → p.arity ≡ q.arity → (same_polynomial p q ≡ true)
      ↔ Same g.scalars.arithmetic (terms_in p) (terms_in q)
  equal_same r law order arity = (
    (λ e. subst (Same g.scalars.arithmetic (terms_in p)) ((equal_polynomials.0 e).1)
        (Same-refl g.scalars.arithmetic (terms_in p))),
    (λ s. equal_polynomials.1 (
      arity,
      polynomial_unique (k.order p.order) law (ring_of g.scalars.arithmetic r) p.arity q.arity
          (terms_in p) (terms_in q) p.polynomial
          (polynomial_in g.scalars (k.order q.order) (k.order p.order) q.arity q.arity (terms_in q)
          (ap k.order (sym order)) refl q.polynomial) s,
    )),
  )
