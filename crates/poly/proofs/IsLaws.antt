-- What `Is` says of results.
--   same_equal     equal lists are the same
--   is_of, is_from     a result with the terms of a list is what the list is
--   is_by          a result that is one polynomial is another that is the same, by all that is known of it; is_as: by its terms
use Rattle.std.proofs.Common.{◌≡◌, ℕ, Result, Ok, Err, sym, subst, ◌∙◌}
use Rattle.std.specs.Result.{IfOk}
use Rattle.std.specs.declared.cmp.PartialEq as PartialEq
use Rattle.algebra.specs.Arithmetic.{Arithmetic}
use Rattle.polynomials.specs.Terms.{Terms, Same}
use Rattle.polynomials.proofs.Same.{Same-refl}
use Rattle.ring_laws.specs.declared.Ring as Ring
use Rattle.monos.specs.declared.order.Order as Order
use Rattle.poly.specs.declared.Poly.{Poly}
use Rattle.poly.specs.Seen.{Is, terms_in}

pub same_equal : {A : Type 0} (N : Arithmetic A) (p q : Terms A) → p ≡ q → Same N p q
same_equal N p q e = subst (Same N p) e (Same-refl N p)

module _ {K O : Type 0} {g : Ring.Ghosts K} {h : PartialEq.Ghosts K} {k : Order.Ghosts O}
    {l : PartialEq.Ghosts O} {E : Type 0} where
  pub is_by : (r : Result (Poly K O g h k l) E) (o o' : O) (m m' : ℕ) (ts us : Terms g.scalars.Elem)
      → o ≡ o' → m ≡ m'
      → ((p : Poly K O g h k l) → Is o m ts p → Same g.scalars.arithmetic (terms_in p) us)
      → IfOk r (Is o m ts) → IfOk r (Is o' m' us)
  is_by (Ok p) o o' m m' ts us e f s i = record {
    order = i.order ∙ e;
    arity = i.arity ∙ f;
    same = s p i;
  }
  is_by (Err x) o o' m m' ts us e f s i = tt

  pub is_as : (r : Result (Poly K O g h k l) E) (o o' : O) (m m' : ℕ) (ts us : Terms g.scalars.Elem)
      → o ≡ o' → m ≡ m'
      → ((p : Poly K O g h k l) → Same g.scalars.arithmetic (terms_in p) ts
      → Same g.scalars.arithmetic (terms_in p) us) → IfOk r (Is o m ts) → IfOk r (Is o' m' us)
  is_as r o o' m m' ts us e f s = is_by r o o' m m' ts us e f (λ p i. s p i.same)

  pub is_of : (r : Result (Poly K O g h k l) E) (o : O) (m : ℕ) (ts us : Terms g.scalars.Elem)
      → Same g.scalars.arithmetic ts us
      → IfOk r (λ p. p.order ≡ o) → IfOk r (λ p. p.arity ≡ m) → IfOk r (λ p. terms_in p ≡ ts)
      → IfOk r (Is o m us)
  is_of (Ok p) o m ts us s e f t = record {
    order = e;
    arity = f;
    same = subst (λ (q : Terms g.scalars.Elem). Same g.scalars.arithmetic q us) (sym t) s;
  }
  is_of (Err x) o m ts us s e f t = tt

  pub is_from : (r : Result (Poly K O g h k l) E) (o : O) (m : ℕ) (ts us : Terms g.scalars.Elem)
      → ((p : Poly K O g h k l) → terms_in p ≡ ts → Same g.scalars.arithmetic (terms_in p) us)
      → IfOk r (λ p. p.order ≡ o) → IfOk r (λ p. p.arity ≡ m) → IfOk r (λ p. terms_in p ≡ ts)
      → IfOk r (Is o m us)
  is_from (Ok p) o m ts us s e f t = record { order = e; arity = f; same = s p t }
  is_from (Err x) o m ts us s e f t = tt
