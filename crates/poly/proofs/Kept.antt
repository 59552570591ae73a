-- Lists of terms in descending order, put together and taken apart.
--   Over O p q                   each term of p is above each of q
--   polynomial_nil               no terms are the polynomial 0
--   polynomial_one               a term that is not zero is a polynomial
--   polynomial_tail      what follows a term is a polynomial;  head_nonzero, head_arity: the term isn't zero, and has an exponent for each variable
--   polynomial_append            one polynomial over another
--   polynomial_in                in an equal order
use Rattle.algebra.specs.Each.{Each}
use Rattle.std.proofs.Common.{◌≡◌, ◌≢◌, ℕ, List, [], ◌∷◌, ◌++◌, length, sym, subst, Less}
use Rattle.polynomials.specs.Terms.{Terms}
use Rattle.polynomials.specs.Order.{Rank, IsMonomialOrder, compare}
use Rattle.polynomials.specs.Polynomial.{Below, Falls}
use Rattle.polynomials.proofs.Canonical.{Below-weaker}
use Rattle.algebra.proofs.Each.{each-append}
use Rattle.polynomials.proofs.Arity.{arity-append}
use Rattle.algebra.specs.Scalars.{Scalars}
use Rattle.polynomials.specs.Polynomial.{HasNoZero, IsPolynomial}

pub polynomial_in : (S : Scalars) (O O' : Rank) (m m' : ℕ) (p : Terms S.Elem) → O ≡ O' → m ≡ m'
    → IsPolynomial S.arithmetic O m p → IsPolynomial S.arithmetic O' m' p
polynomial_in S O O' m m' p e f h = subst (λ (k : ℕ). IsPolynomial S.arithmetic O' k p) f
    (subst (λ (W : Rank). IsPolynomial S.arithmetic W m p) e h)

module _ (O : Rank) where
  unfoldable pub Over : {A : Type 0} → Terms A → Terms A → Type 0
  Over [] q = Unit {0}
  Over (t ∷ p) q = Below O t.0 q × Over p q

  pub over-tail : {A : Type 0} (p : Terms A) (t : List ℕ × A) (q : Terms A) → Over p (t ∷ q)
      → Over p q
  unfolding Over Each
  over-tail [] t q o = tt
  over-tail (u ∷ p) t q o = (o.0.1, over-tail p t q o.1)

  pub over-head : {A : Type 0} (p : Terms A) (t : List ℕ × A) (q : Terms A) → Over p (t ∷ q)
      → Over p (t ∷ [])
  unfolding Over Each
  over-head [] t q o = tt
  over-head (u ∷ p) t q o = ((o.0.0, tt), over-head p t q o.1)

  -- the number of a term does not matter
  pub over-number : {A : Type 0} (p : Terms A) (e : List ℕ) (a b : A) → Over p ((e, a) ∷ [])
      → Over p ((e, b) ∷ [])
  unfolding Over Each
  over-number [] e a b o = tt
  over-number (u ∷ p) e a b o = ((o.0.0, tt), over-number p e a b o.1)

  pub over-push : {A : Type 0} (p : Terms A) (t : List ℕ × A) (q : Terms A) → Over p q
      → Below O t.0 q → Over (p ++ t ∷ []) q
  unfolding Over
  over-push [] t q o b = (b, tt)
  over-push (u ∷ p) t q o b = (o.0, over-push p t q o.1 b)

  falls-append : {A : Type 0} (p q : Terms A) → Falls O p → Falls O q → Over p q → Falls O (p ++ q)
  unfolding Falls Over
  falls-append [] q f g o = g
  falls-append (t ∷ p) q f g o = (
    each-append (λ u. compare O u.0 t.0 ≡ Less) p q f.0 o.0,
    falls-append p q f.1 g o.1,
  )

  -- what is below a term is below all that is above it
  pub below-cons : (o : IsMonomialOrder O) {A : Type 0} (e : List ℕ) (t : List ℕ × A) (q : Terms A)
      → compare O t.0 e ≡ Less → Falls O (t ∷ q) → Below O e (t ∷ q)
  unfolding Each Falls
  below-cons o e t q l f = (l, Below-weaker O o t.0 e q l f.0)

  pub below-tail : {A : Type 0} (t : List ℕ × A) (q : Terms A) → Falls O (t ∷ q) → Below O t.0 q
  unfolding Falls
  below-tail t q f = f.0

  module _ (S : Scalars) where
    nonzero-append : (p q : Terms S.Elem) → HasNoZero S.arithmetic p → HasNoZero S.arithmetic q
        → HasNoZero S.arithmetic (p ++ q)
    unfolding Each
    nonzero-append [] q a b = b
    nonzero-append (t ∷ p) q a b = (a.0, nonzero-append p q a.1 b)

    module _ (m : ℕ) where
      nil : IsPolynomial S.arithmetic O m []
      unfolding Each Falls
      nil = record { nonzero = tt; arity = tt; falls = tt }

      pub polynomial_nil : (p : Terms S.Elem) → p ≡ [] → IsPolynomial S.arithmetic O m p
      polynomial_nil p e = subst (IsPolynomial S.arithmetic O m) (sym e) nil

      pub polynomial_one : (e : List ℕ) (a : S.Elem) → length e ≡ m → a ≢ S.zero
          → IsPolynomial S.arithmetic O m ((e, a) ∷ [])
      unfolding Each Falls
      polynomial_one e a l n = record { nonzero = (n, tt); arity = (l, tt); falls = (tt, tt) }

      pub polynomial_tail : (t : List ℕ × S.Elem) (p : Terms S.Elem)
          → IsPolynomial S.arithmetic O m (t ∷ p) → IsPolynomial S.arithmetic O m p
      unfolding Each Falls
      polynomial_tail t p h = record { nonzero = h.nonzero.1; arity = h.arity.1; falls = h.falls.1 }

      pub head_nonzero : (t : List ℕ × S.Elem) (p : Terms S.Elem)
          → IsPolynomial S.arithmetic O m (t ∷ p) → t.1 ≢ S.zero
      unfolding Each
      head_nonzero t p h = h.nonzero.0

      pub head_arity : (t : List ℕ × S.Elem) (p : Terms S.Elem)
          → IsPolynomial S.arithmetic O m (t ∷ p) → length t.0 ≡ m
      unfolding Each
      head_arity t p h = h.arity.0

      pub polynomial_append : (p q : Terms S.Elem) → IsPolynomial S.arithmetic O m p
          → IsPolynomial S.arithmetic O m q → Over p q → IsPolynomial S.arithmetic O m (p ++ q)
      polynomial_append p q h k o = record {
        nonzero = nonzero-append p q h.nonzero k.nonzero;
        arity = arity-append m p q h.arity k.arity;
        falls = falls-append p q h.falls k.falls o;
      }
