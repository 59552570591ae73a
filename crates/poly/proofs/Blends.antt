-- The products with t and with 1 - t (specs/Blending).
--   t_made           the product with t, as its terms
--   opposite_made    the opposite of a polynomial
--   rest_made        the product with 1 - t
--   none_shared      1 and t times polynomials share no monomial
--   just_one_of      the first variable of one
use Rattle.std.proofs.Common.{◌≡◌, ◌↔◌, ℕ, zero, suc, ◌+◌, true, List, [], ◌∷◌, ◌++◌, length, slice_get, Some, refl, sym, ap, ap₂, subst, ◌∙◌, arith}
use Rattle.std.specs.List.{Contains}
use Rattle.algebra.specs.FieldArithmetic.{field_of}
use Rattle.algebra.specs.Ring.{Field, IsRing, IsFieldOf}
use Rattle.algebra.specs.Scalars.{Scalars, field}
use Rattle.algebra.proofs.ScalarFields.{is_field}
use Rattle.polynomials.specs.Algebra as Algebra
use Rattle.polynomials.specs.Exponent.{unit_exponents}
use Rattle.polynomials.specs.Order.{Rank, IsMonomialOrder, grevlex, blocks}
use Rattle.polynomials.specs.Polynomial.{IsPolynomial}
use Rattle.polynomials.specs.Terms.{Terms, Same, negate, retold}
use Rattle.polynomials.proofs.Arity.{arity-append, arity-negate}
use Rattle.polynomials.proofs.Canonical.{polynomial_unique}
use Rattle.polynomials.proofs.Orders.{grevlex_order, blocks_order}
use Rattle.machines.specs.Elimination.{in_front, with_first}
use Rattle.machines.proofs.Collecting.{collect-is}
use Rattle.machines.proofs.Front.{front_polynomial}
use Rattle.machines.proofs.Meeting.{first_polynomial}
use Rattle.poly.specs.Shared.{monomials, Share}
use Rattle.poly.proofs.Steps.{polynomial_negate}
use Rattle.poly.specs.Blending.{times_rest}

pub just_t_of : (t : List ℕ) → slice_get (unit_exponents 1) 0 ≡ Some t → t ≡ 1 ∷ []
unfolding unit_exponents
just_t_of t e = cc

pub with_one : (n m : ℕ) (front : List ℕ) → front ≡ 0 ∷ [] → n ≡ length front + m → n ≡ 1 + m
with_one n m front e h = let l : length front ≡ 1 = ap length e in omega (arith, h, l)

-- ---- monomials of products
module _ {A : Type 0} where
  first_is : (x : ℕ) (p : Terms A) (e : List ℕ) → Contains (monomials (retold (λ d. x ∷ d) p)) e
      → (d : List ℕ) × (e ≡ x ∷ d)
  unfolding retold
  first_is x [] e (k, below, is) = absurd (omega arith)
  first_is x (t ∷ p) e (zero, below, is) = (t.0, sym is)
  first_is x (t ∷ p) e (suc k, below, is) = first_is x p e (k, omega (arith, below), is)

  pub none_shared : (p q u v : Terms A) → u ≡ in_front 1 p → v ≡ with_first q → Share u v → ⊥
  none_shared p q u v e f s =
      let (c, i) = first_is 0 p s.monomial (subst (λ l. Contains (monomials l) s.monomial) e
      s.in_left) in
      let (d, j) = first_is 1 q s.monomial (subst (λ l. Contains (monomials l) s.monomial) f
      s.in_right) in
      let both : ◌≡◌ {A = List ℕ} (0 ∷ c) (1 ∷ d) = sym i ∙ j in
      let z : ⊥ = cc in z

module _ (S : Scalars) where
  first-negate : (p : Terms S.Elem) → with_first (negate S.arithmetic p) ≡ negate S.arithmetic
      (with_first p)
  unfolding retold Algebra.negate
  first-negate [] = refl
  first-negate (t ∷ p) = ap (λ (zs : Terms S.Elem). (1 ∷ t.0, S.neg t.1) ∷ zs) (first-negate p)

module _ (S : Scalars) (r : IsRing S.arithmetic) (f : IsFieldOf S.arithmetic S.inverse)
    (z : (a : S.Elem) → (S.is_zero a ≡ true) ↔ (a ≡ S.zero)) where
  abbrev K : Field S.Elem
  K = field_of (field S) (is_field S r f z)

  abbrev B : Rank
  B = blocks 1 grevlex grevlex

  abbrev b : IsMonomialOrder (blocks 1 grevlex grevlex)
  b = blocks_order 1 grevlex grevlex grevlex_order grevlex_order

  pub t_made : (m n : ℕ) (front : List ℕ) (p q : Terms S.Elem) → front ≡ 1 ∷ []
      → IsPolynomial S.arithmetic grevlex m p → IsPolynomial S.arithmetic (blocks 1 grevlex grevlex)
      n q
      → Same S.arithmetic q (retold (λ e. front ++ e) p) → q ≡ with_first p
  t_made m n front p q e hp hq s =
      polynomial_unique B b K.ring n (1 + m) q (with_first p) hq (first_polynomial K m grevlex
      grevlex grevlex_order grevlex_order p hp)
      (subst (λ d. Same S.arithmetic q (retold (λ e. d ++ e) p)) e s)

  pub one_made : (m n : ℕ) (front : List ℕ) (p q : Terms S.Elem) → front ≡ 0 ∷ []
      → IsPolynomial S.arithmetic grevlex m p → IsPolynomial S.arithmetic (blocks 1 grevlex grevlex)
      n q
      → Same S.arithmetic q (retold (λ e. front ++ e) p) → q ≡ in_front 1 p
  one_made m n front p q e hp hq s =
      polynomial_unique B b K.ring n (1 + m) q (in_front 1 p) hq (front_polynomial 1 m grevlex
      grevlex grevlex_order grevlex_order S.arithmetic p hp)
      (subst (λ d. Same S.arithmetic q (retold (λ e. d ++ e) p)) e s)

  pub opposite_made : (m n : ℕ) (p q : Terms S.Elem) → IsPolynomial S.arithmetic grevlex m p
      → IsPolynomial S.arithmetic grevlex n q → Same S.arithmetic q (negate S.arithmetic p)
      → q ≡ negate S.arithmetic p
  opposite_made m n p q hp hq s = polynomial_unique grevlex grevlex_order K.ring n m q
      (negate S.arithmetic p) hq (polynomial_negate S r grevlex m p (negate S.arithmetic p) hp refl)
      s

  -- 1 times q, and t times its opposite
  pub rest_made : (m n : ℕ) (q opposite one t p : Terms S.Elem)
      → IsPolynomial S.arithmetic grevlex m q → one ≡ in_front 1 q
      → opposite ≡ negate S.arithmetic q → t ≡ with_first opposite
      → IsPolynomial S.arithmetic (blocks 1 grevlex grevlex) n p → n ≡ 1 + m
      → Same S.arithmetic p (one ++ t) → p ≡ times_rest (field S) q
  rest_made m n q opposite one t p hq e i j hp l s =
      let parts : one ++ t ≡ in_front 1 q ++ negate S.arithmetic (with_first q) =
      ap₂ ◌++◌ e (j ∙ ap with_first i ∙ first-negate S q) in
      let hf = front_polynomial 1 m grevlex grevlex grevlex_order grevlex_order S.arithmetic q hq in
      let ht = first_polynomial K m grevlex grevlex grevlex_order grevlex_order q hq in
      collect-is K B b (1 + m) (in_front 1 q ++ negate S.arithmetic (with_first q)) p
      (arity-append (1 + m) _ _ hf.arity (arity-negate (1 + m) S.arithmetic (with_first q)
      ht.arity)) (subst (λ k. IsPolynomial S.arithmetic B k p) l hp)
      (subst (Same S.arithmetic p) parts s)
