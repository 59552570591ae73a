-- A term times a polynomial, term by term.
--   Shifting S r O m d c p q     q is p with each monomial multiplied by d and each number by c, without what is zero
--   begin_shifting, step_shifting, shifted_at     nothing, one term more, and the whole
--   scaled_at                    the whole where the monomial is 1
--   takes_as                     a term, otherwise written
use Rattle.algebra.specs.Each.{Each}
use Rattle.polynomials.specs.Algebra as Algebra
use Rattle.std.proofs.Common.{◌≡◌, ℕ, List, [], ◌∷◌, ◌++◌, replicate, length, refl, sym, ap, ap₂, subst, ◌∙◌, inl, inr, Less}
use Rattle.std.proofs.lemmas.List.{append-nil}
use Rattle.algebra.specs.Ring.{CommRing}
use Rattle.algebra.specs.Scalars.{Scalars}
use Rattle.algebra.specs.Ring.{IsRing, ring as ring_of}
use Rattle.algebra.proofs.RingLaws.{mul-zero}
use Rattle.polynomials.specs.Exponent.{plus}
use Rattle.polynomials.specs.Terms.{Terms, Same, constant, shift, times}
use Rattle.polynomials.specs.Order.{Rank, IsMonomialOrder, compare}
use Rattle.polynomials.specs.Polynomial.{Below, Falls, Arity}
use Rattle.polynomials.specs.Polynomial.{IsPolynomial}
use Rattle.polynomials.specs.Exponent.{exponents}
use Rattle.polynomials.proofs.Exponent.{exponents_monoid}
use Rattle.polynomials.proofs.AlgebraRing.{Algebra, algebra, algebra_ring, algebra-append, algebra-nil, same_of_algebra}
use Rattle.polynomials.proofs.AlgebraRing.{monomial, monomial-list, monomial-mul, algebra-shift}
use Rattle.polynomials.proofs.Exponent.{length-plus}
use Rattle.poly.specs.Pushed.{Takes}
use Rattle.poly.proofs.Merging.{one_zero}
use Rattle.poly.proofs.Kept.{Over, over-push, over-number, polynomial_nil, polynomial_one, polynomial_append}
use Rattle.poly.proofs.Steps.{compare-shift}

module _ (S : Scalars) (r : IsRing S.arithmetic) (O : Rank) (law : IsMonomialOrder O) (m : ℕ)
    (d : List ℕ) (c : S.Elem) where
  abbrev P : CommRing (Algebra exponents (ring_of S.arithmetic r))
  P = algebra_ring exponents exponents_monoid (ring_of S.arithmetic r)

  open P use {zero as 𝟘, add as ◌⊕◌, mul as ◌⊗◌}

  infixl 60 ◌⊕◌
  infixl 70 ◌⊗◌
  abbrev poly : Terms S.Elem → Algebra exponents (ring_of S.arithmetic r)
  poly p = algebra exponents (ring_of S.arithmetic r) p

  abbrev factor : Algebra exponents (ring_of S.arithmetic r)
  factor = monomial exponents exponents_monoid (ring_of S.arithmetic r) d c

  pub record Shifting (p q : Terms S.Elem) : Type 0 where
    pub is : IsPolynomial S.arithmetic O m q
    pub over : (t : List ℕ × S.Elem) → length t.0 ≡ m → Over O p (t ∷ [])
        → Over O q ((plus d t.0, t.1) ∷ [])
    pub product : poly q ≡ factor ⊗ poly p

  over_none : (q : Terms S.Elem) → Over O {A = S.Elem} [] q
  unfolding Over
  over_none q = tt

  pub begin_shifting : (p q : Terms S.Elem) → p ≡ [] → q ≡ [] → Shifting p q
  begin_shifting p q e f = rw (e, f) (record {
    is = polynomial_nil O S m [] refl;
    over = λ t l o. over_none ((plus d t.0, t.1) ∷ []);
    product = algebra-nil exponents exponents_monoid (ring_of S.arithmetic r)
        ∙ sym (mul-zero P factor)
        ∙ ap (λ z. factor ⊗ z)
        (sym (algebra-nil exponents exponents_monoid (ring_of S.arithmetic r)));
  })

  one_product : (e : List ℕ) (a : S.Elem) → poly ((plus d e, S.mul c a) ∷ []) ≡ factor ⊗ poly
      ((e, a) ∷ [])
  one_product e a = monomial-list exponents exponents_monoid (ring_of S.arithmetic r) (plus d e)
      (S.mul c a) ∙ monomial-mul exponents exponents_monoid (ring_of S.arithmetic r) d e c a
      ∙ ap (λ z. factor ⊗ z) (sym (monomial-list exponents exponents_monoid (ring_of S.arithmetic r)
      e a))

  -- one term more of the product
  more : (p q : Terms S.Elem) (e : List ℕ) (a : S.Elem) → poly q ≡ factor ⊗ poly p
      → poly q ⊕ poly ((plus d e, S.mul c a) ∷ []) ≡ factor ⊗ poly (p ++ (e, a) ∷ [])
  more p q e a h = ap₂ ◌⊕◌ h (one_product e a)
      ∙ sym (P.mul-add factor (poly p) (poly ((e, a) ∷ [])))
      ∙ ap (λ z. factor ⊗ z)
      (sym (algebra-append exponents exponents_monoid (ring_of S.arithmetic r) p ((e, a) ∷ [])))

  over-append : {A : Type 0} (p q : Terms A) (u : List ℕ × A) → Over O (p ++ u ∷ []) q → Over O p q
  unfolding Over
  over-append [] q u o = tt
  over-append (v ∷ p) q u o = (o.0, over-append p q u o.1)

  over-last : {A : Type 0} (p q : Terms A) (u : List ℕ × A) → Over O (p ++ u ∷ []) q → Below O u.0 q
  unfolding Over
  over-last [] q u o = o.0
  over-last (v ∷ p) q u o = over-last p q u o.1

  -- all before a term are above it
  over-falls : (p : Terms S.Elem) (t : List ℕ × S.Elem) (back : Terms S.Elem)
      → Falls O (p ++ t ∷ back) → Over O p (t ∷ [])
  unfolding Over Falls Each
  over-falls [] t back f = tt
  over-falls (u ∷ p) t back f = ((below-part p t back f.0, tt), over-falls p t back f.1)
    where
      below-part : (p : Terms S.Elem) (t : List ℕ × S.Elem) (back : Terms S.Elem)
          → Below O u.0 (p ++ t ∷ back) → compare O t.0 u.0 ≡ Less
      below-part [] t back b = b.0
      below-part (v ∷ p) t back b = below-part p t back b.1

  part_arity : (p : Terms S.Elem) (t : List ℕ × S.Elem) (back : Terms S.Elem)
      → Arity m (p ++ t ∷ back) → length t.0 ≡ m
  unfolding Each
  part_arity [] t back a = a.0
  part_arity (u ∷ p) t back a = part_arity p t back a.1

  below-shifted : length d ≡ m → (t u : List ℕ × S.Elem) → length t.0 ≡ m → length u.0 ≡ m
      → Below O t.0 (u ∷ []) → Below O (plus d t.0) ((plus d u.0, u.1) ∷ [])
  unfolding Each
  below-shifted w t u l n b = (compare-shift O law m d w u.0 t.0 n l ∙ b.0, tt)

  pub step_shifting : (ts p p' back out news : Terms S.Elem) (t : List ℕ × S.Elem) → length d ≡ m
      → IsPolynomial S.arithmetic O m ts → ts ≡ p ++ t ∷ back → p' ≡ p ++ t ∷ []
      → Takes S (plus d t.0) (S.mul c t.1) out news → Shifting p out → Shifting p' news
  step_shifting ts p p' back out news t w h e f taken s = rw f (go taken)
    where
      whole : IsPolynomial S.arithmetic O m (p ++ t ∷ back)
      whole = subst (IsPolynomial S.arithmetic O m) e h

      l : length t.0 ≡ m
      l = part_arity p t back whole.arity

      over : Over O out ((plus d t.0, S.mul c t.1) ∷ [])
      over = over-number O out (plus d t.0) t.1 (S.mul c t.1)
          (s.over t l (over-falls p t back whole.falls))

      go : Takes S (plus d t.0) (S.mul c t.1) out news → Shifting (p ++ t ∷ []) news
      go (inl none) = rw none.1 (record {
        is = s.is;
        over = λ u n o. s.over u n (over-append p (u ∷ []) t o);
        product =
            sym (P.add-zero (poly out))
            ∙ ap (λ z. poly out ⊕ z) (sym (one_zero S r O law m (plus d t.0))
            ∙ ap (λ a. poly ((plus d t.0, a) ∷ [])) (sym none.0))
            ∙ more p out t.0 t.1 s.product;
      })
      go (inr some) = rw some.1 (record {
        is = polynomial_append O S m out ((plus d t.0, S.mul c t.1) ∷ []) s.is
            (polynomial_one O S m (plus d t.0) (S.mul c t.1) (length-plus d t.0 m w l) some.0) over;
        over = λ u n o. over-push O out (plus d t.0, S.mul c t.1) ((plus d u.0, u.1) ∷ [])
            (s.over u n (over-append p (u ∷ []) t o))
            (below-shifted w t u l n (over-last p (u ∷ []) t o));
        product = algebra-append exponents exponents_monoid (ring_of S.arithmetic r) out
            ((plus d t.0, S.mul c t.1) ∷ []) ∙ more p out t.0 t.1 s.product;
      })

  pub shifted_at : (p p' q : Terms S.Elem) → p ≡ p' → Shifting p q
      → Same S.arithmetic q (shift S.arithmetic d c p')
  shifted_at p p' q e s =
      let h = subst (λ (zs : Terms S.Elem). Shifting zs q) e s in
      same_of_algebra exponents exponents_monoid (ring_of S.arithmetic r) q
      (shift S.arithmetic d c p') (h.product
      ∙ sym (algebra-shift exponents exponents_monoid (ring_of S.arithmetic r) d c p'))

-- products with a number
pub scaled_at : (S : Scalars) (r : IsRing S.arithmetic) (O : Rank) (law : IsMonomialOrder O) (m : ℕ)
    (c : S.Elem) (n : ℕ) (p p' q : Terms S.Elem) → m ≡ n → p ≡ p'
    → Shifting S r O law m (replicate m 0) c p q
    → Same S.arithmetic q (times S.arithmetic (constant n c) p')
unfolding Algebra.times constant
scaled_at S r O law m c n p p' q e f s =
    subst (Same S.arithmetic q) (ap (λ (k : ℕ). shift S.arithmetic (replicate k 0) c p') e
    ∙ sym (append-nil (shift S.arithmetic (replicate n 0) c p')))
    (shifted_at S r O law m (replicate m 0) c p p' q f s)

-- the same term, otherwise written
pub takes_as : (S : Scalars) (e e' : List ℕ) (a a' : S.Elem) (olds news : Terms S.Elem) → e ≡ e'
    → a ≡ a' → Takes S e a olds news → Takes S e' a' olds news
takes_as S e e' a a' olds news h k t = subst (λ (d : List ℕ). Takes S d a' olds news) h
    (subst (λ (b : S.Elem). Takes S e b olds news) k t)
