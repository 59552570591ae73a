-- What polynomials are that stand for lists of terms.
--   polynomial_over, arity_over           a polynomial in m variables is one in its order, and its terms have m exponents; arities_over: of each of some
--   stands_along           each stands for what is the same as what it stands for
--   stands_over, stands_same, stands_length     lists that stand for others: what they are over, the same as, and how many
--   stands_set, stands_push, stands_all_along   one at another place, one more, and what stands for the same; stands_all_itself
--   first_arity                           the arity of the first of some over m variables
--   zero_tells, equal_tells               one is 0, or two are equal, exactly where what they stand for is
use Rattle.std.proofs.Common.{◌≡◌, ◌↔◌, ℕ, zero, suc, ◌<◌, Bool, List, [], ◌∷◌, ◌++◌, set as put, length, IsTrue, All, arith, refl, sym, ap, subst}
use Rattle.std.proofs.lemmas.List.Elements.{All-nil, All-cons, All-head, All-tail}
use Rattle.std.specs.declared.cmp.PartialEq as PartialEq
use Rattle.algebra.specs.Each.{Each}
use Rattle.algebra.specs.Ring.{IsRing, ring}
use Rattle.polynomials.specs.Terms.{Terms, Same, AllSame}
use Rattle.polynomials.specs.Order.{IsMonomialOrder}
use Rattle.polynomials.specs.Polynomial.{Arity, AllArity, IsPolynomial}
use Rattle.polynomials.proofs.Same.{Same-refl, Same-sym, Same-trans}
use Rattle.polynomials.proofs.Canonical.{polynomial_unique}
use Rattle.ring_laws.specs.declared.Ring as Ring
use Rattle.monos.specs.declared.order.Order as Order
use Rattle.poly.specs.declared.Poly.{Poly}
use Rattle.poly.specs.Seen.{terms_in, terms_each, arity_of}
use Rattle.poly.specs.Standing.{IsInVariables, StandsFor, AllStandFor}
use Rattle.poly.proofs.Kept.{polynomial_nil}

module _ {K O : Type 0} {g : Ring.Ghosts K} {h : PartialEq.Ghosts K} {k : Order.Ghosts O}
    {l : PartialEq.Ghosts O} where
  pub polynomial_over : (m : ℕ) (p : Poly K O g h k l) → IsInVariables m p
      → IsPolynomial g.scalars.arithmetic (k.order p.order) m (terms_in p)
  polynomial_over m p e = subst (λ (n : ℕ). IsPolynomial g.scalars.arithmetic (k.order p.order) n
      (terms_in p)) e p.polynomial

  pub arity_over : (m : ℕ) (p : Poly K O g h k l) → IsInVariables m p → Arity m (terms_in p)
  arity_over m p e = (polynomial_over m p e).arity

  pub arities_over : (m : ℕ) (ps : List (Poly K O g h k l)) → All (IsInVariables m) ps
      → AllArity m (terms_each ps)
  unfolding Each
  arities_over m [] a = tt
  arities_over m (p ∷ ps) a = (
    arity_over m p (All-head (IsInVariables m) p ps a),
    arities_over m ps (All-tail (IsInVariables m) p ps a),
  )

  pub first_arity : (m : ℕ) (ps : List (Poly K O g h k l)) → All (IsInVariables m) ps
      → 0 < length ps
      → arity_of ps ≡ m
  first_arity m [] a some = absurd (omega arith)
  first_arity m (p ∷ ps) a some = All-head (IsInVariables m) p ps a

  pub stands_along : (m : ℕ) (p : Poly K O g h k l) (q r : Terms g.scalars.Elem)
      → Same g.scalars.arithmetic q r → StandsFor m p q → StandsFor m p r
  stands_along m p q r s i = record {
    order = i.order;
    arity = i.arity;
    same = Same-trans g.scalars.arithmetic i.same s;
  }

  pub stands_over : (m : ℕ) (ps : List (Poly K O g h k l)) (qs : List (Terms g.scalars.Elem))
      → AllStandFor m ps qs → All (IsInVariables m) ps
  stands_over m [] [] a = All-nil _
  stands_over m [] (q ∷ qs) a = absurd a
  stands_over m (p ∷ ps) [] a = absurd a
  stands_over m (p ∷ ps) (q ∷ qs) a = All-cons (IsInVariables m) p ps a.0.arity
      (stands_over m ps qs a.1)

  pub stands_same : (m : ℕ) (ps : List (Poly K O g h k l)) (qs : List (Terms g.scalars.Elem))
      → AllStandFor m ps qs → AllSame g.scalars.arithmetic (terms_each ps) qs
  unfolding AllSame
  stands_same m [] [] a = tt
  stands_same m [] (q ∷ qs) a = absurd a
  stands_same m (p ∷ ps) [] a = absurd a
  stands_same m (p ∷ ps) (q ∷ qs) a = (a.0.same, stands_same m ps qs a.1)

  pub stands_length : (m : ℕ) (ps : List (Poly K O g h k l)) (qs : List (Terms g.scalars.Elem))
      → AllStandFor m ps qs → length ps ≡ length qs
  stands_length m [] [] a = refl
  stands_length m [] (q ∷ qs) a = absurd a
  stands_length m (p ∷ ps) [] a = absurd a
  stands_length m (p ∷ ps) (q ∷ qs) a = ap suc (stands_length m ps qs a.1)

  pub stands_set : (m : ℕ) (ps : List (Poly K O g h k l)) (qs : List (Terms g.scalars.Elem)) (i : ℕ)
      (p : Poly K O g h k l) (q : Terms g.scalars.Elem) → AllStandFor m ps qs → StandsFor m p q
      → AllStandFor m (put ps i p) (put qs i q)
  stands_set m [] [] i p q a s = tt
  stands_set m [] (y ∷ qs) i p q a s = absurd a
  stands_set m (x ∷ ps) [] i p q a s = absurd a
  stands_set m (x ∷ ps) (y ∷ qs) zero p q a s = (s, a.1)
  stands_set m (x ∷ ps) (y ∷ qs) (suc i) p q a s = (a.0, stands_set m ps qs i p q a.1 s)

  pub stands_push : (m : ℕ) (ps : List (Poly K O g h k l)) (qs : List (Terms g.scalars.Elem))
      (p : Poly K O g h k l) (q : Terms g.scalars.Elem) → AllStandFor m ps qs → StandsFor m p q
      → AllStandFor m (ps ++ p ∷ []) (qs ++ q ∷ [])
  stands_push m [] [] p q a s = (s, tt)
  stands_push m [] (y ∷ qs) p q a s = absurd a
  stands_push m (x ∷ ps) [] p q a s = absurd a
  stands_push m (x ∷ ps) (y ∷ qs) p q a s = (a.0, stands_push m ps qs p q a.1 s)

  pub stands_all_along : (m : ℕ) (ps : List (Poly K O g h k l))
      (qs rs : List (Terms g.scalars.Elem)) → AllSame g.scalars.arithmetic qs rs
      → AllStandFor m ps qs → AllStandFor m ps rs
  unfolding AllSame
  stands_all_along m [] [] [] s a = tt
  stands_all_along m [] [] (r ∷ rs) s a = absurd s
  stands_all_along m [] (q ∷ qs) rs s a = absurd a
  stands_all_along m (p ∷ ps) [] rs s a = absurd a
  stands_all_along m (p ∷ ps) (q ∷ qs) [] s a = absurd s
  stands_all_along m (p ∷ ps) (q ∷ qs) (r ∷ rs) s a = (
    stands_along m p q r s.0 a.0,
    stands_all_along m ps qs rs s.1 a.1,
  )

  pub stands_all_itself : (m : ℕ) (ps : List (Poly K O g h k l)) → All (IsInVariables m) ps
      → AllStandFor m ps (terms_each ps)
  stands_all_itself m [] a = tt
  stands_all_itself m (p ∷ ps) a = (
    record {
      order = refl;
      arity = All-head (IsInVariables m) p ps a;
      same = Same-refl g.scalars.arithmetic (terms_in p);
    },
    stands_all_itself m ps (All-tail (IsInVariables m) p ps a),
  )

  -- what the tests tell
  pub zero_tells : IsRing g.scalars.arithmetic → (m : ℕ) (p : Poly K O g h k l)
      → IsMonomialOrder (k.order p.order) → (x : Terms g.scalars.Elem) (b : Bool) → StandsFor m p x
      → IsTrue b ↔ (terms_in p ≡ [])
      → IsTrue b ↔ Same g.scalars.arithmetic x []
  zero_tells r m p law x b i is = (
    (λ t. Same-trans g.scalars.arithmetic (Same-sym g.scalars.arithmetic i.same)
        (subst (λ y. Same g.scalars.arithmetic y []) (sym (is.0 t))
        (Same-refl g.scalars.arithmetic []))),
    (λ z. is.1 (polynomial_unique _ law (ring g.scalars.arithmetic r) p.arity p.arity (terms_in p)
        [] p.polynomial (polynomial_nil _ g.scalars p.arity [] refl)
        (Same-trans g.scalars.arithmetic i.same z))),
  )

  pub equal_tells : (m : ℕ) (p q : Poly K O g h k l) (x y : Terms g.scalars.Elem) (b : Bool)
      → StandsFor m p x → StandsFor m q y → IsTrue b ↔ Same g.scalars.arithmetic (terms_in p)
      (terms_in q)
      → IsTrue b ↔ Same g.scalars.arithmetic x y
  equal_tells m p q x y b i j is = (
    (λ t. Same-trans g.scalars.arithmetic (Same-sym g.scalars.arithmetic i.same)
        (Same-trans g.scalars.arithmetic (is.0 t) j.same)),
    (λ s. is.1 (Same-trans g.scalars.arithmetic i.same (Same-trans g.scalars.arithmetic s
        (Same-sym g.scalars.arithmetic j.same)))),
  )
