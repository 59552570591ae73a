-- Ideals of polynomials over the fractions, and what members of lists are in them.
--   members_in           where each of gs is in an ideal, each member of their ideal is
--   member_times         a multiple of a member
--   member_ideal         the members of the ideal of gs are an ideal
--   from_start_ideal     what is 0, composed with the start map, is one
--   invariants_ideal     so are the invariants
use Rattle.ideals.specs.Substitution.{at}
use Rattle.algebra.proofs.RingSolver.{ring, ring_rules}
use Rattle.algebra.proofs.Homs.{to-neg}
use Rattle.algebra.specs.Sum.{sum_over}
use Rattle.std.proofs.Common.{refl, ℕ, List, [], ◌∷◌, ◌++◌, map, length, sym, ◌≡◌, ◌∙◌, ap, subst}
use Rattle.algebra.specs.Each.{Each}
use Rattle.algebra.specs.Ring.{CommRing}
use Rattle.algebra.specs.Fraction.{Fraction, ℚ}
use Rattle.algebra.proofs.Fractions.{ℚ_ring, ℚ_zero_test}
use Rattle.polynomials.specs.Terms.{Terms, Same, combination, times, evaluate, negate}
use Rattle.polynomials.specs.Polynomial.{Arity, AllArity}
use Rattle.polynomials.proofs.Arity.{arity-append, arity-times, arity-compose, arity-negate}
use Rattle.polynomials.proofs.Same.{Same-refl, Same-sym, Same-trans}
use Rattle.polynomials.proofs.Poly.{poly, poly_ring, poly_same, same_from_poly, poly-nil, poly-append, poly-times, poly-negate}
use Rattle.polynomials.proofs.Composition.{poly-compose, compose-append, same_compose, same_compose-times}
use Rattle.algebra.proofs.RingLaws.{mul-zero, zero-add}
use Rattle.polynomials.proofs.Same.{AllSame-refl, same_append, same_times}
use Rattle.ideals.specs.Members.{IsMember}
use Rattle.ideals.proofs.Ideal.{in_ideal_same, in_ideal_mul}
use Rattle.ideals.proofs.Members.{member_in, member_out}
use Rattle.ideals.proofs.FractionMembers.{member_same, member_nil, member_append}
use Rattle.loops.specs.Program.{Expr, Program}
use Rattle.loops.specs.Map.{start_map, composition}
use Rattle.loops.specs.Inv.{Inv}
use Rattle.loops.proofs.Maps.{arity-start_map}
use Rattle.loops.proofs.Invariants.{same_invariant, zero_invariant, sum_invariant, multiple_invariant}
use Rattle.closures.specs.Closure.{IsIdeal, IsZeroFromStart}

module _ (m : ℕ) (I : Terms Fraction → Type 0) (is : IsIdeal m I) where
  combination_in : (qs gs : List (Terms Fraction)) → AllArity m qs → Each I gs
      → I (combination ℚ qs gs)
  unfolding combination Each
  combination_in [] gs a h = is.zero
  combination_in (q ∷ qs) [] a h = is.zero
  combination_in (q ∷ qs) (g ∷ gs) a h =
      is.sum (times ℚ q g) (combination ℚ qs gs) (is.multiple q g a.0 h.0)
      (combination_in qs gs a.1 h.1)

  pub members_in : (gs : List (Terms Fraction)) (p : Terms Fraction) → Each I gs → Arity m p
      → IsMember ℚ m gs p → I p
  members_in gs p h a i =
      is.same (combination ℚ i.cofactors gs) p a (Same-sym ℚ i.is)
      (combination_in i.cofactors gs i.arity h)

module _ (m : ℕ) (gs : List (Terms Fraction)) (ga : AllArity m gs) where
  pub member_times : (p q : Terms Fraction) → Arity m p → Arity m q → IsMember ℚ m gs q
      → IsMember ℚ m gs (times ℚ p q)
  member_times p q a b i =
      member_out m ℚ_ring ℚ_zero_test gs (times ℚ p q) ga (arity-times m ℚ p q a b)
      (in_ideal_same (poly_ring m ℚ_ring) (poly-times m ℚ_ring p q)
      (in_ideal_mul (poly_ring m ℚ_ring) (poly m ℚ_ring p) (member_in m ℚ_ring gs q i)))

  pub record IsMemberOver (q : Terms Fraction) : Type 0 where
    pub arity : Arity m q
    pub member : IsMember ℚ m gs q

  pub member_ideal : IsIdeal m IsMemberOver
  unfolding Each
  member_ideal = record {
    arity = λ p h. h.arity;
    same = λ p q a s h.
        record { arity = a; member = member_same m gs p q (Same-sym ℚ s) h.member };
    zero = record { arity = tt; member = member_nil m gs };
    sum = λ p q h k. record {
      arity = arity-append m p q h.arity k.arity;
      member = member_append m gs ga p q h.arity k.arity h.member k.member;
    };
    multiple = λ p q a h. record {
      arity = arity-times m ℚ p q a h.arity;
      member = member_times p q a h.arity h.member;
    };
  }

module _ {At : Type 0} (program : Program (Expr At)) where
  abbrev m : ℕ
  m = length program.names

  pub record IsNothing (q : Terms Fraction) : Type 0 where
    pub arity : Arity (length program.names) q
    pub zero : IsZeroFromStart program q

  abbrev put : Terms Fraction → Terms Fraction
  put q = composition program q (start_map program)

  times_nothing : (p : Terms Fraction) → Arity m p → Same ℚ (times ℚ p []) []
  unfolding Each
  times_nothing p a = same_from_poly m ℚ_ring _ _ (arity-times m ℚ p [] a tt) tt
      (poly-times m ℚ_ring p []
      ∙ ap ((poly_ring m ℚ_ring).mul (poly m ℚ_ring p)) (poly-nil m ℚ_ring)
      ∙ mul-zero (poly_ring m ℚ_ring) _ ∙ sym (poly-nil m ℚ_ring))

  nothing : IsNothing []
  unfolding Each evaluate sum_over
  nothing = record { arity = tt; zero = Same-refl ℚ [] }

  pub from_start_ideal : IsIdeal (length program.names) IsNothing
  from_start_ideal = record {
    arity = λ p h. h.arity;
    same = λ p q a s h. record {
      arity = a;
      zero =
          Same-trans ℚ
          (same_compose ℚ_ring m m q p (start_map program) (start_map program) a h.arity
          (arity-start_map program) (arity-start_map program) (Same-sym ℚ s)
          (AllSame-refl ℚ (start_map program))) h.zero;
    };
    zero = nothing;
    sum = λ p q h k. record {
      arity = arity-append m p q h.arity k.arity;
      zero =
          subst (λ l. Same ℚ l []) (sym (compose-append ℚ m p q (start_map program)))
          (same_append ℚ_ring h.zero k.zero);
    };
    multiple = λ p q a h. record {
      arity = arity-times m ℚ p q a h.arity;
      zero =
          Same-trans ℚ
          (same_compose-times ℚ_ring m m p q (start_map program) a h.arity
          (arity-start_map program))
          (Same-trans ℚ (same_times ℚ_ring (Same-refl ℚ (put p)) h.zero)
          (times_nothing (put p) (arity-compose m ℚ p (start_map program)
          (arity-start_map program))));
    };
  }

  pub invariants_ideal : IsIdeal (length program.names) (Inv program)
  invariants_ideal = record {
    arity = λ p h. h.arity;
    same = λ p q a s h. same_invariant program p q a s h;
    zero = zero_invariant program;
    sum = λ p q h k. sum_invariant program p q h k;
    multiple = λ p q a h. multiple_invariant program p q a h;
  }

  -- where a difference, composed with the start map, is 0
  pub same_put : (p q : Terms Fraction) → Arity m p → Arity m q
      → IsZeroFromStart program (p ++ negate ℚ q)
      → Same ℚ (composition program p (start_map program))
      (composition program q (start_map program))
  same_put p q a b z =
      let K = poly_ring m ℚ_ring in
      let f = at m ℚ_ring (map (poly m ℚ_ring) (start_map program)) in
      let put_of : (x : Terms Fraction) → Arity m x
      → poly m ℚ_ring (composition program x (start_map program)) ≡ f.to (poly m ℚ_ring x) =
      λ x xa. poly-compose ℚ_ring m m x (start_map program) xa in
      let c = arity-append m p (negate ℚ q) a (arity-negate m ℚ q b) in
      let is : K.add (f.to (poly m ℚ_ring p)) (K.neg (f.to (poly m ℚ_ring q))) ≡ K.zero =
      sym (f.to-add (poly m ℚ_ring p) (K.neg (poly m ℚ_ring q))
      ∙ ap (K.add (f.to (poly m ℚ_ring p))) (to-neg f (poly m ℚ_ring q)))
      ∙ ap f.to (sym (poly-append m ℚ_ring p (negate ℚ q)
      ∙ ap (K.add (poly m ℚ_ring p)) (poly-negate m ℚ_ring q)))
      ∙ sym (put_of (p ++ negate ℚ q) c) ∙ poly_same m ℚ_ring z ∙ poly-nil m ℚ_ring in
      same_from_poly m ℚ_ring _ _ (arity-compose m ℚ p (start_map program)
      (arity-start_map program)) (arity-compose m ℚ q (start_map program)
      (arity-start_map program))
      (put_of p a ∙ from_difference K (f.to (poly m ℚ_ring p)) (f.to (poly m ℚ_ring q)) is
      ∙ sym (put_of q b))
    where
      from_difference : {A : Type 0} (R : CommRing A) (x y : A) → R.add x (R.neg y) ≡ R.zero
          → x ≡ y
      from_difference R x y e = split R x y ∙ ap (λ z. R.add z y) e ∙ zero-add R y
        where
          split : {A : Type 0} (R : CommRing A) (x y : A) → x ≡ R.add (R.add x (R.neg y)) y
          split R x y = ring R (x ∷ y ∷ []) (search ring_rules depth 40) refl
