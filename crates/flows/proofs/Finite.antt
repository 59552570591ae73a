-- Where transitions are affine and have no zeros, what is provable with a degree is all invariants of this degree: what these are is spanned by finitely many, but for a double negation.
--   Sure A                     not not A
--   spanned                    an ideal's polynomials with monomials of a list alone are surely spanned by finitely many
--   all_nodes                  so are the invariants up to a degree, at all nodes at once
--   surely_provable            so each of them is surely provable
--   provable_is_all            and lists that are reduced for what is provable are reduced for the invariants
use Rattle.std.proofs.Common.{◌≡◌, ◌≢◌, ◌⊎◌, inl, inr, ℕ, zero, suc, ◌<◌, ◌≤◌, Bool, true, false, not, cond, eqb, List, [], ◌∷◌, ◌++◌, length, sum, refl, sym, ap, ap₂, subst, ◌∙◌, arith, true≢false}
use Rattle.std.proofs.lemmas.List.{append-nil}
use Rattle.algebra.specs.Each.{Each}
use Rattle.algebra.specs.In.{In}
use Rattle.algebra.specs.Ring.{CommRing}
use Rattle.algebra.proofs.Each.{each_weaker, each-append}
use Rattle.algebra.proofs.In.{each_in, each_from}
use Rattle.algebra.proofs.RingSolver.{ring, ring_rules}
use Rattle.algebra.proofs.InverseLaws.{mul-inverse_left}
use Rattle.algebra.specs.Fraction.{Fraction, ℚ, inverse}
use Rattle.algebra.proofs.Fractions.{ℚ_ring, ℚ_field, fraction_eq, fraction_eq_refl, fraction_eq_true}
use Rattle.polynomials.specs.Exponent.{exponents, same}
use Rattle.polynomials.specs.Terms.{Terms, Same, constant, coefficient}
use Rattle.polynomials.specs.Polynomial.{Arity, AllArity}
use Rattle.polynomials.proofs.Algebra.{coefficient-append}
use Rattle.polynomials.proofs.Arity.{arity-constant}
use Rattle.polynomials.proofs.ByValues.{zero_by_values}
use Rattle.polynomials.proofs.Distinct.{others, coefficient_apart, coefficient-others}
use Rattle.polynomials.proofs.Distinct as distinct
use Rattle.polynomials.proofs.Exponent.{same_refl, same_cases}
use Rattle.polynomials.proofs.Same.{Same-sym}
use Rattle.ideals.specs.Members.{IsMember}
use Rattle.ideals.proofs.FractionMembers.{member_same, member_nil, member_append, member_right}
use Rattle.machines.specs.Cut.{lead_of}
use Rattle.closures.specs.Closure.{IsIdeal}
use Rattle.closures.specs.Monomials.{monomials_up_to}
use Rattle.closures.specs.UpTo.{IsReducedUpTo}
use Rattle.closures.proofs.Ideals.{member_times}
use Rattle.closures.proofs.Monomials.{are_monomials_up_to}
use Rattle.closures.proofs.SameUpTo.{all_low}
use Rattle.closures.proofs.UpTo as up_to
use Rattle.flows.specs.Graph.{Transition, Graph, IsGraph, start, Inv}
use Rattle.flows.specs.Family.{Family, IsAtMost, IsInductive, IsProvable}
use Rattle.flows.specs.Affine.{IsAffine}
use Rattle.flows.proofs.Sound.{transition_is}
use Rattle.flows.proofs.Members.{member_in}
use Rattle.flows.proofs.Families.{provable_sound}
use Rattle.flows.proofs.Affine.{invariants_ideal, affine_goes}
use Rattle.flows.proofs.Rows.{scaled, constant_times, scaled_each, coefficient-scaled}

abbrev pub Sure : Type 0 → Type 0
Sure A = (A → ⊥) → ⊥

excluded : {A : Type 0} → Sure (A ⊎ (A → ⊥))
excluded k = k (inr (λ a. k (inl a)))

zero_or_not : (x : Fraction) → (x ≡ ℚ.zero) ⊎ (x ≢ ℚ.zero)
zero_or_not x = go (fraction_eq x ℚ.zero) refl
  where
    go : (b : Bool) → fraction_eq x ℚ.zero ≡ b → (x ≡ ℚ.zero) ⊎ (x ≢ ℚ.zero)
    go true e = inl (fraction_eq_true x ℚ.zero e)
    go false e =
        inr (λ z. true≢false (sym (fraction_eq_refl ℚ.zero)
        ∙ ap (λ y. fraction_eq y ℚ.zero) (sym z) ∙ e))

abbrev HasTerms : List (List ℕ) → Terms Fraction → Type 0
HasTerms es q = Each (λ t. In t.0 es) q

-- ---- without the terms of a monomial
others_terms : (e : List ℕ) (es : List (List ℕ)) (q : Terms Fraction) → HasTerms (e ∷ es) q
    → HasTerms es (others e q)
unfolding Each
others_terms e es [] h = tt
others_terms e es (t ∷ q) h = go (same e t.0) refl h.0 (others_terms e es q h.1)
  where
    go : (b : Bool) → same e t.0 ≡ b → In t.0 (e ∷ es) → HasTerms es (others e q)
        → HasTerms es (cond (not b) (t ∷ others e q) (others e q))
    go true s i k = k
    go false s (inl j) k = absurd (true≢false (sym (same_refl e) ∙ ap (same e) (sym j) ∙ s))
    go false s (inr j) k = (j, k)

others_arity : (m : ℕ) (e : List ℕ) (q : Terms Fraction) → Arity m q → Arity m (others e q)
unfolding Each
others_arity m e [] h = tt
others_arity m e (t ∷ q) h = go (same e t.0) (others_arity m e q h.1)
  where
    go : (b : Bool) → Arity m (others e q) → Arity m (cond (not b) (t ∷ others e q) (others e q))
    go true k = k
    go false k = (h.0, k)

others_same : (e : List ℕ) (q : Terms Fraction) → coefficient ℚ q e ≡ ℚ.zero
    → Same ℚ (others e q) q
others_same e q z = record { at = λ d. go d (same_cases d e) }
  where
    go : (d : List ℕ) → (d ≡ e) ⊎ (same d e ≡ false)
        → coefficient ℚ (others e q) d ≡ coefficient ℚ q d
    go d (inl i) =
        subst (λ x. coefficient ℚ (others e q) x ≡ coefficient ℚ q x) (sym i)
        (coefficient_apart ℚ_ring e (others e q) (distinct.apart_others ℚ_ring e q) ∙ sym z)
    go d (inr n) = coefficient-others ℚ_ring e q d n

-- ---- spans
module _ (m : ℕ) (I : Terms Fraction → Type 0) (ideal : IsIdeal m I) where
  pub record Spanned (es : List (List ℕ)) : Type 0 where
    pub list : List (Terms Fraction)
    pub members : Each I list
    pub within : Each (HasTerms es) list
    pub has : (q : Terms Fraction) → HasTerms es q → I q → IsMember ℚ m list q

  record Occurs (e : List ℕ) (es : List (List ℕ)) : Type 0 where
    of : Terms Fraction
    is_in : I of
    terms : HasTerms (e ∷ es) of
    occurs : coefficient ℚ of e ≢ ℚ.zero

  scaled_in : (c : Fraction) (p : Terms Fraction) → I p → I (scaled c p)
  scaled_in c p i =
      subst I (constant_times m c p (ideal.arity p i) ∙ append-nil (scaled c p))
      (ideal.multiple (constant m c) p (arity-constant m c) i)

  list_arity : (gs : List (Terms Fraction)) → Each I gs → AllArity m gs
  list_arity gs h = each_weaker I (Arity m) ideal.arity gs h

  cancels : (x y : Fraction) → y ≢ ℚ.zero
      → ℚ.add x (ℚ.mul (ℚ.neg (ℚ.mul x (inverse y))) y) ≡ ℚ.zero
  cancels x y n =
      together ℚ_ring x (inverse y) y
      ∙ ap (λ u. ℚ.add x (ℚ.neg (ℚ.mul x u))) (mul-inverse_left ℚ_field.inverses y n)
      ∙ ap (λ u. ℚ.add x (ℚ.neg u)) (ℚ_ring.mul-one x) ∙ ℚ_ring.add-neg x
    where
      together : {A : Type 0} (R : CommRing A) (x i y : A)
          → R.add x (R.mul (R.neg (R.mul x i)) y) ≡ R.add x (R.neg (R.mul x (R.mul i y)))
      together R x i y = ring R (x ∷ i ∷ y ∷ []) (search ring_rules depth 40) refl

  by_occurring : (e : List ℕ) (es : List (List ℕ)) (s : Spanned es) (o : Occurs e es)
      (q : Terms Fraction) → HasTerms (e ∷ es) q → I q → IsMember ℚ m (o.of ∷ s.list) q
  unfolding Each
  by_occurring e es s o q h i =
      let p = o.of in
      let c = ℚ.neg (ℚ.mul (coefficient ℚ q e) (inverse (coefficient ℚ p e))) in
      let r = q ++ scaled c p in
      let gs = p ∷ s.list in
      let pa = ideal.arity p o.is_in in
      let ga : AllArity m gs = (pa, list_arity s.list s.members) in
      let ri : I r = ideal.sum q (scaled c p) i (scaled_in c p o.is_in) in
      let none : coefficient ℚ r e ≡ ℚ.zero =
      coefficient-append exponents ℚ_ring q (scaled c p) e
      ∙ ap (ℚ.add (coefficient ℚ q e)) (coefficient-scaled c p e)
      ∙ cancels (coefficient ℚ q e) (coefficient ℚ p e) o.occurs in
      let t = others e r in
      let ta : Arity m t = others_arity m e r (ideal.arity r ri) in
      let ti : I t = ideal.same r t ta (Same-sym ℚ (others_same e r none)) ri in
      let th : HasTerms es t =
      others_terms e es r
      (each-append (λ u. In u.0 (e ∷ es)) q (scaled c p) h
      (scaled_each (λ d. In d (e ∷ es)) c p o.terms)) in
      let w = scaled (ℚ.neg c) p in
      let wa : Arity m w = scaled_each (λ d. length d ≡ m) (ℚ.neg c) p pa in
      member_same m gs (t ++ w) q (back e q c p t (others_same e r none))
      (member_append m gs ga t w ta wa
      (member_right m (p ∷ []) s.list t (pa, tt) (list_arity s.list s.members) ta
      (s.has t th ti))
      (subst (IsMember ℚ m gs)
      (constant_times m (ℚ.neg c) p pa ∙ append-nil (scaled (ℚ.neg c) p))
      (member_times m gs ga (constant m (ℚ.neg c)) p (arity-constant m (ℚ.neg c)) pa
      (member_in m gs p ga (inl refl)))))
    where
      undone : {A : Type 0} (R : CommRing A) (x c y : A) → x
          ≡ R.add (R.add x (R.mul c y)) (R.mul (R.neg c) y)
      undone R x c y = ring R (x ∷ c ∷ y ∷ []) (search ring_rules depth 40) refl

      back : (e : List ℕ) (q : Terms Fraction) (c : Fraction) (p t : Terms Fraction)
          → Same ℚ t (q ++ scaled c p) → Same ℚ q (t ++ scaled (ℚ.neg c) p)
      back e q c p t s = record {
        at = λ d.
            undone ℚ_ring (coefficient ℚ q d) c (coefficient ℚ p d)
            ∙ sym (coefficient-append exponents ℚ_ring t (scaled (ℚ.neg c) p) d
            ∙ ap₂ ℚ.add (s.at d ∙ coefficient-append exponents ℚ_ring q (scaled c p) d
            ∙ ap (ℚ.add (coefficient ℚ q d)) (coefficient-scaled c p d))
            (coefficient-scaled (ℚ.neg c) p d));
      }

  with_monomial : (e : List ℕ) (es : List (List ℕ)) → Spanned es
      → Occurs e es ⊎ (Occurs e es → ⊥) → Spanned (e ∷ es)
  unfolding Each
  with_monomial e es s (inl o) = record {
    list = o.of ∷ s.list;
    members = (o.is_in, s.members);
    within = (
      o.terms,
      each_weaker (HasTerms es) (HasTerms (e ∷ es))
          (λ g h. each_weaker (λ t. In t.0 es) (λ t. In t.0 (e ∷ es)) (λ t i. inr i) g h)
          s.list s.within,
    );
    has = by_occurring e es s o;
  }
  with_monomial e es s (inr none) = record {
    list = s.list;
    members = s.members;
    within = each_weaker (HasTerms es) (HasTerms (e ∷ es))
        (λ g h. each_weaker (λ t. In t.0 es) (λ t. In t.0 (e ∷ es)) (λ t i. inr i) g h)
        s.list s.within;
    has = λ q h i. elim (zero_or_not (coefficient ℚ q e)) [
      | inl z ↦ (let a = others_arity m e q (ideal.arity q i) in
          let o = others_same e q z in
          member_same m s.list (others e q) q (Same-sym ℚ o)
          (s.has (others e q) (others_terms e es q h)
          (ideal.same q (others e q) a (Same-sym ℚ o) i)))
      | inr n ↦ absurd (none (record { of = q; is_in = i; terms = h; occurs = n }))
    ];
  }

  no_terms : (q : Terms Fraction) → HasTerms [] q → IsMember ℚ m [] q
  unfolding Each
  no_terms [] h = member_nil m []
  no_terms (t ∷ q) h = absurd h.0

  pub spanned : (es : List (List ℕ)) → Sure (Spanned es)
  unfolding Each
  spanned [] k = k (record { list = []; members = tt; within = tt; has = λ q h i. no_terms q h })
  spanned (e ∷ es) k = spanned es (λ s. excluded (λ o. k (with_monomial e es s o)))

-- ---- the invariants
module _ (G : Graph) (is : IsGraph G) (d : ℕ) where
  abbrev n : ℕ
  n = G.variables

  pub record Has (v : ℕ) (gs : List (Terms Fraction)) : Type 0 where
    pub members : Each (Inv G v) gs
    pub low : Each (IsAtMost d) gs
    pub has : (q : Terms Fraction) → IsAtMost d q → Inv G v q → IsMember ℚ n gs q

  pub record HasAll (k : ℕ) : Type 0 where
    pub lists : Family
    pub are : (v : ℕ) → v < k → Has v (lists v)

  at_node : (v : ℕ) → Sure ((gs : List (Terms Fraction)) × Has v gs)
  at_node v k =
      let es = monomials_up_to n d in
      let all = are_monomials_up_to n d in
      spanned n (Inv G v) (invariants_ideal G v) es (λ s. k (
        s.list,
        record {
          members = s.members;
          low = each_weaker (HasTerms es) (IsAtMost d)
              (λ g h. each_weaker (λ t. In t.0 es) (λ t. sum t.0 ≤ d)
              (λ t i. each_in (λ e. sum e ≤ d) es t.0 all.degrees i) g h) s.list s.within;
          has = λ q low i.
              s.has q (each_from q (λ t j.
              all.covers t.0 (each_in (λ t. length t.0 ≡ n) q t i.arity j)
              (each_in (λ t. sum t.0 ≤ d) q t low j))) i;
        },
      ))

  all_nodes : (k : ℕ) → Sure (HasAll k)
  all_nodes zero f = f (record { lists = λ v. []; are = λ v l. absurd (omega (arith, l)) })
  all_nodes (suc k) f =
      all_nodes k (λ h. at_node k (λ g. f (record {
        lists = λ w. cond (eqb w k) g.0 (h.lists w);
        are = λ v l. one k h g.0 g.1 v l (eqb v k) refl;
      })))
    where
      one : (k : ℕ) (h : HasAll k) (gs : List (Terms Fraction)) → Has k gs → (v : ℕ)
          → v < suc k → (b : Bool) → eqb v k ≡ b → Has v (cond b gs (h.lists v))
      one k h gs g v l true e =
          let s : k ≡ v = grind (arith, e) in subst (λ w. Has w gs) s g
      one k h gs g v l false e = h.are v (below k v l e)
        where
          below : (k v : ℕ) → v < suc k → eqb v k ≡ false → v < k
          below k v l e = grind (arith, l, e)

  at_start : Has 0 []
  unfolding Each
  at_start = record {
    members = tt;
    low = tt;
    has = λ q low i.
        member_same n [] [] q
        (zero_by_values n q i.arity (λ s l. i.zero s (start s l))) (member_nil n []);
  }

  -- node 0 has nothing
  started : (k : ℕ) → HasAll k → HasAll k
  started k h = record {
    lists = λ w. cond (eqb w 0) [] (h.lists w);
    are = λ v l. one v l (eqb v 0) refl;
  }
    where
      one : (v : ℕ) → v < k → (b : Bool) → eqb v 0 ≡ b → Has v (cond b [] (h.lists v))
      one v l true e = let s : 0 ≡ v = grind (arith, e) in subst (λ w. Has w []) s at_start
      one v l false e = h.are v l

  module _ (affine : (t : Transition) → In t G.transitions → IsAffine t) (h : HasAll G.nodes)
    where
      abbrev C : Family
      C = (started G.nodes h).lists

      are : (v : ℕ) → v < G.nodes → Has v (C v)
      are = (started G.nodes h).are

      C_arity : (v : ℕ) → v < G.nodes → AllArity n (C v)
      C_arity v l = each_weaker (Inv G v) (Arity n) (λ p i. i.arity) (C v) (are v l).members

      all_inductive : IsInductive G C
      unfolding started
      all_inductive = record {
        arities = C_arity;
        start = refl;
        kept = λ t i. each_from (C t.to) (λ p j.
            let f = (transition_is G is t i).from_node in
            let to = (transition_is G is t i).to_node in
            affine_goes G is t i (affine t i) d C (C_arity t.from f) (are t.from f).has p
            (each_in (IsAtMost d) (C t.to) p (are t.to to).low j)
            (each_in (Inv G t.to) (C t.to) p (are t.to to).members j));
      }

      all_provable : (v : ℕ) → v < G.nodes → (p : Terms Fraction) → IsAtMost d p → Inv G v p
          → IsProvable G d v p
      all_provable v l p low i = record {
        arity = i.arity;
        family = C;
        inductive = all_inductive;
        degree = record { at_most = λ w k. (are w k).low };
        member = (are v l).has p low i;
      }

  pub surely_provable : ((t : Transition) → In t G.transitions → IsAffine t) → (v : ℕ)
      → v < G.nodes → (p : Terms Fraction) → IsAtMost d p → Inv G v p
      → Sure (IsProvable G d v p)
  surely_provable affine v l p low i k =
      all_nodes G.nodes (λ h. k (all_provable affine h v l p low i))

  pub provable_is_all : ((t : Transition) → In t G.transitions → IsAffine t) → (v : ℕ)
      → v < G.nodes → (gs : List (Terms Fraction)) → IsReducedUpTo n d gs (IsProvable G d v)
      → IsReducedUpTo n d gs (Inv G v)
  unfolding lead_of
  provable_is_all affine v l gs r = record {
    tidy = r.tidy;
    members = λ g i. provable_sound G is d v l g (r.members g i);
    led = λ t p q low i. elim (up_to.find_lead gs t.0) [
      | inl found ↦ found
      | inr none ↦ absurd (surely_provable affine v l (t ∷ p) (all_low n d (t ∷ p) q low) i (λ h.
          let (g, j, div) = r.led t p q low h in true≢false (sym div ∙ none g j)))
    ];
  }
