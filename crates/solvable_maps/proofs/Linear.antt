-- Where there is no cycle, a polynomial is linear in the variables of its own class.
--   map_bounded           only variables of the map are used
--   strongly_uses         what is used strongly is used
--   own_is_unit           a monomial of f_i with a variable j of i's class is that variable
--   degree_one            a monomial of degree 1 with a variable is that variable;  exponent_degree: an exponent is at most the degree
use Rattle.std.proofs.Common.{◌≡◌, inl, inr, ℕ, zero, suc, ◌<◌, ◌≤◌, List, [], ◌∷◌, length, replicate, Bool, true, false, T, ltb, refl, sym, ap, ap₂, subst, ◌∙◌, arith, lt→ltb, ltb→lt}
use Rattle.algebra.specs.Each.{Each}
use Rattle.polynomials.specs.Terms.{Terms}
use Rattle.polynomials.specs.Polynomial.{Arity, AllArity}
use Rattle.solvable_maps.specs.Dependency.{IsNonlinearCycle}
use Rattle.solvable_maps.specs.Class.{InClass}
use Rattle.algebra.specs.In.{In}
use Rattle.solvable_maps.specs.Uses.{exponent, degree, any, has, has_strongly, poly_at, uses, strongly, IsMap, unit}
use Rattle.algebra.proofs.Basics.{both_in, both_out}
use Rattle.solvable_maps.proofs.Reach.{or_out, or_left, or_right}

pub exponent_past : (e : List ℕ) (j : ℕ) → length e ≤ j → exponent e j ≡ 0
exponent_past [] j l = refl
exponent_past (n ∷ e) zero l = absurd (omega arith)
exponent_past (n ∷ e) (suc j) l = exponent_past e j (omega arith)

pub exponent_degree : (e : List ℕ) (j : ℕ) → exponent e j ≤ degree e
exponent_degree [] j = omega arith
exponent_degree (n ∷ e) zero = omega arith
exponent_degree (n ∷ e) (suc j) = (let h = exponent_degree e j in omega (arith, h))

degree_none : (m : ℕ) (e : List ℕ) → length e ≡ m → degree e ≡ 0 → e ≡ replicate m 0
degree_none zero [] l h = refl
degree_none zero (n ∷ e) l h = absurd (omega arith)
degree_none (suc m) [] l h = absurd (omega arith)
degree_none (suc m) (n ∷ e) l h =
    ap₂ ◌∷◌ (omega arith) (degree_none m e (omega arith) (omega arith))

-- of degree 1 and with the variable j: it is j
pub degree_one : (m : ℕ) (e : List ℕ) (j : ℕ) → length e ≡ m → degree e ≡ 1 → 0 < exponent e j
    → e ≡ unit m j
degree_one m [] j l h k = absurd (omega arith)
degree_one zero (n ∷ e) j l h k = absurd (omega arith)
degree_one (suc m) (n ∷ e) zero l h k =
    ap₂ ◌∷◌ (omega arith) (degree_none m e (omega arith) (omega arith))
degree_one (suc m) (n ∷ e) (suc j) l h k = (let d = exponent_degree e j in
    ap₂ ◌∷◌ (omega (arith, d)) (degree_one m e j (omega arith) (omega (arith, d)) k))

module _ {A : Type 0} where
  pub any_out : (test : List ℕ → Bool) (p : Terms A) → T (any test p) → (t : List ℕ × A) × In t p
      × T (test t.0)
  any_out test [] h = absurd h
  any_out test (t ∷ p) h =
      elim (or_out (test t.0) (any test p) h) [
        | inl a ↦ (t, inl refl, a)
        | inr b ↦ (let r = any_out test p b in (r.0, inr r.1, r.2))
      ]

  pub any_in : (test : List ℕ → Bool) (p : Terms A) (t : List ℕ × A) → In t p → T (test t.0)
      → T (any test p)
  any_in test [] t i h = absurd i
  any_in test (u ∷ p) t (inl e) h = or_left (test u.0) (any test p)
      (subst (λ x. T (test x)) (ap (λ (z : List ℕ × A). z.0) e) h)
  any_in test (u ∷ p) t (inr j) h = or_right (test u.0) (any test p) (any_in test p t j h)

  arity_in : (m : ℕ) (p : Terms A) → Arity m p → (t : List ℕ × A) → In t p → length t.0 ≡ m
  unfolding Each
  arity_in m [] a t i = absurd i
  arity_in m (u ∷ p) a t (inl e) = ap (λ (z : List ℕ × A). length z.0) e ∙ a.0
  arity_in m (u ∷ p) a t (inr j) = arity_in m p a.1 t j

  arity_at : (m : ℕ) (map : List (Terms A)) → AllArity m map → (i : ℕ) → Arity m (poly_at map i)
  unfolding Each
  arity_at m [] a i = tt
  arity_at m (p ∷ map) a zero = a.0
  arity_at m (p ∷ map) a (suc i) = arity_at m map a.1 i

  used_in : (map : List (Terms A)) (i : ℕ) (test : List ℕ → Bool) → T (any test (poly_at map i))
      → i < length map
  used_in [] i test h = absurd h
  used_in (p ∷ map) zero test h = omega arith
  used_in (p ∷ map) (suc i) test h = (let l = used_in map i test h in omega (arith, l))

  module _ (m : ℕ) (map : List (Terms A)) (is : IsMap m map) where
    pub map_bounded : (i j : ℕ) → T (uses map i j) → (i < m) × (j < m)
    map_bounded i j h =
        let r = any_out (has j) (poly_at map i) h in (
          subst (λ k. i < k) is.size (used_in map i (has j) h),
          below r.0.0 (arity_in m (poly_at map i) (arity_at m map is.arity i) r.0 r.1)
              (ltb→lt 0 (exponent r.0.0 j) r.2),
        )
      where
        below : (e : List ℕ) → length e ≡ m → 0 < exponent e j → j < m
        below e l h = grind (arith, exponent_past e j)

    pub strongly_uses : (i j : ℕ) → T (strongly map i j) → T (uses map i j)
    strongly_uses i j h = (let r = any_out (has_strongly j) (poly_at map i) h in
        any_in (has j) (poly_at map i) r.0 r.1 (both_out (has j r.0.0) (ltb 1 (degree r.0.0))
        r.2).0)

    -- a monomial of i with a variable of its class has degree 1
    pub own_degree : ((vs : List ℕ) → IsNonlinearCycle (uses map) (strongly map) vs → ⊥) → (i j : ℕ)
        → InClass (uses map) i j → (t : List ℕ × A) → In t (poly_at map i) → 0 < exponent t.0 j
        → degree t.0 ≡ 1
    own_degree none i j k t h l = go (ltb 1 (degree t.0)) refl
      where
        some : T (has j t.0)
        some = lt→ltb 0 (exponent t.0 j) l

        cycle : T (strongly map i j) → InClass (uses map) i j → ⊥
        cycle s (inl e) = none (i ∷ j ∷ []) (s, tt, sym e)
        cycle s (inr r) = none (i ∷ j ∷ r.1.first ∷ r.1.others) (s, r.1.walks, r.1.ends)

        low : (b : Bool) → ltb 1 (degree t.0) ≡ b → (T b → ⊥) → degree t.0 ≤ 1
        low b e n = grind (arith, lt→ltb 1 (degree t.0), subst T e)

        go : (b : Bool) → ltb 1 (degree t.0) ≡ b → degree t.0 ≡ 1
        go true e =
            absurd (cycle (any_in (has_strongly j) (poly_at map i) t h
            (both_in (has j t.0) (ltb 1 (degree t.0)) some (subst T (sym e) tt))) k)
        go false e = (let a = exponent_degree t.0 j in let b = low false e (λ x. x) in
            omega (arith, a, b, l))

    -- so it is that variable
    pub own_is_unit : ((vs : List ℕ) → IsNonlinearCycle (uses map) (strongly map) vs → ⊥)
        → (i j : ℕ)
        → InClass (uses map) i j → (t : List ℕ × A) → In t (poly_at map i) → 0 < exponent t.0 j
        → t.0 ≡ unit m j
    own_is_unit none i j k t h l =
        degree_one m t.0 j (arity_in m (poly_at map i) (arity_at m map is.arity i) t h)
        (own_degree none i j k t h l) l
