-- Where each variable is alone in its class, the eigenvalues are the numbers of the variables in their own polynomials.
--   own images i               the number of the variable i in its polynomial
--   all_apart images n         no two of the first n variables reach each other, as a test
--   own_is_eigenvalue, eigenvalue_is_own
use Rattle.std.proofs.Common.{◌≡◌, inl, inr, ℕ, zero, suc, ◌<◌, List, [], ◌∷◌, map, length, Bool, true, not, ◌&&◌, T, refl, sym, ap, subst, ◌∙◌, arith}
use Rattle.std.proofs.lemmas.Bool.{cases_lt}
use Rattle.algebra.specs.Each.{Each}
use Rattle.algebra.specs.In.{In}
use Rattle.algebra.specs.Ring.{CommRing, Field}
use Rattle.algebra.proofs.Basics.{both_out, both_in, same_head, not_out}
use Rattle.algebra.proofs.FieldLaws as FL
use Rattle.algebra.proofs.RingSolver.{ring, ring_rules}
use Rattle.algebra.specs.Fraction.{Fraction, ℚ}
use Rattle.algebra.proofs.Fractions.{ℚ_ring, ℚ_field}
use Rattle.polynomials.specs.Terms.{Terms, coefficient, sum_of_products}
use Rattle.polynomials.specs.Polynomial.{AllArity}
use Rattle.solvable_maps.specs.Dependency.{Reaches, reach}
use Rattle.solvable_maps.specs.Class.{InClass, IsClassOf}
use Rattle.solvable_maps.specs.Uses.{poly_at, uses, IsMap, unit}
use Rattle.solvable_maps.proofs.Classes.{same_ascending}
use Rattle.solvable_maps.proofs.Linear.{map_bounded}
use Rattle.solvable_maps.proofs.Reach.{reach_all}
use Rattle.solvable_maps.specs.Classes.{IsClass, column, IsEigenvalue}

module _ (images : List (Terms Fraction)) where
  abbrev m : ℕ
  m = length images

  abbrev pub own : ℕ → Fraction
  own i = coefficient ℚ (poly_at images i) (unit m i)

  -- ---- the test
  abbrev meets : ℕ → ℕ → Bool
  meets i j = reach (uses images) m i j && reach (uses images) m j i

  abbrev apart_from : ℕ → ℕ → Bool
  apart_from i zero = true
  apart_from i (suc j) = not (meets i j) && apart_from i j

  abbrev pub all_apart : ℕ → Bool
  all_apart zero = true
  all_apart (suc i) = apart_from i i && all_apart i

  apart_at : (i n : ℕ) → T (apart_from i n) → (j : ℕ) → j < n → T (meets i j) → ⊥
  apart_at i zero t j l = absurd (omega (arith, l))
  apart_at i (suc n) t j l =
      let (here, later) = both_out (not (meets i n)) (apart_from i n) t in
      elim (cases_lt j n) [
        | inl below ↦ apart_at i n later j below
        | inr above ↦ subst (λ k. T (meets i k) → ⊥) (let e : n ≡ j = omega (arith, l, above) in e)
            (not_out (meets i n) here)
      ]

  apart_all : (n : ℕ) → T (all_apart n) → (i : ℕ) → i < n → (j : ℕ) → j < i → T (meets i j) → ⊥
  apart_all zero t i l = absurd (omega (arith, l))
  apart_all (suc n) t i l =
      let (here, later) = both_out (apart_from n n) (all_apart n) t in
      elim (cases_lt i n) [
        | inl below ↦ apart_all n later i below
        | inr above ↦ subst (λ k. (j : ℕ) → j < k → T (meets k j) → ⊥) (let e : n ≡ i =
            omega (arith, l, above) in e) (apart_at n n here)
      ]

  module _ (arities : AllArity m images) (test : T (all_apart m)) where
    is_map : IsMap m images
    is_map = record { size = refl; arity = arities }

    within : (i j : ℕ) → T (uses images i j) → j < m
    within i j t = (map_bounded m images is_map i j t).1

    meeting : (i j : ℕ) → Reaches (uses images) i j → Reaches (uses images) j i → T (meets i j)
    meeting i j r s = both_in _ _ (reach_all (uses images) m within i j r)
        (reach_all (uses images) m within j i s)

    alone : (i j : ℕ) → i < m → j < m → InClass (uses images) i j → i ≡ j
    alone i j k l (inl e) = e
    alone i j k l (inr (r, s)) =
        elim (cases_lt j i) [
          | inl below ↦ absurd (apart_all m test i k j below (meeting i j r s))
          | inr above ↦ elim (cases_lt i j) [
            | inl below ↦ absurd (apart_all m test j l i below (meeting j i s r))
            | inr same ↦ omega (arith, above, same)
          ]
        ]

    class_of : (i : ℕ) → i < m → IsClassOf (uses images) m i (i ∷ [])
    class_of i l = record {
      ascends = (tt, tt);
      inside = λ j h. elim h [
        | inl e ↦ (subst (λ k. k < m) (sym e) l, inl (sym e))
        | inr n
            ↦ absurd n
      ];
      whole = λ j k h. inl (sym (alone i j l k h));
    }

    class_is : (g : List ℕ) (c : IsClass images g) → g ≡ c.of ∷ []
    class_is g c = same_ascending g (c.of ∷ []) c.is.ascends (tt, tt)
        (λ j h. let (k, i) = c.is.inside j h in inl (sym (alone c.of j c.within k i)))
        (λ j h. elim h [
          | inl e ↦ subst (λ k. In k g) (sym e) (c.is.whole c.of c.within (inl refl))
          | inr n ↦ absurd n
        ])

    pub own_is_eigenvalue : (i : ℕ) → i < m → IsEigenvalue images (own i)
    unfolding sum_of_products Each
    own_is_eigenvalue i l = record {
      class = i ∷ [];
      is = record { of = i; within = l; is = class_of i l };
      vector = ℚ.one ∷ [];
      nonzero = λ n. ℚ_field.one-ne-zero n.0;
      eigen = ap (λ x. x ∷ []) (one_times ℚ_ring (own i));
    }
      where
        one_times : {A : Type 0} (R : CommRing A) (x : A) → R.add (R.mul R.one x) R.zero
            ≡ R.mul x R.one
        one_times R x = ring R (x ∷ []) (search ring_rules depth 40) refl

    pub eigenvalue_is_own : (x : Fraction) → IsEigenvalue images x → (i : ℕ) × (i < m) × (x ≡ own i)
    unfolding sum_of_products Each
    eigenvalue_is_own x e = (
      e.is.of,
      e.is.within,
      go e.vector e.nonzero
          (subst (λ g. map (λ j. sum_of_products ℚ e.vector (column images g j)) g ≡ map (ℚ.mul x)
          e.vector) (class_is e.class e.is) e.eigen),
    )
      where
        i : ℕ
        i = e.is.of

        cancelled : {A : Type 0} (F : Field A) (x y v : A) → (v ≡ F.zero → ⊥)
            → F.add (F.mul v y) F.zero ≡ F.mul x v → x ≡ y
        cancelled F x y v n h = FL.cancel F x y v n (sym h ∙ F.add-zero (F.mul v y)
            ∙ F.mul_comm v y)

        go : (vs : List Fraction) → (Each (λ a. a ≡ ℚ.zero) vs → ⊥)
            → map (λ j. sum_of_products ℚ vs (column images (i ∷ []) j)) (i ∷ []) ≡ map (ℚ.mul x) vs
            → x ≡ own i
        go [] n h = absurd (n tt)
        go (v ∷ w ∷ vs) n h = absurd (let e = ap length h in omega (arith, e))
        go (v ∷ []) n h = cancelled ℚ_field x (own i) v (λ z. n (z, tt)) (same_head h)
