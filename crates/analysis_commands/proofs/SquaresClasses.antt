-- The map a + 1, s + t + 2, t + 2 of the loop of the squares: each variable is a class for itself, in the order a, t, s, with the eigenvalue 1.
--   squares_images          the map;  bounded: it uses its variables alone
--   stays                   what is kept by uses is kept by walks
--   class_is                a class is its variable
--   classes                 the classes in their order;  place_of: a class stands there, and what s uses before it
--   matrix_is, splits_at    the matrix of each is 1, which splits
--   squares_solvable, squares_pass, squares_short     no cycle, no class is refused, none is too long
--   squares_base_is         the base of the eigenvalues is empty
use Rattle.std.proofs.Common.{◌≡◌, ◌⊎◌, inl, inr, ℕ, zero, suc, ◌<◌, ◌≤◌, List, [], ◌∷◌, ◌++◌, T, length, refl, sym, ap, subst, ◌∙◌, arith}
use Rattle.std.specs.List.{concat}
use Rattle.algebra.specs.Each.{Each}
use Rattle.algebra.specs.In.{In}
use Rattle.algebra.specs.Gcd.{gcd}
use Rattle.algebra.specs.Ratio.{is_lowest, reduce}
use Rattle.algebra.specs.Sum.{sum_over}
use Rattle.algebra.specs.Fraction as Fraction
use Rattle.algebra.specs.Fraction.{Fraction, fraction, whole}
use Rattle.algebra.proofs.Basics.{same_head, same_tail}
use Rattle.algebra.proofs.Fractions.{ℚ_field}
use Rattle.polynomials.specs.Algebra as Algebra
use Rattle.polynomials.specs.Exponent.{same}
use Rattle.polynomials.specs.Polynomial.{AllArity}
use Rattle.polynomials.specs.Terms.{Terms}
use Rattle.expansion.specs.Counts.{most_terms}
use Rattle.expansion.proofs.Counting.{most_is}
use Rattle.vectors.specs.Matrices.{SplitsAt}
use Rattle.solvable_maps.specs.Dependency.{Walks, last_of, Reaches, IsNonlinearCycle}
use Rattle.solvable_maps.specs.Class.{InClass, IsClassOf, IsNext, AreClasses}
use Rattle.solvable_maps.specs.Classes.{class_matrix, IsClass, Passes, IsEigenvalue, IsFormBase}
use Rattle.solvable_maps.specs.Uses.{uses, strongly}
use Rattle.solvable_maps.proofs.Classes.{class_one}
use Rattle.solvable_maps.proofs.Linear.{map_bounded}
use Rattle.eigen_split.proofs.OneNumber.{single_splits}
use Rattle.expansion.specs.Lengths.{power_length, product_length}
use Rattle.closed_forms.specs.Lengths.{class_length, IsShort}
use Rattle.rounds.proofs.Alone.{own, own_is_eigenvalue, eigenvalue_is_own}
use Rattle.analysis_commands.proofs.ScaledMap.{one, base_is}
use Rattle.analysis_commands.proofs.ScaledNumbers.{two, one_scaled}

abbrev pub squares_images : List (Terms Fraction)
squares_images =
    ((1 ∷ 0 ∷ 0 ∷ [], one) ∷ (0 ∷ 0 ∷ 0 ∷ [], one) ∷ [])
    ∷ ((0 ∷ 1 ∷ 0 ∷ [], one) ∷ (0 ∷ 0 ∷ 1 ∷ [], one) ∷ (0 ∷ 0 ∷ 0 ∷ [], two) ∷ [])
    ∷ ((0 ∷ 0 ∷ 1 ∷ [], one) ∷ (0 ∷ 0 ∷ 0 ∷ [], two) ∷ []) ∷ []

abbrev Uses : ℕ → ℕ → Type 0
Uses i j = T (uses squares_images i j)

abbrev Walk : ℕ → ℕ → Type 0
Walk i j = Reaches (uses squares_images) i j

arities : AllArity 3 squares_images
unfolding Each
arities =
    ((refl, (refl, tt)), ((refl, (refl, (refl, tt))), ((refl, (refl, tt)), tt)))

pub bounded : (i j : ℕ) → T (uses squares_images i j) → (i < 3) × (j < 3)
bounded = map_bounded 3 squares_images (record { size = refl; arity = arities })

-- ---- three places
pub each_place : (P : ℕ → Type 0) → P 0 → P 1 → P 2 → (i : ℕ) → i < 3 → P i
each_place P a b c zero l = a
each_place P a b c (suc zero) l = b
each_place P a b c (suc (suc zero)) l = c
each_place P a b c (suc (suc (suc i))) l = absurd (omega (arith, l))

-- ---- what is reached
stays : (P : ℕ → Type 0) → ((i j : ℕ) → P i → Uses i j → P j) → (i j : ℕ) → P i → Walk i j → P j
stays P on i j p r = subst P r.ends (go r.first r.others (on i r.first p r.walks.0) r.walks.1)
  where
    go : (v : ℕ) (vs : List ℕ) → P v → Walks (uses squares_images) v vs → P (last_of v vs)
    go v [] p w = p
    go v (x ∷ vs) p w = go x vs (on v x p w.0) w.1

from_first : (j : ℕ) → Walk 0 j → j ≡ 0
from_first j r = stays (λ k. k ≡ 0) on 0 j refl r
  where
    on : (i j : ℕ) → i ≡ 0 → Uses i j → j ≡ 0
    on zero zero e t = refl
    on zero (suc zero) e t = absurd t
    on zero (suc (suc zero)) e t = absurd t
    on zero (suc (suc (suc j))) e t = absurd t
    on (suc i) j e t = absurd (omega (arith, e))

from_last : (j : ℕ) → Walk 2 j → j ≡ 2
from_last j r = stays (λ k. k ≡ 2) on 2 j refl r
  where
    on : (i j : ℕ) → i ≡ 2 → Uses i j → j ≡ 2
    on zero j e t = absurd (omega (arith, e))
    on (suc zero) j e t = absurd (omega (arith, e))
    on (suc (suc zero)) zero e t = absurd t
    on (suc (suc zero)) (suc zero) e t = absurd t
    on (suc (suc zero)) (suc (suc zero)) e t = refl
    on (suc (suc zero)) (suc (suc (suc j))) e t = absurd t
    on (suc (suc (suc i))) j e t = absurd (omega (arith, e))

from_middle : (j : ℕ) → Walk 1 j → (j ≡ 1) ⊎ (j ≡ 2)
from_middle j r = stays (λ k. (k ≡ 1) ⊎ (k ≡ 2)) on 1 j (inl refl) r
  where
    on : (i j : ℕ) → (i ≡ 1) ⊎ (i ≡ 2) → Uses i j → (j ≡ 1) ⊎ (j ≡ 2)
    on zero j (inl e) t = absurd (omega (arith, e))
    on zero j (inr e) t = absurd (omega (arith, e))
    on (suc zero) zero e t = absurd t
    on (suc zero) (suc zero) e t = inl refl
    on (suc zero) (suc (suc zero)) e t = inr refl
    on (suc zero) (suc (suc (suc j))) e t = absurd t
    on (suc (suc zero)) zero e t = absurd t
    on (suc (suc zero)) (suc zero) e t = absurd t
    on (suc (suc zero)) (suc (suc zero)) e t = inr refl
    on (suc (suc zero)) (suc (suc (suc j))) e t = absurd t
    on (suc (suc (suc i))) j (inl e) t = absurd (omega (arith, e))
    on (suc (suc (suc i))) j (inr e) t = absurd (omega (arith, e))

middle_uses_last : Walk 1 2
middle_uses_last = record { first = 2; others = []; walks = (tt, tt); ends = refl }

no_way_back : Walk 2 1 → ⊥
no_way_back r = let e = from_last 1 r in omega (arith, e)

-- ---- the classes
alone : (i j : ℕ) → i < 3 → InClass (uses squares_images) i j → i ≡ j
alone i j l (inl e) = e
alone i j l (inr (r, s)) = apart i l r s
  where
    apart : (i : ℕ) → i < 3 → Walk i j → Walk j i → i ≡ j
    apart zero l r s = sym (from_first j r)
    apart (suc zero) l r s = elim (from_middle j r) [
      | inl e ↦ sym e
      | inr e ↦ absurd (no_way_back (subst (λ k. Walk k 1) e s))
    ]
    apart (suc (suc zero)) l r s = sym (from_last j r)
    apart (suc (suc (suc i))) l r s = absurd (omega (arith, l))

class_at : (i : ℕ) → i < 3 → IsClassOf (uses squares_images) 3 i (i ∷ [])
class_at i l = record {
  ascends = (tt, tt);
  inside = λ j h. elim h [
    | inl e ↦ (subst (λ k. k < 3) (sym e) l, inl (sym e))
    | inr n ↦ absurd n
  ];
  whole = λ j k c. inl (sym (alone i j l c));
}

pub class_is : (g : List ℕ) (c : IsClass squares_images g) → g ≡ c.of ∷ []
class_is g c = class_one (uses squares_images) 3 bounded c.of g (c.of ∷ []) c.is
    (class_at c.of c.within)

-- ---- their order
first_next : IsNext (uses squares_images) 3 [] 0
first_next = record {
  within = omega arith;
  ready = record { new = λ h. h; inside = λ j r. inl (inl (sym (from_first j r))) };
  least = λ j l r. omega arith;
}

last_next : IsNext (uses squares_images) 3 (0 ∷ []) 2
last_next = record {
  within = omega arith;
  ready = record {
    new = λ h. elim h [ inl e ↦ omega (arith, e) | inr n ↦ n ];
    inside = λ j r. inl (inl (sym (from_last j r)));
  };
  least = λ j l r. go j (r.new) (r.inside);
}
  where
    go : (j : ℕ) → (In j (0 ∷ []) → ⊥)
        → ((k : ℕ) → Walk j k → InClass (uses squares_images) j k ⊎ In k (0 ∷ [])) → 2 ≤ j
    go zero new inside = absurd (new (inl refl))
    go (suc zero) new inside = elim (inside 2 middle_uses_last) [
      | inl c ↦ (let e = alone 1 2 (omega arith) c in omega (arith, e))
      | inr h ↦ elim h [ inl e ↦ omega (arith, e) | inr n ↦ absurd n ]
    ]
    go (suc (suc j)) new inside = omega arith

middle_next : IsNext (uses squares_images) 3 (0 ∷ 2 ∷ []) 1
middle_next = record {
  within = omega arith;
  ready = record {
    new = λ h. elim h [
      | inl e ↦ omega (arith, e)
      | inr k ↦ elim k [ inl e ↦ omega (arith, e) | inr n ↦ n ]
    ];
    inside = λ j r. elim (from_middle j r) [
      | inl e ↦ inl (inl (sym e))
      | inr e ↦ inr (inr (inl e))
    ];
  };
  least = λ j l r. go j (r.new);
}
  where
    go : (j : ℕ) → (In j (0 ∷ 2 ∷ []) → ⊥) → 1 ≤ j
    go zero new = absurd (new (inl refl))
    go (suc j) new = omega arith

abbrev order : List (List ℕ)
order = (0 ∷ []) ∷ (2 ∷ []) ∷ (1 ∷ []) ∷ []

pub classes : AreClasses (uses squares_images) 3 [] ((0 ∷ []) ∷ (2 ∷ []) ∷ (1 ∷ []) ∷ [])
classes = (
  0,
  first_next,
  class_at 0 (omega arith),
  (
    2,
    last_next,
    class_at 2 (omega arith),
    (
      1,
      middle_next,
      class_at 1 (omega arith),
      each_place (λ i. In i (0 ∷ 2 ∷ 1 ∷ [])) (inl refl) (inr (inr (inl refl))) (inr (inl refl)),
    ),
  ),
)

none_behind : (before : List (List ℕ)) (g : List ℕ) (behind : List (List ℕ))
    → before ++ g ∷ behind ≡ [] → ⊥
none_behind [] g behind e = let z = ap length e in omega (arith, z)
none_behind (b ∷ before) g behind e = let z = ap length e in omega (arith, z)

pub place_of : (before : List (List ℕ)) (g : List ℕ) (behind : List (List ℕ))
    → before ++ g ∷ behind ≡ (0 ∷ []) ∷ (2 ∷ []) ∷ (1 ∷ []) ∷ []
    → (g ≡ 0 ∷ []) ⊎ ((g ≡ 2 ∷ []) ⊎ ((g ≡ 1 ∷ []) × In 2 (concat before)))
place_of [] g behind e = inl (same_head e)
place_of (b ∷ []) g behind e = inr (inl (same_head (same_tail e)))
place_of (b ∷ c ∷ []) g behind e =
    inr (inr (
      same_head (same_tail (same_tail e)),
      subst (λ x. In 2 (concat (x ∷ c ∷ []))) (sym (same_head e))
          (subst (λ x. In 2 (concat ((0 ∷ []) ∷ x ∷ []))) (sym (same_head (same_tail e)))
          (inr (inl refl))),
    ))
place_of (b ∷ c ∷ d ∷ before) g behind e =
    absurd (none_behind before g behind (same_tail (same_tail (same_tail e))))

-- ---- their matrices
pub matrix_is : (i : ℕ) → i < 3 → class_matrix squares_images (i ∷ []) ≡ (one ∷ []) ∷ []
unfolding Algebra.coefficient same sum_over fraction Fraction.sum is_lowest reduce gcd
matrix_is zero l = refl
matrix_is (suc zero) l = refl
matrix_is (suc (suc zero)) l = refl
matrix_is (suc (suc (suc i))) l = absurd (omega (arith, l))

pub splits_at : (i : ℕ) → i < 3 → SplitsAt 1 (class_matrix squares_images (i ∷ []))
splits_at i l =
    single_splits 1 (class_matrix squares_images (i ∷ [])) ((one ∷ []) ∷ []) (one ∷ []) one refl
    (matrix_is i l) (record { forms_are = refl; values_are = refl })

weak : (i j : ℕ) → T (strongly squares_images i j) → ⊥
weak zero zero t = absurd t
weak zero (suc zero) t = absurd t
weak zero (suc (suc zero)) t = absurd t
weak zero (suc (suc (suc j))) t = absurd t
weak (suc zero) zero t = absurd t
weak (suc zero) (suc zero) t = absurd t
weak (suc zero) (suc (suc zero)) t = absurd t
weak (suc zero) (suc (suc (suc j))) t = absurd t
weak (suc (suc zero)) zero t = absurd t
weak (suc (suc zero)) (suc zero) t = absurd t
weak (suc (suc zero)) (suc (suc zero)) t = absurd t
weak (suc (suc zero)) (suc (suc (suc j))) t = absurd t
weak (suc (suc (suc i))) j t = absurd t

pub squares_solvable : (vs : List ℕ)
    → IsNonlinearCycle (uses squares_images) (strongly squares_images) vs → ⊥
squares_solvable [] d = absurd d
squares_solvable (v ∷ []) d = absurd d
squares_solvable (v ∷ w ∷ vs) d = weak v w d.0

pub squares_pass : (g : List ℕ) → IsClass squares_images g → Passes squares_images g
squares_pass g c = subst (Passes squares_images) (sym (class_is g c)) (record {
  splits = splits_at c.of c.within;
  within = λ some. absurd (omega (arith, some));
  narrow = λ some h. omega (arith, some);
})

few : (n k : ℕ) → k ≤ 4 → n ≡ k → n ≤ most_terms
few n k l e = let most = most_is in omega (arith, l, e, most)

pub squares_short : IsShort squares_images
unfolding class_length product_length power_length
squares_short = record {
  groups = order;
  are = classes;
  short = (
    few _ 2 (omega arith) refl,
    (few _ 2 (omega arith) refl, (few _ 4 (omega arith) refl, tt)),
  );
}

-- ---- the eigenvalue
are_one : (x : Fraction) → IsEigenvalue squares_images x → x ≡ one
unfolding Each Algebra.coefficient same sum_over fraction Fraction.sum is_lowest reduce gcd
are_one x e =
    let (i, l, is) = eigenvalue_is_own squares_images arities tt x e in
    is ∙ each_place (λ i. own squares_images i ≡ one) refl refl refl i l

one_is : IsEigenvalue squares_images one
unfolding Algebra.coefficient same sum_over fraction Fraction.sum is_lowest reduce gcd
one_is = own_is_eigenvalue squares_images arities tt 0 (omega arith)

pub squares_base_is : (bs : List ℕ) → IsFormBase squares_images bs → bs ≡ []
squares_base_is bs b =
    base_is one [] (0 ∷ 0 ∷ 1 ∷ []) one_scaled b.values (λ x i. are_one x (b.only x i))
    (b.all one one_is ℚ_field.one-ne-zero) bs b.is
