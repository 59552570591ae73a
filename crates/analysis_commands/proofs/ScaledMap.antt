-- The map of one variable that is a number times it.
--   scaled c               the map
--   scaled_class, scaled_is     its one class
--   scaled_solvable        no variable uses itself non-linearly
--   scaled_splits, scaled_passes     its class splits, so it passes;  scaled_short: it isn't too long
--   scaled_behind          the inverse of its one form
--   IsScaled c base key    the number isn't 0, this is the base of its size, and this are the exponents of its power
--   scaled_base, scaled_base_is      that base is the one of its eigenvalues
--   scaled_turned          its closed form is the one power
--   same_iterations             which is the state after so many iterations
use Rattle.std.proofs.Common.{◌≡◌, ◌≢◌, inl, inr, ℕ, zero, suc, ◌+◌, ◌<◌, pos, List, [], ◌∷◌, map, length, drop, T, refl, sym, ap, ap₂, subst, ◌∙◌, arith}
use Rattle.std.specs.Prelude.{unsigned_abs, ◌⊎◌}
use native.Mathlib.Nat as N
use Rattle.algebra.specs.Arithmetic.{power}
use Rattle.algebra.specs.Each.{Each}
use Rattle.algebra.specs.In.{In}
use Rattle.algebra.proofs.Basics.{same_head, same_tail}
use Rattle.algebra.proofs.Each.{each_weaker}
use Rattle.algebra.proofs.In.{each_in, each_from, in_left, in_right, in_either, in_map, map-in}
use Rattle.algebra.proofs.RingLaws.{one-mul}
use Rattle.algebra.specs.Gcd.{gcd}
use Rattle.algebra.specs.Ratio.{is_lowest, reduce}
use Rattle.algebra.specs.Ring.{CommRing}
use Rattle.algebra.specs.Sum.{sum_over}
use Rattle.algebra.proofs.RingSolver.{ring_rules, ring}
use Rattle.algebra.specs.Fraction as Fraction
use Rattle.algebra.specs.Fraction.{Fraction, fraction, whole, ℚ}
use Rattle.algebra.proofs.Fractions.{ℚ_ring, ℚ_field}
use Rattle.polynomials.specs.Algebra as Algebra
use Rattle.polynomials.specs.Exponent.{same}
use Rattle.polynomials.specs.Order.{grevlex}
use Rattle.polynomials.specs.Terms.{Terms, evaluate, monomial_at, value_at, sum_of_products}
use Rattle.polynomials.proofs.Orders.{grevlex_order}
use Rattle.exponentials.specs.Base.{Ascending, Coprime, IsProductOf, IsTheBase}
use Rattle.exponentials.proofs.BaseLaws.{is_the_base}
use Rattle.vectors.specs.Adding.{IsEchelonOf}
use Rattle.vectors.specs.Echelon.{Pivots, rows_in, IsRref}
use Rattle.vectors.specs.Lists.{tables}
use Rattle.vectors.specs.Matrices.{SplitsAt}
use Rattle.vectors.specs.Sequences.{sequences}
use Rattle.vectors.specs.Space.{IsCombination}
use Rattle.vectors.proofs.Combinations as C
use Rattle.vectors.proofs.EchelonLaws.{same_pivots}
use Rattle.vectors.proofs.ListLaws.{same_entries}
use Rattle.linear.proofs.Echelon.{echelon_none, echelon_added}
use Rattle.solvable_maps.specs.AfterIterations.{form_at, IsFormAfterIterations}
use Rattle.solvable_maps.specs.Dependency.{IsNonlinearCycle}
use Rattle.solvable_maps.specs.Class.{IsClassOf}
use Rattle.solvable_maps.specs.Classes.{class_matrix, IsClass, Passes, IsEigenvalue, IsFormBase, sizes_of}
use Rattle.solvable_maps.specs.Iterations.{IsNormalForm, point, iterations, values_at}
use Rattle.solvable_maps.specs.Uses.{uses, strongly}
use Rattle.solvable_maps.proofs.Classes.{class_one}
use Rattle.solvable_maps.proofs.Numbers.{one_form}
use Rattle.solvable_maps.proofs.OneForm.{all_values}
use Rattle.eigen_split.specs.Refusal.{IsSingle}
use Rattle.eigen_split.proofs.OneNumber.{single_splits}
use Rattle.expansion.specs.Lengths.{power_length, product_length}
use Rattle.closed_forms.specs.Lengths.{class_length, IsShort}
use Rattle.closed_forms.proofs.LengthLaws.{ones, single_short}
use Rattle.rounds.proofs.Alone.{own, own_is_eigenvalue, eigenvalue_is_own}

abbrev pub one : Fraction
one = whole (pos 1)

abbrev pub scaled : Fraction → List (Terms Fraction)
scaled c = ((1 ∷ [], c) ∷ []) ∷ []

-- ---- its class
module _ (c : Fraction) where
  zero_class : IsClassOf (uses (scaled c)) 1 0 (0 ∷ [])
  zero_class = record {
    ascends = (tt, tt);
    inside = λ j h. elim h [ inl e ↦ (omega (arith, e), inl (sym e)) | inr n ↦ absurd n ];
    whole = λ j l c. inl (omega (arith, l));
  }

  pub scaled_bounded : (i j : ℕ) → T (uses (scaled c) i j) → (i < 1) × (j < 1)
  scaled_bounded zero zero t = (omega arith, omega arith)
  scaled_bounded zero (suc j) t = absurd t
  scaled_bounded (suc i) j t = absurd t

  pub scaled_class_of : (i : ℕ) (g : List ℕ) → i < 1 → IsClassOf (uses (scaled c)) 1 i g → g
      ≡ 0 ∷ []
  scaled_class_of i g l d =
      class_one (uses (scaled c)) 1 scaled_bounded i g (0 ∷ []) d
      (subst (λ k. IsClassOf (uses (scaled c)) 1 k (0 ∷ [])) (let e : 0 ≡ i = omega (arith, l) in
      e) zero_class)

  pub scaled_is : IsClass (scaled c) (0 ∷ [])
  scaled_is = record { of = 0; within = omega arith; is = zero_class }

  pub scaled_class : (g : List ℕ) → IsClass (scaled c) g → g ≡ 0 ∷ []
  scaled_class g d = scaled_class_of d.of g d.within d.is

  weak : (i j : ℕ) → T (strongly (scaled c) i j) → ⊥
  weak zero zero t = absurd t
  weak zero (suc j) t = absurd t
  weak (suc i) j t = absurd t

  pub scaled_solvable : (vs : List ℕ) → IsNonlinearCycle (uses (scaled c)) (strongly (scaled c)) vs
      → ⊥
  scaled_solvable [] d = absurd d
  scaled_solvable (v ∷ []) d = absurd d
  scaled_solvable (v ∷ w ∷ vs) d = weak v w d.0

  own_number : (i : ℕ) → i < 1 → own (scaled c) i ≡ c
  unfolding Algebra.coefficient same sum_over
  own_number zero l = ℚ_ring.add-zero c
  own_number (suc i) l = absurd (omega (arith, l))

  pub scaled_matrix : class_matrix (scaled c) (0 ∷ []) ≡ (c ∷ []) ∷ []
  scaled_matrix = ap (λ x. (x ∷ []) ∷ []) (own_number 0 (omega arith))

  pub scaled_single : IsSingle c ((one ∷ []) ∷ []) (c ∷ [])
  scaled_single = record { forms_are = refl; values_are = refl }

  pub scaled_splits : SplitsAt 1 (class_matrix (scaled c) (0 ∷ []))
  scaled_splits = single_splits 1 (class_matrix (scaled c) (0 ∷ [])) ((one ∷ []) ∷ []) (c ∷ []) c
      refl scaled_matrix scaled_single

  pub scaled_passes : (g : List ℕ) → IsClass (scaled c) g → Passes (scaled c) g
  scaled_passes g d = subst (Passes (scaled c)) (sym (scaled_class g d)) (record {
    splits = scaled_splits;
    within = λ some. absurd (omega (arith, some));
    narrow = λ some h. omega (arith, some);
  })

  -- ---- its length
  scaled_length : class_length (scaled c) (0 ∷ []) (1 ∷ []) ≡ 1
  unfolding class_length product_length power_length
  scaled_length = refl

  pub scaled_short : IsShort (scaled c)
  scaled_short = single_short (scaled c) scaled_bounded refl zero_class
      (let e = scaled_length in let f = (ones 1).1 in omega (arith, e, f))

  -- ---- its eigenvalue
  pub eigenvalue_own : (x : Fraction) → IsEigenvalue (scaled c) x → x ≡ c
  unfolding Each
  eigenvalue_own x e =
      let (i, l, is) = eigenvalue_is_own (scaled c) ((refl, tt), tt) tt x e in
      is ∙ own_number i l

  pub own_eigenvalue : IsEigenvalue (scaled c) c
  unfolding Each
  own_eigenvalue = subst (IsEigenvalue (scaled c)) (own_number 0 (omega arith))
      (own_is_eigenvalue (scaled c) ((refl, tt), tt) tt 0 (omega arith))

-- ---- what is known of the number
pub record IsScaled (c : Fraction) (base key : List ℕ) : Type 0 where
  pub some : c ≢ ℚ.zero
  pub coprime : Coprime base
  pub ascending : Ascending base
  pub numerator : IsProductOf base (unsigned_abs c.num)
  pub denominator : IsProductOf base c.den
  pub positive : (0 < unsigned_abs c.num) × (0 < c.den)
  pub inside : (x : ℕ) → In x base → (x ≡ unsigned_abs c.num) ⊎ (x ≡ c.den)
  pub normal : IsNormalForm base grevlex 1 ((key, one) ∷ [])
  pub values : (n : ℕ) (x : Fraction)
      → value_at ℚ ((key, one) ∷ []) (point base n (x ∷ [])) ≡ ℚ.mul (power ℚ c n) x

-- ---- its base
module _ (c : Fraction) (base key : List ℕ) (known : IsScaled c base key) (values : List Fraction)
    (only : (x : Fraction) → In x values → x ≡ c) where
  each_size : (P : ℕ → Type 0) → P (unsigned_abs c.num) → P c.den → Each P (sizes_of values)
  each_size P p q = each_from (sizes_of values) (λ x i. go x
      (in_either x (map (λ (y : Fraction). unsigned_abs y.num) values)
      (map (λ (y : Fraction). y.den) values) i))
    where
      go : (x : ℕ) → In x (map (λ (y : Fraction). unsigned_abs y.num) values)
          ⊎ In x (map (λ (y : Fraction). y.den) values) → P x
      go x (inl j) =
          let (y, k, e) = in_map (λ (y : Fraction). unsigned_abs y.num) values x j in
          subst P (sym (e ∙ ap (λ (y : Fraction). unsigned_abs y.num) (only y k))) p
      go x (inr j) =
          let (y, k, e) = in_map (λ (y : Fraction). y.den) values x j in
          subst P (sym (e ∙ ap (λ (y : Fraction). y.den) (only y k))) q

  positives : Each (λ x. 0 < x) (sizes_of values)
  positives = each_size (λ x. 0 < x) known.positive.0 known.positive.1

  of_sizes : In c values → (x : ℕ) → In x base → In x (sizes_of values)
  of_sizes i x j = elim (known.inside x j) [
    | inl e ↦ subst (λ y. In y (sizes_of values)) (sym e)
        (in_left (unsigned_abs c.num) (map (λ (y : Fraction). unsigned_abs y.num) values)
        (map (λ (y : Fraction). y.den) values)
        (map-in (λ (y : Fraction). unsigned_abs y.num) values c i))
    | inr e ↦ subst (λ y. In y (sizes_of values)) (sym e)
        (in_right c.den (map (λ (y : Fraction). unsigned_abs y.num) values)
        (map (λ (y : Fraction). y.den) values) (map-in (λ (y : Fraction). y.den) values c i))
  ]

  base_of_sizes : In c values → IsTheBase (sizes_of values) base
  base_of_sizes i = record {
    coarsest = record {
      base = record {
        coprime = known.coprime;
        products = each_size (IsProductOf base) known.numerator known.denominator;
      };
      coarsest = λ cs d. each_from base (λ x j. each_in (IsProductOf cs) (sizes_of values) x
          d.products (of_sizes i x j));
    };
    ascending = known.ascending;
    divides = each_from base (λ x j. record {
      number = x;
      within = of_sizes i x j;
      divides = N.dvd_refl x;
    });
  }

  pub base_is : In c values → (bs : List ℕ) → IsTheBase (sizes_of values) bs → bs ≡ base
  base_is i bs b = is_the_base (sizes_of values) bs positives b
      ∙ sym (is_the_base (sizes_of values) base positives (base_of_sizes i))

module _ (c : Fraction) (base key : List ℕ) (known : IsScaled c base key) where
  pub scaled_base : (bs : List ℕ) → IsFormBase (scaled c) bs → bs ≡ base
  scaled_base bs b = base_is c base key known b.values
      (λ x i. eigenvalue_own c x (b.only x i)) (b.all c (own_eigenvalue c) known.some) bs b.is

  pub scaled_base_is : IsFormBase (scaled c) base
  scaled_base_is = record {
    values = c ∷ [];
    all = λ x e some. inl (eigenvalue_own c x e);
    only = λ x i. elim i [
      | inl e ↦ subst (IsEigenvalue (scaled c)) (sym e) (own_eigenvalue c)
      | inr n ↦ absurd n
    ];
    is = base_of_sizes c base key known (c ∷ []) (λ x i. elim i [ inl e ↦ e | inr n ↦ absurd n ])
        (inl refl);
  }

-- ---- echelon lists are one
same_rows : (n : ℕ) (xs ys : List (List Fraction)) → Each (λ r. length r ≡ n) xs
    → Each (λ r. length r ≡ n) ys → tables ℚ_field xs ≡ tables ℚ_field ys → xs ≡ ys
unfolding Each
same_rows n [] [] a b e = refl
same_rows n [] (y ∷ ys) a b e = absurd (let z = ap length e in omega (arith, z))
same_rows n (x ∷ xs) [] a b e = absurd (let z = ap length e in omega (arith, z))
same_rows n (x ∷ xs) (y ∷ ys) a b e =
    ap₂ ◌∷◌
    (same_entries ℚ_field x y (a.0 ∙ sym b.0) (λ i. ap (λ (f : ℕ → Fraction). f i) (same_head e)))
    (same_rows n xs ys a.1 b.1 (same_tail e))

each_pivot_row : (P : (ℕ → Fraction) → Type 0) (ps : Pivots ℚ_field) → Each P (rows_in ℚ_field ps)
    → Each (λ p. P p.1) ps
unfolding Each
each_pivot_row P [] h = tt
each_pivot_row P (p ∷ ps) h = (h.0, each_pivot_row P ps h.1)

pub echelons_one : (n : ℕ) (given xs ys : List (List Fraction)) → IsEchelonOf n given xs
    → IsEchelonOf n given ys → xs ≡ ys
echelons_one n given xs ys e f =
    same_rows n xs ys e.widths f.widths
    (e.are ∙ ap (rows_in ℚ_field)
    (same_pivots ℚ_field e.pivots f.pivots e.reduced.reduced f.reduced.reduced
    (each_pivot e.pivots f.pivots e.reduced f.reduced)
    (each_pivot f.pivots e.pivots f.reduced e.reduced)) ∙ sym f.are)
  where
    each_of : (ps qs : Pivots ℚ_field)
        → Each (λ v. IsCombination (sequences ℚ_ring ℕ) (rows_in ℚ_field qs) v) (rows_in ℚ_field ps)
        → Each (λ p. IsCombination (sequences ℚ_ring ℕ) (rows_in ℚ_field qs) p.1) ps
    each_of ps qs h = each_pivot_row (IsCombination (sequences ℚ_ring ℕ) (rows_in ℚ_field qs)) ps h

    each_pivot : (ps qs : Pivots ℚ_field) → IsRref ℚ_field n (tables ℚ_field given) ps
        → IsRref ℚ_field n (tables ℚ_field given) qs
        → Each (λ p. IsCombination (sequences ℚ_ring ℕ) (rows_in ℚ_field qs) p.1) ps
    each_pivot ps qs r q =
        each_of ps qs (each_weaker _ _
        (λ v made. C.combination-trans (sequences ℚ_ring ℕ) (rows_in ℚ_field qs)
        (tables ℚ_field given) v q.makes made) (rows_in ℚ_field ps) r.made)

-- ---- the inverse of its form
abbrev row : List Fraction
row = one ∷ one ∷ []

row_echelon : IsEchelonOf 2 (row ∷ []) (row ∷ [])
unfolding fraction Fraction.product Fraction.inverse is_lowest reduce gcd
row_echelon = echelon_added 2 [] [] row refl (echelon_none 2) (omega arith) (row ∷ []) refl

pub scaled_behind : (echelon : List (List Fraction)) → IsEchelonOf 2 (row ∷ []) echelon
    → map (drop 1) echelon ≡ (one ∷ []) ∷ []
scaled_behind echelon e =
    ap (map (drop 1)) (echelons_one 2 (row ∷ []) echelon (row ∷ []) e row_echelon)

-- ---- its closed form
module _ {A : Type 0} (R : CommRing A) where
  open R use {one as 𝟙, zero as 𝟘, add as ◌⊕◌, mul as ◌⊗◌}

  infixl 60 ◌⊕◌
  infixl 70 ◌⊗◌
  own_at : (c x : A) → c ⊗ ((x ⊗ 𝟙) ⊗ 𝟙) ⊕ 𝟘 ≡ c ⊗ x
  own_at c x = ring R (c ∷ x ∷ []) (search ring_rules depth 40) refl

  pub form_own : (x : A) → 𝟙 ⊗ x ⊕ 𝟘 ≡ x
  form_own x = ring R (x ∷ []) (search ring_rules depth 40) refl

module _ (c : Fraction) (base key : List ℕ) (known : IsScaled c base key) where
  abbrev form : Terms Fraction
  form = (key, one) ∷ []

  iterations_scaled : (n : ℕ) (x : Fraction) → iterations (scaled c) n (x ∷ [])
      ≡ ℚ.mul (power ℚ c n) x ∷ []
  unfolding evaluate sum_over monomial_at power
  iterations_scaled zero x = ap (λ y. y ∷ []) (sym (one-mul ℚ_ring x))
  iterations_scaled (suc n) x = ap (values_at (scaled c)) (iterations_scaled n x)
      ∙ ap (λ y. y ∷ []) (own_at ℚ_ring c (ℚ.mul (power ℚ c n) x)
      ∙ sym (ℚ_ring.mul_assoc c (power ℚ c n) x))

  pub same_iterations : (n : ℕ) (s : List Fraction) → length s ≡ 1
      → values_at (form ∷ []) (point base n s) ≡ iterations (scaled c) n s
  same_iterations n [] l = absurd (omega (arith, l))
  same_iterations n (x ∷ []) l = ap (λ y. y ∷ []) (known.values n x) ∙ sym (iterations_scaled n x)
  same_iterations n (x ∷ y ∷ s) l = absurd (omega (arith, l))

  form_first : (vs : List Fraction) → length vs ≡ 1 → (y : Fraction) → vs ≡ y ∷ []
      → form_at (one ∷ []) (0 ∷ []) vs ≡ y
  unfolding sum_of_products
  form_first vs l y e = ap (form_at (one ∷ []) (0 ∷ [])) e ∙ form_own ℚ_ring y

  same_values : (n : ℕ) (s : List Fraction) → length s ≡ 1
      → form_at (one ∷ []) (0 ∷ []) (iterations (scaled c) n s) ≡ value_at ℚ form (point base n s)
  same_values n s l =
      let e = sym (same_iterations n s l) in
      form_first (iterations (scaled c) n s) (ap length e) (value_at ℚ form (point base n s)) e

  pub scaled_turned : (k : ℕ) (y : Terms Fraction) → IsNormalForm base grevlex 1 y
      → IsFormAfterIterations base (scaled c) k (0 ∷ []) (one ∷ []) y → y ≡ form
  scaled_turned k y normal t =
      one_form base known.coprime grevlex grevlex_order 1 y form normal.polynomial
      known.normal.polynomial normal.normal known.normal.normal (λ n s l.
      all_values base known.coprime 1 k y form s l
      (λ j. t.values (k + j) s l (omega arith) ∙ same_values (k + j) s l) n)
