-- One class after the earlier ones, where what is known holds from some number of iterations on: what its polynomials have in earlier variables, its forms one after another, and its variables from its forms.
--   from_there        what holds at each number since one holds at each number that is no less
--   rests_turned      compositions with the closed forms of earlier classes
--   form_turned       a polynomial with the recurrence of a form is that form from there on, where it is at the first number of iterations
--   later_form_turned     so where the value isn't 0 and it is the form after some number of iterations
--   zero_form_turned  where the value is 0, it is from one iteration later on, whatever it was
--   variable_turned   the combination of the forms that is one variable is that variable
--   place_in          what stands at a place of a list is in it
--   values-entry      an entry of the values of polynomials is the value of the one at this place
use Rattle.std.proofs.Common.{◌≡◌, ◌≢◌, ◌⊎◌, inl, inr, ℕ, zero, suc, ◌+◌, ◌-◌, ◌<◌, ◌≤◌, List, [], ◌∷◌, map, length, Bool, true, false, cond, T, refl, sym, ap, ap₂, subst, ◌∙◌, arith}
use Rattle.std.proofs.lemmas.List.{length-map}
use Rattle.algebra.specs.Each.{Each}
use Rattle.algebra.specs.In.{In}
use Rattle.algebra.specs.Ring.{Field}
use Rattle.algebra.proofs.In.{each_in, each_from}
use Rattle.algebra.proofs.FieldLaws.{cancel}
use Rattle.algebra.proofs.RingLaws as L
use Rattle.algebra.proofs.RingLaws.{add_cancel}
use Rattle.algebra.specs.Fraction.{Fraction, ℚ}
use Rattle.algebra.proofs.Fractions.{ℚ_ring, ℚ_field}
use Rattle.polynomials.specs.Terms.{Terms, value_at, compose, sum_of_products}
use Rattle.polynomials.proofs.ValueAt.{value_at-compose}
use Rattle.solvable_maps.specs.Dependency.{IsNonlinearCycle, Reaches}
use Rattle.solvable_maps.specs.Class.{IsClassOf, IsNext, InClass, Above, Ascends}
use Rattle.solvable_maps.specs.Uses.{uses, strongly, poly_at, has, any, IsMap, unit}
use Rattle.solvable_maps.proofs.Linear.{any_in, any_out, map_bounded}
use Rattle.solvable_maps.proofs.Reach.{reaches_step, reaches_trans}
use Rattle.vectors.specs.Echelon.{total}
use Rattle.vectors.specs.Lists.{entries, below, row_of}
use Rattle.vectors.specs.Rows.{Row, rows_of, times_rows}
use Rattle.vectors.specs.Space.{Space, combine}
use Rattle.vectors.proofs.EchelonKernel.{total-single}
use Rattle.exponentials.proofs.Lists.{Distinct}
use Rattle.solvable_maps.specs.Classes.{IsClass}
use Rattle.solvable_maps.specs.Inverse.{unit_list}
use Rattle.solvable_maps.specs.AfterIterations.{mine, rest_of, form_at, rests_at, IsAfterIterations, AreAfterIterations, IsFormAfterIterations, HasRecurrence, HasValueAfter, Done, rows_done, values_done, IsSplit}
use Rattle.solvable_maps.specs.Iterations.{point, iterations}
use Rattle.solvable_maps.proofs.ClassForms as CF
use Rattle.solvable_maps.proofs.ClassForms.{dot}
use Rattle.solvable_maps.proofs.ClassIterations as CT
use Rattle.solvable_maps.specs.AfterIterations.{place}
use Rattle.vectors.proofs.ListLaws.{below-entry}
use Rattle.solvable_maps.proofs.Eigenvalues.{same_below}
use Rattle.solvable_maps.proofs.Inverses.{unit-own, unit-other}
use Rattle.solvable_maps.proofs.Parts.{mine_in, rest_has_none}
use Rattle.solvable_maps.proofs.Inhomogeneities as Inhomogeneities
use Rattle.solvable_maps.proofs.Values.{iterations-length}

abbrev F : Field Fraction
F = ℚ_field

pub from_there : (since : ℕ) (P : ℕ → Type 0) → ((n : ℕ) → P (since + n)) → (n : ℕ) → since ≤ n
    → P n
from_there since P h n l = subst P (let e : since + (n - since) ≡ n = omega (arith, l) in e)
    (h (n - since))

-- ---- the entries of values
pub values-entry : (ps : List (Terms Fraction)) (z : List Fraction) (j : ℕ) → j < length ps
    → entries F (map (λ p. value_at ℚ p z) ps) j ≡ value_at ℚ (poly_at ps j) z
values-entry [] z j l = absurd (omega (arith, l))
values-entry (p ∷ ps) z zero l = refl
values-entry (p ∷ ps) z (suc j) l = values-entry ps z j (omega (arith, l))

-- ---- terms of the rest
pub rest_in : {A : Type 0} (g : List ℕ) (p : Terms A) (t : List ℕ × A) → In t (rest_of g p) → In t p
rest_in {A} g [] t i = absurd i
rest_in {A} g (u ∷ p) t i = go (mine g u.0) (rest_in g p t) i
  where
    go : (b : Bool) → (In t (rest_of g p) → In t p) → In t (cond b (rest_of g p) (u ∷ rest_of g p))
        → In t (u ∷ p)
    go true before i = inr (before i)
    go false before (inl e) = inl e
    go false before (inr i) = inr (before i)

pub rest_lacks : {A : Type 0} (g : List ℕ) (p : Terms A) (t : List ℕ × A) → In t (rest_of g p)
    → mine g t.0 ≡ false
rest_lacks {A} g p t i = each_in (λ (u : List ℕ × A). mine g u.0 ≡ false) (rest_of g p) t
    (rest_has_none g p) i

module _ (base : List ℕ) (images : List (Terms Fraction)) (since : ℕ)
    (is : IsMap (length images) images) where
  abbrev m : ℕ
  m = length images

  -- what the rest of a polynomial of the class uses is earlier
  module _ (earlier : List ℕ) (k : ℕ) (g : List ℕ) (next : IsNext (uses images) m earlier k)
      (class : IsClassOf (uses images) m k g) where
    reached : (i j : ℕ) → In i g → T (uses images i j) → InClass (uses images) k j ⊎ In j earlier
    reached i j inside u =
        next.ready.inside j
        (elim (class.inside i inside).1 [
          | inl e ↦ reaches_step (uses images) k j (subst (λ x. T (uses images x j)) (sym e) u)
          | inr r ↦ reaches_trans (uses images) k i j r.0 (reaches_step (uses images) i j u)
        ])

    rest_earlier : (i j : ℕ) → In i g → T (any (has j) (rest_of g (poly_at images i)))
        → In j earlier
    rest_earlier i j inside u =
        let (t, there, has_it) = any_out (has j) (rest_of g (poly_at images i)) u in
        let used : T (uses images i j) = any_in (has j) (poly_at images i) t
        (rest_in g (poly_at images i) t there) has_it in
        elim (reached i j inside used) [
          | inl own ↦ absurd (clash (mine g t.0) (rest_lacks g (poly_at images i) t there)
              (mine_in g t.0 j (class.whole j (map_bounded m images is i j used).1 own) has_it))
          | inr before ↦ before
        ]
      where
        clash : (b : Bool) → b ≡ false → T b → ⊥
        clash b e h = subst T e h

    -- the images that are composed with, at a point
    module _ (ps : List (Terms Fraction)) (turned : AreAfterIterations base images since earlier ps)
        (n : ℕ) (s : List Fraction) (size : length s ≡ m) (late : since ≤ n) where
      abbrev z : List Fraction
      z = point base n s

      abbrev x : List Fraction
      x = iterations images n s

      state-length : length x ≡ m
      state-length = iterations-length ℚ images m refl n s size

      rest_value : (i : ℕ) → In i g → value_at ℚ (rest_of g (poly_at images i))
          (map (λ p. value_at ℚ p z) ps) ≡ value_at ℚ (rest_of g (poly_at images i)) x
      rest_value i inside =
          Inhomogeneities.value_used F (rest_of g (poly_at images i)) (map (λ p. value_at ℚ p z) ps)
          x
          (length-map ps (λ p. value_at ℚ p z) ∙ turned.size ∙ sym state-length)
          (λ j u.
          let before : In j earlier = rest_earlier i j inside u in
          let (t, there, has_it) = any_out (has j) (rest_of g (poly_at images i)) u in
          let low : j < m =
          (map_bounded m images is i j (any_in (has j) (poly_at images i) t
          (rest_in g (poly_at images i) t there) has_it)).1 in
          values-entry ps z j (let q = turned.size in omega (arith, q, low))
          ∙ (turned.each j before).values n s size late)

      rests_equal : (is : List ℕ) → ((i : ℕ) → In i is → In i g)
          → map (λ i. value_at ℚ (rest_of g (poly_at images i)) (map (λ p. value_at ℚ p z) ps)) is
          ≡ map (λ i. value_at ℚ (rest_of g (poly_at images i)) x) is
      rests_equal [] h = refl
      rests_equal (i ∷ is) h = ap₂ ◌∷◌ (rest_value i (h i (inl refl)))
          (rests_equal is (λ j k. h j (inr k)))

      -- a polynomial whose values are those of the rests by w, composed with the closed forms
      pub rests_turned : (w : List Fraction) (p : Terms Fraction) (width : ℕ)
          → ((y : List Fraction) → value_at ℚ p y ≡ sum_of_products ℚ w (rests_at images g y))
          → value_at ℚ (compose ℚ width p ps) z ≡ sum_of_products ℚ w (rests_at images g x)
      rests_turned w p width h =
          value_at-compose ℚ_ring width p ps z
          ∙ h (map (λ q. value_at ℚ q z) ps)
          ∙ ap (sum_of_products ℚ w) (rests_equal g (λ i k. k))

-- ---- the class's own part
distinct_of : (g : List ℕ) → Ascends g → Distinct (λ (x : ℕ). x) g
unfolding Each
distinct_of [] a = tt
distinct_of (i ∷ g) a = (apart i g a.0, distinct_of g a.1)
  where
    apart : (i : ℕ) (g : List ℕ) → Above i g → Each (λ y. y ≢ i) g
    apart i [] a = tt
    apart i (j ∷ g) a = ((λ e. (let l = a.0 in absurd (omega (arith, l, e)))), apart i g a.1)

-- two of one class are in the class of each other
pub together : (uses : ℕ → ℕ → Bool) (k i j : ℕ) → InClass uses k i → InClass uses k j
    → InClass uses i j
together uses k i j (inl e) q = subst (λ x. InClass uses x j) e q
together uses k i j (inr (r, s)) (inl e) =
    inr (subst (λ x. Reaches uses i x × Reaches uses x i) e (s, r))
together uses k i j (inr (r, s)) (inr (u, v)) = inr (
  reaches_trans uses i k j s u,
  reaches_trans uses j k i v r,
)

pub joined : (uses : ℕ → ℕ → Bool) (k i j : ℕ) → InClass uses k i → InClass uses i j
    → InClass uses k j
joined uses k i j (inl e) q = subst (λ x. InClass uses x j) (sym e) q
joined uses k i j (inr (r, s)) (inl e) = inr (subst (λ x. Reaches uses k x × Reaches uses x k) e (
  r,
  s,
))
joined uses k i j (inr (r, s)) (inr (u, v)) = inr (
  reaches_trans uses k i j r u,
  reaches_trans uses j i k v s,
)

pub place_in : (g : List ℕ) (a : ℕ) → a < length g → In (place g a) g
place_in [] a l = absurd (omega (arith, l))
place_in (j ∷ g) zero l = inl refl
place_in (j ∷ g) (suc a) l = inr (place_in g a (omega (arith, l)))

-- the total over the places of a class is the form
pub total_form : (w : List Fraction) (g : List ℕ) (f : ℕ → Fraction) → length w ≡ length g
    → total F (length g) (λ i. F.mul (below F (length g) (entries F w) i) (f (place g i)))
    ≡ sum_of_products ℚ w (map f g)
unfolding sum_of_products
total_form [] [] f l = refl
total_form [] (j ∷ g) f l = absurd (omega (arith, l))
total_form (x ∷ w) [] f l = absurd (omega (arith, l))
total_form (x ∷ w) (j ∷ g) f l = ap (F.add (F.mul x (f j))) (total_form w g f (omega (arith, l)))

module _ (base : List ℕ) (images : List (Terms Fraction)) (since : ℕ)
    (is : IsMap (length images) images) (none : (vs : List ℕ)
    → IsNonlinearCycle (uses images) (strongly images) vs → ⊥) (g : List ℕ)
    (class : IsClass images g) where
  abbrev c : ℕ
  c = length g

  abbrev S : Space ℚ_ring (Row F c)
  S = rows_of F c

  within : Each (λ j. j < length images) g
  within = each_from g (λ j i. (class.is.inside j i).0)

  linear : (a : ℕ) → a < c → Each (λ (t : List ℕ × Fraction). T (mine g t.0) → (j : ℕ) × In j g
      × (t.0 ≡ unit (length images) j)) (poly_at images (place g a))
  linear a l = CT.own_terms (length images) images is none (place g a) g (λ j i.
      together (uses images) class.of (place g a) j
      (class.is.inside (place g a) (place_in g a l)).1 (class.is.inside j i).1)

  -- the state after `since` iterations, from which the others are counted
  abbrev at_since : List Fraction → List Fraction
  at_since s = iterations images since s

  since-length : (s : List Fraction) → length s ≡ length images
      → length (at_since s) ≡ length images
  since-length s l = iterations-length ℚ images (length images) refl since s l

  more_iterations : (d n : ℕ) (s : List Fraction) → iterations images n (iterations images d s)
      ≡ iterations images
      (d + n) s
  more_iterations d zero s = let e : d ≡ d + 0 = omega arith in ap (λ i. iterations images i s) e
  more_iterations d (suc n) s = let e : suc (d + n) ≡ d + suc n = omega arith in
      ap (λ x. map (λ p. value_at ℚ p x) images) (more_iterations d n s)
      ∙ ap (λ i. iterations images i s) e

  abbrev own : List Fraction → ℕ → ℕ → Fraction
  own s n a = entries F (iterations images n (at_since s)) (place g a)

  abbrev rest : List Fraction → ℕ → ℕ → Fraction
  rest s n a = value_at ℚ (rest_of g (poly_at images (place g a)))
      (iterations images n (at_since s))

  abbrev matrix : List (Row F c)
  matrix = CT.matrix_of F (length images) g images g

  abbrev rows_count : length matrix ≡ c
  rows_count = CT.matrix-length F (length images) g images g

  next_is : (s : List Fraction) → length s ≡ length images → CF.IsNext F c matrix rows_count (own s)
      (rest s)
  next_is s l = CT.class_next F (length images) images refl g (distinct_of g class.is.ascends)
      within linear (at_since s) (since-length s l)

  own_form : (w : List Fraction) → length w ≡ c → (n : ℕ) (s : List Fraction)
      → dot F c (row_of F c w).0 (own s n) ≡ form_at w g (iterations images (since + n) s)
  own_form w l n s = total_form w g (entries F (iterations images n (at_since s))) l
      ∙ ap (form_at w g) (more_iterations since n s)

  rest_form : (w : List Fraction) → length w ≡ c → (n : ℕ) (s : List Fraction)
      → dot F c (row_of F c w).0 (rest s n) ≡ sum_of_products ℚ w
      (rests_at images g (iterations images (since + n) s))
  rest_form w l n s = total_form w g (λ i. value_at ℚ (rest_of g (poly_at images i))
      (iterations images n (at_since s))) l ∙ ap (λ x. sum_of_products ℚ w (rests_at images g x))
      (more_iterations since n s)

  -- ---- a form and those before it
  abbrev pub IsDone : List Fraction × Terms Fraction → Type 0
  IsDone t = IsFormAfterIterations base images since g t.0 t.1

  module _ (s : List Fraction) (size : length s ≡ length images) where
    abbrev Told : Type 0
    Told = CF.Told F c matrix rows_count (own s) (rest s)

    abbrev told : Done → List Told
    told [] = []
    told (t ∷ ts) = (row_of F c t.0, F.zero, (λ n. value_at ℚ t.1 (point base (since + n) s)))
        ∷ told ts

    told-forms : (ts : Done) → CF.forms_in F c matrix rows_count (own s) (rest s) (told ts)
        ≡ rows_done c ts
    told-forms [] = refl
    told-forms (t ∷ ts) = ap (λ l. row_of F c t.0 ∷ l) (told-forms ts)

    told_are : (ts : Done) → Each IsDone ts
        → Each (CF.IsForm F c matrix rows_count (own s) (rest s)) (told ts)
    unfolding Each
    told_are [] h = tt
    told_are (t ∷ ts) h = (
      (λ n. h.0.values (since + n) s size (omega arith) ∙ sym (own_form t.0 h.0.width n s)),
      told_are ts h.1,
    )

    weighed : (by : List Fraction) (ts : Done) (n : ℕ) → CF.weigh F c (entries F by) (λ (u : Told).
        u.2 n) (told ts) ≡ sum_of_products ℚ by (values_done ts (point base (since + n) s))
    unfolding sum_of_products
    weighed [] [] n = refl
    weighed (x ∷ by) [] n = refl
    weighed [] (t ∷ ts) n = nothing (value_at ℚ t.1 (point base (since + n) s))
        (CF.weigh F c (λ i. F.zero) (λ (u : Told). u.2 n) (told ts)) (weighed [] ts n)
      where
        nothing : (a b : Fraction) → b ≡ F.zero → F.add (F.mul F.zero a) b ≡ F.zero
        nothing a b e = ap₂ F.add (L.zero-mul ℚ_ring a) e ∙ F.add-zero F.zero
    weighed (x ∷ by) (t ∷ ts) n = ap (F.add (F.mul x (value_at ℚ t.1 (point base (since + n) s))))
        (weighed by ts n)

  -- ---- a form: its sequence by the recurrence
  module _ (before : Done) (done : Each IsDone before) (w : List Fraction) (width : length w ≡ c)
      (l : Fraction) (by : List Fraction)
      (splits : IsSplit images g before w l by)
      (q : Terms Fraction)
      (inhomogeneity : (n : ℕ) (s : List Fraction) → length s ≡ length images → since ≤ n
      → value_at ℚ q (point base n s)
      ≡ F.add (sum_of_products ℚ w (rests_at images g (iterations images n s)))
      (sum_of_products ℚ by (values_done before (point base n s)))) where
    sequence : List Fraction → ℕ → Fraction
    sequence s zero = form_at w g (iterations images (since + 0) s)
    sequence s (suc n) = F.add (F.mul l (sequence s n)) (value_at ℚ q (point base (since + n) s))

    sequence-next : (s : List Fraction) (n : ℕ)
        → sequence s (suc n) ≡ F.add (F.mul l (sequence s n))
        (value_at ℚ q (point base (since + n) s))
    unfolding sequence
    sequence-next s n = refl

    sequence-is : (n : ℕ) (s : List Fraction) → length s ≡ length images
        → sequence s n ≡ form_at w g (iterations images (since + n) s)
    unfolding sequence
    sequence-is n s size =
        CF.form_sequence F c matrix rows_count (own s) (rest s) (next_is s size)
        (told s size before) (told_are s size before done)
        (row_of F c w, l, sequence s)
        (record {
          by = entries F by;
          splits = ap (λ rows. times_rows F c rows (row_of F c w))
              (sym (Inhomogeneities.class_rows images g)) ∙ splits.is
              ∙ ap (λ z. S.add (S.scale l (row_of F c w)) (combine S (entries F by) z))
              (sym (told-forms s size before));
          start = sym (own_form w width 0 s);
          next = λ n. ap (F.add (F.mul l (sequence s n))) (inhomogeneity (since + n) s size
              (omega arith)
              ∙ ap₂ F.add (sym (rest_form w width n s)) (sym (weighed s size by before n)));
        }) n
        ∙ own_form w width n s

    -- ---- two sequences with one recurrence
    same_next : (u v a : ℕ → Fraction) → ((n : ℕ) → u (suc n) ≡ F.add (F.mul l (u n)) (a n))
        → ((n : ℕ) → v (suc n) ≡ F.add (F.mul l (v n)) (a n)) → u 0 ≡ v 0 → (n : ℕ) → u n ≡ v n
    same_next u v a hu hv e zero = e
    same_next u v a hu hv e (suc n) = hu n
        ∙ ap (λ x. F.add (F.mul l x) (a n)) (same_next u v a hu hv e n) ∙ sym (hv n)

    same_first : l ≢ F.zero → (u v a : ℕ → Fraction)
        → ((n : ℕ) → u (suc n) ≡ F.add (F.mul l (u n)) (a n))
        → ((n : ℕ) → v (suc n) ≡ F.add (F.mul l (v n)) (a n)) → (d : ℕ) → u d ≡ v d → u 0 ≡ v 0
    same_first ne u v a hu hv zero e = e
    same_first ne u v a hu hv (suc d) e = same_first ne u v a hu hv d
        (cancel F (u d) (v d) l ne (F.mul_comm (u d) l ∙ add_cancel ℚ_ring (a d) (F.mul l (u d))
        (F.mul l (v d)) (F.add_comm (a d) (F.mul l (u d)) ∙ sym (hu d) ∙ e ∙ hv d
        ∙ F.add_comm (F.mul l (v d)) (a d)) ∙ F.mul_comm l (v d)))

    next_of : (start : List Fraction → Fraction) (y : Terms Fraction)
        → HasRecurrence base (length images) l q start y → (s : List Fraction)
        → length s ≡ length images → (n : ℕ)
        → value_at ℚ y (point base (since + suc n) s)
        ≡ F.add (F.mul l (value_at ℚ y (point base (since + n) s)))
        (value_at ℚ q (point base (since + n) s))
    next_of start y rec s size n = let e : since + suc n ≡ suc (since + n) = omega arith in
        ap (λ i. value_at ℚ y (point base i s)) e ∙ rec.next (since + n) s size

    -- a polynomial with the recurrence that is right at the first of the numbers
    from_first : (start : List Fraction → Fraction) (y : Terms Fraction)
        → HasRecurrence base (length images) l q start y
        → ((s : List Fraction) → length s ≡ length images → value_at ℚ y (point base (since + 0) s)
        ≡ sequence s 0) → IsFormAfterIterations base images since g w y
    from_first start y rec known = record {
      width = width;
      values = λ n s size late.
          from_there since (λ i. value_at ℚ y (point base i s)
          ≡ form_at w g (iterations images i s))
          (λ k.
          same_next (λ n. value_at ℚ y (point base (since + n) s)) (sequence s)
          (λ n. value_at ℚ q (point base (since + n) s)) (next_of start y rec s size)
          (sequence-next s)
          (known s size) k
          ∙ sequence-is k s size) n late;
    }

    pub form_turned : (start : List Fraction → Fraction) (y : Terms Fraction)
        → HasRecurrence base (length images) l q start y → HasValueAfter base images g w since y
        → IsFormAfterIterations base images since g w y
    form_turned start y rec known = from_first start y rec (λ s size.
        let e : since + 0 ≡ since = omega arith in
        ap (λ i. value_at ℚ y (point base i s)) e ∙ known.is s size
        ∙ ap (λ i. form_at w g (iterations images i s)) (sym e) ∙ sym (sequence-is 0 s size))

    pub later_form_turned : l ≢ F.zero → (start : List Fraction → Fraction) (y : Terms Fraction)
        → HasRecurrence base (length images) l q start y → (d : ℕ)
        → HasValueAfter base images g w (since + d) y → IsFormAfterIterations base images since g w
        y
    later_form_turned ne start y rec d known = from_first start y rec (λ s size.
        same_first ne (λ n. value_at ℚ y (point base (since + n) s)) (sequence s)
        (λ n. value_at ℚ q (point base (since + n) s)) (next_of start y rec s size)
        (sequence-next s) d (known.is s size ∙ sym (sequence-is d s size)))

    pub zero_form_turned : l ≡ F.zero → (start : List Fraction → Fraction) (y : Terms Fraction)
        → HasRecurrence base (length images) l q start y
        → IsFormAfterIterations base images (suc since)
        g w
        y
    zero_form_turned e start y rec = record {
      width = width;
      values = λ n s size late.
          from_there (suc since) (λ i. value_at ℚ y (point base i s)
          ≡ form_at w g (iterations images i s))
          (λ k.
          let one : suc since + k ≡ since + suc k = omega arith in
          ap (λ i. value_at ℚ y (point base i s)) one
          ∙ next_of start y rec s size k
          ∙ ap (λ z. F.add z (value_at ℚ q (point base (since + k) s)))
          (nothing (value_at ℚ y (point base (since + k) s)) ∙ sym (nothing (sequence s k)))
          ∙ sym (sequence-next s k) ∙ sequence-is (suc k) s size
          ∙ ap (λ i. form_at w g (iterations images i s)) (sym one)) n late;
    }
      where
        nothing : (x : Fraction) → F.mul l x ≡ F.zero
        nothing x = ap (λ z. F.mul z x) e ∙ L.zero-mul ℚ_ring x

  -- a variable of the class
  pub variable_turned : (forms : Done) → Each IsDone forms → (a : ℕ) → a < c → (by : List Fraction)
      → ((i : ℕ) → i < c → (combine S (entries F by) (rows_done c forms)).0 i
      ≡ entries F (unit_list c a) i)
      → (p : Terms Fraction) → ((n : ℕ) (s : List Fraction) → length s ≡ length images → since ≤ n
      → value_at ℚ p (point base n s) ≡ sum_of_products ℚ by
      (values_done forms (point base n s)))
      → IsAfterIterations base images since (place g a) p
  variable_turned forms done a l by makes p values = record {
    values = λ n s size late.
        from_there since (λ i. value_at ℚ p (point base i s) ≡ entries F (iterations images i s)
        (place g a))
        (λ k.
        values (since + k) s size (omega arith)
        ∙ sym (weighed s size by forms k)
        ∙ sym (CF.from_forms F c matrix rows_count (own s) (rest s) (told s size forms)
        (told_are s size forms done) (entries F by) (row_of F c (unit_list c a))
        (same_below c (row_of F c (unit_list c a))
        (combine S (entries F by) (CF.forms_in F c matrix rows_count (own s) (rest s)
        (told s size forms)))
        (λ i k. below-entry ℚ_field c (entries F (unit_list c a)) i k ∙ sym (makes i k)
        ∙ ap (λ rows. (combine S (entries F by) rows).0 i) (sym (told-forms s size forms))))
        k)
        ∙ unit_dot a l (own s k)
        ∙ ap (λ x. entries F x (place g a)) (more_iterations since k s)) n late;
  }
    where
      unit_dot : (a : ℕ) → a < c → (x : ℕ → Fraction) → dot F c (row_of F c (unit_list c a)).0 x
          ≡ x a
      unit_dot a h x =
          total-single F c (λ i. F.mul ((row_of F c (unit_list c a)).0 i) (x i)) a h
          (λ i q ne. ap (λ z. F.mul z (x i)) (below-entry ℚ_field c (entries F (unit_list c a)) i q
          ∙ unit-other c a i (λ e. ne (sym e))) ∙ L.zero-mul ℚ_ring (x i))
          ∙ ap (λ z. F.mul z (x a)) (below-entry ℚ_field c (entries F (unit_list c a)) a h
          ∙ unit-own c a h)
          ∙ L.one-mul ℚ_ring (x a)
