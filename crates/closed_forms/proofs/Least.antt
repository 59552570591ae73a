-- The least number of iterations from which on polynomials are the state, and which variables pass.
--   settled_here            at one iteration less some polynomial isn't the state
--   settling_before         at one iteration less all are
--   wide_here               what one of them is there is past
--   itself_first, itself_of, passing_none, passing_marked     at n = 0
use Rattle.std.proofs.Common.{◌≡◌, ◌⊎◌, inl, inr, ℕ, suc, ◌<◌, ◌≤◌, Bool, true, false, List, [], length, get_or, refl, sym, ap, subst, ◌∙◌, arith}
use Rattle.std.proofs.lemmas.Bool.{cases_lt}
use Rattle.std.proofs.lemmas.List.{length-map}
use Rattle.algebra.specs.In.{In}
use Rattle.algebra.proofs.Basics.{not_both}
use Rattle.algebra.proofs.In.{each_in}
use Rattle.algebra.specs.Fraction.{Fraction, ℚ}
use Rattle.algebra.proofs.Fractions.{ℚ_field}
use Rattle.polynomials.specs.Terms.{Terms, value_at}
use Rattle.solvable_maps.specs.Uses.{poly_at}
use Rattle.vectors.specs.Lists.{entries}
use Rattle.vectors.proofs.ListLaws.{entries-past, same_entries}
use Rattle.poly.specs.Seen.{terms_in}
use Rattle.expo.specs.View.{base_of, value_of}
use Rattle.expo.specs.declared.exponential.Expo.{Expo}
use Rattle.solvable_maps.specs.Classes.{IsClass}
use Rattle.solvable_maps.specs.Iterations.{point, iterations, values_at, IsClosedFormFrom, IsItself}
use Rattle.solvable_maps.proofs.ClassSteps.{values-entry}
use Rattle.solvable_maps.proofs.OneForm.{on_from}
use Rattle.solvable_maps.proofs.Values.{iterations-length}
use Rattle.closed_forms.specs.Known.{IsWideIteration}
use Rattle.closed_forms.specs.Later.{IsPastAt}
use Rattle.closed_forms.specs.Settling.{IsAtPlace, IsMarked, AreAllMarked, IsPastOfClass, IsSettling, IsSettled}
use Rattle.closed_forms.specs.States.{after}
use Rattle.closed_forms.specs.Values.{bodies_of, AreOver, IsExpoOver}
use Rattle.closed_forms.specs.View.{ArePassing}
use Rattle.closed_forms.proofs.Ahead.{after_entry}
use Rattle.closed_forms.proofs.Placing.{bodies-count, body_at, item_at, over_normals}
use Rattle.closed_forms.proofs.Rows.{entry_get}
use Rattle.closed_forms.proofs.Splitting.{covered, classes_are}

-- ---- where polynomials are the state at a number of iterations
module _ (base : List ℕ) (images : List (Terms Fraction)) (es : List Expo)
    (over : AreOver base (length images) es) (count : length es ≡ length images) (n : ℕ) where
  abbrev m : ℕ
  m = length images

  abbrev ps : List (Terms Fraction)
  ps = bodies_of es

  size : length ps ≡ length images
  size = bodies-count es ∙ count

  value_is : (i : ℕ) (e : Expo) → i < length images → e ≡ get_or es i e → (s : List Fraction)
      → value_of e n s ≡ entries ℚ_field (values_at ps (point base n s)) i
  value_is i e l is s =
      let o = subst (IsExpoOver base m) (sym is) (over i e (omega (arith, count, l))) in
      ap (λ b. value_at ℚ (terms_in e.body) (point b n s)) o.over_base
      ∙ ap (λ q. value_at ℚ q (point base n s)) (sym (body_at es i e (omega (arith, count, l)) is))
      ∙ sym (values-entry ps (point base n s) i (omega (arith, size, l)))

  vars_is : (i : ℕ) (e : Expo) → i < length images → e ≡ get_or es i e → e.vars ≡ length images
  vars_is i e l is =
      (subst (IsExpoOver base m) (sym is) (over i e (omega (arith, count, l)))).over_vars

  -- ---- of any lists of values
  module _ (state : List (Terms Fraction)) (there : List Fraction → List Fraction)
      (entry : (i : ℕ) → i < length images → (s : List Fraction) → length s ≡ length images
      → value_at ℚ (poly_at state i) s ≡ entries ℚ_field (there s) i)
      (long : (s : List Fraction) → length s ≡ length images → length (there s) ≡ length images)
    where
      pub at_from : ((s : List Fraction) → length s ≡ length images
          → values_at ps (point base n s) ≡ there s) → (i : ℕ) → i < length images
          → IsAtPlace es n state i
      at_from h i l e is s k =
          let z = k ∙ vars_is i e l is in
          value_is i e l is s ∙ ap (λ x. entries ℚ_field x i) (h s z) ∙ sym (entry i l s z)

      one_at : (i : ℕ) → i < length images → IsAtPlace es n state i → (s : List Fraction)
          → length s ≡ length images
          → entries ℚ_field (values_at ps (point base n s)) i ≡ entries ℚ_field (there s) i
      one_at i l h s k =
          let r = item_at es i (omega (arith, count, l)) in
          sym (value_is i r.0 l r.1 s) ∙ h r.0 r.1 s (k ∙ sym (vars_is i r.0 l r.1)) ∙ entry i l s k

      pub at_all : ((i : ℕ) → i < length images → IsAtPlace es n state i) → (s : List Fraction)
          → length s ≡ length images → values_at ps (point base n s) ≡ there s
      at_all h s k =
          let a = length-map ps (λ p. value_at ℚ p (point base n s)) in
          let b = long s k in
          same_entries ℚ_field _ (there s) (a ∙ size ∙ sym b) (λ i. elim (cases_lt i m) [
            | inl l ↦ one_at i l (h i l) s k
            | inr l ↦
                entries-past ℚ_field _ i (let c = size in
                omega (arith, a, c, l))
                ∙ sym (entries-past ℚ_field (there s) i (omega (arith, b, l)))
          ])

-- ---- one iteration less
module _ {images : List (Terms Fraction)} {base : List ℕ} {groups : List (List ℕ)}
    {lists : List (List (Terms Fraction))} {es : List Expo} {since : ℕ}
    (h : IsSettling images base groups lists es since) where
  abbrev IsThere : ℕ → Type 0
  IsThere n = (i : ℕ) → i < length images → IsAtPlace es n (after images n) i

  there_of : (n : ℕ) → IsClosedFormFrom base images n (bodies_of es) → IsThere n
  there_of n closed = at_from base images es h.over h.count n (after images n) (iterations images n)
      (λ i l s k. after_entry images n i l s k)
      (λ s k. iterations-length ℚ images (length images) refl n s k)
      (λ s k. closed.values n s k (omega arith))

  closed_of : (n : ℕ) → IsThere n → IsClosedFormFrom base images n (bodies_of es)
  closed_of n there = on_from base h.coprime images since (bodies_of es) h.closed n
      (at_all base images es h.over h.count n (after images n) (iterations images n)
      (λ i l s k. after_entry images n i l s k)
      (λ s k. iterations-length ℚ images (length images) refl n s k) there)

  in_group : (i : ℕ) → i < length images → (g : List ℕ) × In g groups × In i g
  in_group i l = elim (covered images [] groups h.classes i l) [ inl e ↦ absurd e | inr r ↦ r ]

  module _ {n : ℕ} (one : since ≡ suc n) {state : List (Terms Fraction)}
      (is : state ≡ after images n) (marks : List Bool) (count : length marks ≡ length es)
      (told : AreAllMarked es n state groups marks) where
    told_at : (i : ℕ) → i < length images → IsMarked es n (after images n) marks i
    told_at i l = (let r = in_group i l in subst (λ q. IsMarked es n q marks i) is
        (told r.0 r.1 i r.2))

    pub settled_here : {z : ℕ} → since ≤ z
        → (i : ℕ) × (i < length marks) × (get_or marks i false ≡ true)
        → IsSettled images base es z since
    settled_here few (i, l, set) = record {
      closed = h.closed;
      least = λ d closed. elim (cases_lt d since) [
        | inl less ↦ absurd (not_both (get_or marks i false) set ((told_at i low).1
            (there_of n (later closed (omega (arith, less, one))) i low)))
        | inr more ↦ omega (arith, more)
      ];
      low = few;
    }
      where
        low : i < length images
        low = (let c = h.count in omega (arith, l, count, c))

        later : {d : ℕ} → IsClosedFormFrom base images d (bodies_of es) → d ≤ n
            → IsClosedFormFrom base images n (bodies_of es)
        later closed less = record {
          arity = closed.arity;
          values = λ k s e late. closed.values k s e (omega (arith, less, late));
        }

    pub settling_before : ((i : ℕ) → get_or marks i false ≡ false)
        → IsSettling images base groups lists es n
    settling_before none = record {
      map = h.map;
      coprime = h.coprime;
      over = h.over;
      count = h.count;
      classes = h.classes;
      states = h.states;
      closed = closed_of n (λ i l. (told_at i l).0 (none i));
    }

  pub wide_here : {n z : ℕ} (v : ℕ) → n < z → (since ≤ suc n) ⊎ (n ≡ 0)
      → IsPastOfClass groups es n v → IsWideIteration base images z v
  wide_here {n = n} v less near w = record {
    iteration = n;
    before = less;
    since = since;
    near = near;
    polys = bodies_of es;
    closed = h.closed;
    normal = over_normals es h.over;
    class = w.class;
    is = class;
    first = w.first;
    variable = w.past.place;
    within = w.past.within;
    past = past;
  }
    where
      class : IsClass images w.class
      class = each_in (IsClass images) groups w.class (classes_are images [] groups h.classes) w.is

      low : w.past.place < length es
      low = (let a = (class.is.inside w.past.place w.past.within).0 in let b = h.count in
          omega (arith, a, b))

      past : IsPastAt base (length images) n (poly_at (bodies_of es) w.past.place)
      past = go (item_at es w.past.place low)
        where
          go : (e : Expo) × (e ≡ get_or es w.past.place e)
              → IsPastAt base (length images) n (poly_at (bodies_of es) w.past.place)
          go (e, own) =
              let o = subst (IsExpoOver base (length images)) (sym own)
              (h.over w.past.place e low) in
              subst (IsPastAt base (length images) n) (sym (body_at es w.past.place e low own))
              (subst (λ b. IsPastAt b (length images) n (terms_in e.body)) o.over_base
              (subst (λ k. IsPastAt (base_of e) k n (terms_in e.body)) o.over_vars
              (w.past.past e own)))

-- ---- at n = 0
module _ {images : List (Terms Fraction)} {base : List ℕ} {groups : List (List ℕ)}
    {lists : List (List (Terms Fraction))} {es : List Expo} {since : ℕ}
    (h : IsSettling images base groups lists es since) where
  value_entry : (i : ℕ) → i < length images → (s : List Fraction)
      → get_or (values_at (bodies_of es) (point base 0 s)) i ℚ.zero
      ≡ entries ℚ_field (values_at (bodies_of es) (point base 0 s)) i
  value_entry i l s = sym (entry_get (values_at (bodies_of es) (point base 0 s)) i)

  itself_of : (i : ℕ) → i < length images → IsAtPlace es 0 (after images 0) i
      → IsItself base (length images) (bodies_of es) i
  itself_of i l at = record {
    is = λ s k.
        value_entry i l s
        ∙ one_at base images es h.over h.count 0 (after images 0) (λ s. s)
        (λ j b x e. after_entry images 0 j b x e) (λ x e. e) i l at s k
        ∙ entry_get s i;
  }

  at_of : (i : ℕ) → i < length images → IsItself base (length images) (bodies_of es) i
      → IsAtPlace es 0 (after images 0) i
  at_of i l itself e is s k =
      let z = k ∙ vars_is base images es h.over h.count 0 i e l is in
      value_is base images es h.over h.count 0 i e l is s
      ∙ sym (value_entry i l s) ∙ itself.is s z ∙ sym (entry_get s i)
      ∙ sym (after_entry images 0 i l s z)

  pub passing_none : (marks : List Bool) → IsClosedFormFrom base images 0 (bodies_of es)
      → ((i : ℕ) → get_or marks i false ≡ false)
      → ArePassing base (length images) (bodies_of es) marks
  passing_none marks closed none i l = (
    (λ k. itself_of i l (at_from base images es h.over h.count 0 (after images 0) (λ s. s)
        (λ j b x e. after_entry images 0 j b x e) (λ x e. e)
        (λ s e. closed.values 0 s e (omega arith)) i l)),
    (λ k. none i),
  )

  pub passing_marked : (marks : List Bool) {state : List (Terms Fraction)} → state ≡ after images 0
      → AreAllMarked es 0 state groups marks
      → ArePassing base (length images) (bodies_of es) marks
  passing_marked marks {state} is told i l =
      let r = in_group h i l in
      let t = subst (λ q. IsMarked es 0 q marks i) is (told r.0 r.1 i r.2) in (
        (λ k. itself_of i l (t.0 k)),
        (λ k. t.1 (at_of i l k)),
      )
