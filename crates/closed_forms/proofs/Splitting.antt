-- The classes of a map, their matrices, and which of them is refused first.
--   refused_moved        what is told of a refused class, where more is known of it
--   classes_are, class_among     the classes of a list of them, and that each class is one
--   map_of               the polynomials are a map
--   this_class, later_classes     the first of some classes, and the later ones
--   first_is, first_read, same_first     the first variable of a class; classes with the same first variable are the same
--   class_inside, groups_inside     the variables of a class, and of all classes
--   matrix_count, matrix_square, split_is, matrix_refused      a class's matrix as the code has it
--   among_none, among_skip, among_here      the class that begins with a variable
--   first_refused        the first class that is refused
--   splits_pass          no class is refused where each has split
use Rattle.std.proofs.Common.{◌≡◌, ◌≢◌, ◌⊎◌, inl, inr, ◌<◌, ◌≤◌, ℕ, List, [], ◌∷◌, ◌++◌, map, length, get_or, All, Vec, Global, Option, Some, None, refl, sym, ap, subst, ◌∙◌, arith, below_more}
use Rattle.std.proofs.lemmas.Option.{same_Some, none-some}
use Rattle.std.proofs.lemmas.List.{length-map, length_push, get_or_append_left, get_or_push}
use Rattle.algebra.specs.Each.{Each}
use Rattle.algebra.specs.In.{In}
use Rattle.algebra.proofs.Each.{each-map, each_of}
use Rattle.algebra.proofs.In.{in_either, each_in, in_get, map-in}
use Rattle.algebra.specs.Fraction.{Fraction, ℚ}
use Rattle.polynomials.specs.Terms.{Terms, coefficient}
use Rattle.solvable_maps.specs.Class.{AreClasses}
use Rattle.solvable_maps.specs.Uses.{uses, poly_at, IsMap, unit}
use Rattle.frac128.specs.declared.fraction.Frac.{Frac}
use Rattle.linear.specs.Rows.{fractions_of, rows_of}
use Rattle.vectors.specs.Matrices.{AreForms, SplitsAt}
use Rattle.poly.specs.Seen.{terms_each}
use Rattle.solvable.proofs.Using.{FracPoly, length_each, is_map}
use Rattle.solvable.specs.Refusal.{AreClassesOf, IsSolvable}
use Rattle.eigen_split.specs.Refusal as eigen
use Rattle.eigen_split.specs.declared.EigenError.{EigenError}
use Rattle.eigen_split.specs.declared.splitting.Split.{Split}
use Rattle.solvable_maps.specs.Classes.{class_matrix, IsClass, first_of, IsReachedClass}
use Rattle.solvable_maps.proofs.Classwise.{class_shared, next_is_class}
use Rattle.closed_forms.specs.declared.errors.FormsError.{FormsError}
use Rattle.closed_forms.specs.declared.errors.FormsError.TheVariants.{NotSolvable, Eigen, Range, WideSplit, LimitForm, WideForm, Memory}
use Rattle.closed_forms.specs.Refusal.{AllPass}
use Rattle.closed_forms.specs.Splits.{groups_in, IsSplitOf, IsSplitAmong, IsSplitAt, AreSplits, AreSplitsTo, IfRefusedAt, IfRefusedMatrix}

pub refused_moved : (images : List (Terms Fraction)) (P Q : List ℕ → Type 0)
    → ((g : List ℕ) → P g → Q g) → (e : FormsError) → IfRefusedAt images P e
    → IfRefusedAt images Q e
refused_moved images P Q f (NotSolvable cycle) h = absurd h
refused_moved images P Q f (Eigen class) h = (f class.items h.0, h.1)
refused_moved images P Q f (Range class sum) h = (f class.items h.0, h.1)
refused_moved images P Q f (WideSplit class candidate power row) h = (f class.items h.0, h.1)
refused_moved images P Q f (LimitForm variable) h = absurd h
refused_moved images P Q f (WideForm variable) h = absurd h
refused_moved images P Q f Memory h = tt

-- ---- classes
module _ (images : List (Terms Fraction)) where
  abbrev m : ℕ
  m = length images

  pub classes_are : (earlier : List ℕ) (groups : List (List ℕ))
      → AreClasses (uses images) m earlier groups → Each (IsClass images) groups
  unfolding Each
  classes_are earlier [] h = tt
  classes_are earlier (g ∷ groups) (k, next, class, rest) =
      (next_is_class images earlier g k next class, classes_are (earlier ++ g) groups rest)

  pub first_in : (g : List ℕ) → IsClass images g → In (first_of g) g
  first_in [] p = absurd (p.is.whole p.of p.within (inl refl))
  first_in (i ∷ g) p = inl refl

  pub covered : (earlier : List ℕ) (groups : List (List ℕ))
      → AreClasses (uses images) m earlier groups → (i : ℕ) → i < m → In i earlier
      ⊎ ((g : List ℕ) × In g groups × In i g)
  covered earlier [] h i l = inl (h i l)
  covered earlier (g ∷ groups) (k, next, class, rest) i l =
      elim (covered (earlier ++ g) groups rest i l) [
        | inl e ↦ elim (in_either i earlier g e) [ inl a ↦ inl a | inr b ↦ inr (g, inl refl, b) ]
        | inr r ↦ inr (r.0, inr r.1, r.2)
      ]

  module _ (is : IsMap m images) where
    pub class_among : (groups : List (List ℕ)) → AreClasses (uses images) m [] groups → (g : List ℕ)
        → IsClass images g → In g groups
    class_among groups h g class = elim (covered [] groups h class.of class.within) [
      | inl e ↦ absurd e
      | inr r ↦
          subst (λ x. In x groups) (class_shared images is r.0 g (each_in (IsClass images) groups
          r.0 (classes_are [] groups h) r.1) class class.of r.2
          (class.is.whole class.of class.within (inl refl))) r.1
    ]

    -- two classes with one first variable are one
    pub same_first : (g h : List ℕ) → IsClass images g → IsClass images h → first_of g ≡ first_of h
        → g ≡ h
    same_first g h p q e = class_shared images is g h p q (first_of g) (first_in g p)
        (subst (λ i. In i h) (sym e) (first_in h q))

    -- ---- the class that begins with a variable
    pub among_skip : {groups rest : List (List ℕ)} (g : List ℕ) (k : ℕ) (found : Option Split)
        → groups ≡ g ∷ rest → first_of g ≢ k → IsSplitAmong images rest k found
        → IsSplitAmong images groups k found
    among_skip g k found e n h = subst (λ x. IsSplitAmong images x k found) (sym e)
        (record {
          every = λ f inside first. elim inside [
            | inl q ↦ absurd (n (sym (ap first_of q) ∙ first))
            | inr q ↦ h.every f q first
          ];
          only = λ split is_found. (let r = h.only split is_found in (r.0, inr r.1, r.2, r.3));
        })

    pub among_here : {groups : List (List ℕ)} {rest : List (List ℕ)} (g : List ℕ) (k : ℕ)
        (split : Split)
        → groups ≡ g ∷ rest → Each (IsClass images) groups → first_of g ≡ k
        → IsSplitOf images g split → IsSplitAmong images groups k (Some split)
    unfolding Each
    among_here {rest = rest} g k split e all first h =
        subst (λ x. IsSplitAmong images x k (Some split)) (sym e) (record {
          every = λ f inside first_is. (
            split,
            refl,
            subst (λ x. IsSplitOf images x split)
                (same_first g f here (each_in (IsClass images) (g ∷ rest) f own inside) (first
                ∙ sym first_is)) h,
          );
          only = λ other is. (g, inl refl, first, subst (IsSplitOf images g) (same_Some _ _ is) h);
        })
      where
        own : Each (IsClass images) (g ∷ rest)
        own = subst (Each (IsClass images)) e all

        here : IsClass images g
        here = each_in (IsClass images) (g ∷ rest) g own (inl refl)

  pub among_none : (groups : List (List ℕ)) (k : ℕ) → length groups ≡ 0
      → IsSplitAmong images groups k None
  among_none [] k l = record {
    every = λ g inside first. absurd inside;
    only = λ split e.
        absurd (none-some split e);
  }
  among_none (g ∷ groups) k l = absurd (omega (arith, l))

  pub split_at : (groups : List (List ℕ)) → Each (IsClass images) groups
      → ((g : List ℕ) → IsClass images g → In g groups) → {k : ℕ} (found : Option Split)
      → IsSplitAmong images groups k found → IsSplitAt images k found
  split_at groups all among found h = record {
    every = λ g class first. h.every g (among g class) first;
    only = λ split e. (let r = h.only split e in (
      r.0,
      each_in (IsClass images) groups r.0 all r.1,
      r.2,
      r.3,
    ));
  }

  -- ---- refusals
  pub first_refused : IsSolvable images → (splits : List (Option Split))
      → ((k : ℕ) (d : Option Split) → k < length splits → IsSplitAt images k (get_or splits k d))
      → (g : List ℕ) → IsClass images g → first_of g ≡ length splits → IsReachedClass images g
  first_refused none splits each g class first = record {
    solvable = none;
    is = class;
    before = λ h other l. ((each (first_of h) None (subst (λ k. first_of h < k) first l)).every h
        other refl).2.passes;
  }

  pub splits_none : (splits : List (Option Split)) → length splits ≡ 0 → AreSplitsTo images splits
  splits_none splits e = record {
    few = omega (arith, e);
    each = λ k d l.
        absurd (omega (arith, e, l));
  }

  pub splits_push : (splits : List (Option Split)) {more : List (Option Split)} (x : Option Split)
      → more ≡ splits ++ x ∷ [] → length splits < m → IsSplitAt images (length splits) x
      → AreSplitsTo images splits → AreSplitsTo images more
  splits_push splits x e l own h =
      let s = length_push splits x in
      subst (AreSplitsTo images) (sym e) (record {
        few = omega (arith, s, l);
        each = λ k d b. below_more (λ k. IsSplitAt images k (get_or (splits ++ x ∷ []) k d))
            (length splits)
            (λ k a. subst (IsSplitAt images k) (sym (get_or_append_left splits (x ∷ []) d k a))
            (h.each k d a))
            (subst (IsSplitAt images (length splits))
            (sym (get_or_push splits x d (length splits) refl)) own) k (omega (arith, b, s));
      })

  pub splits_pass : (is : IsMap m images) (splits : List (Option Split)) → AreSplits images splits
      → AllPass images
  splits_pass is splits h = λ g class.
      let inside = class.is.inside (first_of g) (first_in g class) in
      let size = h.count in
      let low : first_of g < m = inside.0 in
      ((h.each (first_of g) None (omega (arith, low, size))).every g class refl).2.passes

-- ---- a class's matrix as the code has it
pub map_of : (images : List FracPoly) → All (λ (p : FracPoly). p.arity ≡ length images) images
    → IsMap (length (terms_each images)) (terms_each images)
map_of images square = subst (λ n. IsMap n (terms_each images)) (sym (length_each images))
    (is_map images square)

-- the first of some classes, and the later ones
pub this_class : (images : List (Terms Fraction)) {groups rest : List (Vec ℕ Global)}
    {g : Vec ℕ Global}
    → groups ≡ g ∷ rest → Each (IsClass images) (groups_in groups) → IsClass images g.items
unfolding Each
this_class images e h = (subst (λ l. Each (IsClass images) (groups_in l)) e h).0

pub later_classes : (images : List (Terms Fraction)) {groups rest : List (Vec ℕ Global)}
    {g : Vec ℕ Global}
    → groups ≡ g ∷ rest → Each (IsClass images) (groups_in groups)
    → Each (IsClass images) (groups_in rest)
unfolding Each
later_classes images e h = (subst (λ l. Each (IsClass images) (groups_in l)) e h).1

pub first_is : (g : List ℕ) (x : ℕ) → 0 < length g → x ≡ get_or g 0 0 → x ≡ first_of g
first_is [] x l e = absurd (omega (arith, l))
first_is (i ∷ g) x l e = e

-- as indexing reads it
pub first_read : (g : List ℕ) {x : ℕ} → 0 < length g → x ≡ get_or g 0 x → x ≡ first_of g
first_read [] l e = absurd (omega (arith, l))
first_read (i ∷ g) l e = e

pub class_inside : (images : List FracPoly) {g : List ℕ} → IsClass (terms_each images) g
    → All (λ i. i < length images) g
class_inside images {g = g} class k d l = subst (λ n. get_or g k d < n) (length_each images)
    (class.is.inside (get_or g k d) (in_get g k d l)).0

pub groups_inside : (images : List FracPoly) (groups : List (Vec ℕ Global)) {n : ℕ}
    → length images ≡ n → AreClassesOf (terms_each images) groups
    → All (λ (g : Vec ℕ Global). All (λ i. i < n) g.items) groups
groups_inside images groups {n} e h k d l =
    let all = classes_are (terms_each images) [] (groups_in groups) h in
    let inside = map-in (λ (g : Vec ℕ Global). g.items) groups _ (in_get groups k d l) in
    subst (λ n. All (λ i. i < n) (get_or groups k d).items) e (class_inside images
    (each_in (IsClass (terms_each images)) (groups_in groups) _ all inside))

pub widths_all : (xs : List (Vec Frac Global)) {rows : List (List Fraction)} (n : ℕ)
    → rows_of xs ≡ rows → Each (λ (row : List Fraction). length row ≡ n) rows
    → All (λ (row : Vec Frac Global). length row.items ≡ n) xs
widths_all xs {rows = rows} n e h k d l =
    let v = get_or xs k d in
    sym (length-map v.items _) ∙ each_in (λ (row : List Fraction). length row ≡ n) rows
    (fractions_of v.items) h (subst (In (fractions_of v.items)) e
    (map-in (λ (v : Vec Frac Global). fractions_of v.items) xs v (in_get xs k d l)))

module _ (images : List (Terms Fraction)) (g : List ℕ) (xs : List (Vec Frac Global))
    (is : rows_of xs ≡ class_matrix images g) where
  pub matrix_count : length xs ≡ length g
  matrix_count = sym (length-map xs (λ row. fractions_of row.items)) ∙ ap length is
      ∙ length-map g (λ i. map (λ j. coefficient ℚ (poly_at images i) (unit (length images) j)) g)

  matrix-widths : Each (λ (row : List Fraction). length row ≡ length g) (class_matrix images g)
  matrix-widths =
      each-map _ (λ i. map (λ j. coefficient ℚ (poly_at images i) (unit (length images) j)) g) g
      (each_of _ (λ i. length-map g (λ j. coefficient ℚ (poly_at images i)
      (unit (length images) j))) g)

  pub matrix_wide : All (λ (row : Vec Frac Global). length row.items ≡ length g) xs
  matrix_wide = widths_all xs (length g) is matrix-widths

  pub matrix_square : All (λ (row : Vec Frac Global). length row.items ≡ length xs) xs
  matrix_square = λ k d l. matrix_wide k d l ∙ sym matrix_count

  pub split_is : (split : Split)
      → AreForms (length xs) (rows_of xs) (rows_of split.forms.items)
      (fractions_of split.values.items)
      → eigen.IsSplitInto (length xs) (rows_of xs) (rows_of split.forms.items)
      (fractions_of split.values.items)
      → SplitsAt (length xs) (rows_of xs)
      → (2 ≤ length xs → eigen.IsWithin (length xs) (rows_of xs)) → IsSplitOf images g split
  split_is split are found splits within = record {
    found = subst (λ n. eigen.IsSplitInto n (class_matrix images g) (rows_of split.forms.items)
        (fractions_of split.values.items)) matrix_count
        (subst (λ rows. eigen.IsSplitInto (length xs) rows (rows_of split.forms.items)
        (fractions_of split.values.items)) is found);
    are = subst (λ n. AreForms n (class_matrix images g) (rows_of split.forms.items)
        (fractions_of split.values.items)) matrix_count
        (subst (λ rows. AreForms (length xs) rows (rows_of split.forms.items)
        (fractions_of split.values.items)) is are);
    passes = record {
      splits = subst (λ n. SplitsAt n (class_matrix images g)) matrix_count
          (subst (SplitsAt (length xs)) is splits);
      within = λ l. (own l).0;
      narrow = λ l. (own l).1;
    };
  }
    where
      own : 2 ≤ length g → eigen.IsWithin (length g) (class_matrix images g)
      own l = subst (λ n. eigen.IsWithin n (class_matrix images g)) matrix_count
          (subst (eigen.IsWithin (length xs)) is (within (let e = matrix_count in
          omega (arith, e, l))))

  pub matrix_refused : (e : EigenError) → eigen.IfSplitRefused (length xs) (rows_of xs) e
      → IfRefusedMatrix images g e
  matrix_refused e h = subst (λ n. eigen.IfSplitRefused n (class_matrix images g) e) matrix_count
      (subst (λ rows. eigen.IfSplitRefused (length xs) rows e) is h)
