-- Class by class: what is known of the variables of earlier classes, and of all.
--   turned_none, turned_all     before the first class, and after the last: the closed form
--   turned_more                 a class's polynomials put in their places
--   later_turned, later_form    what is known from some number of iterations on is known from later on
--   form_base                   the base of the values of all classes' forms
--   whole_more, next_apart      earlier classes are whole, so the next one has none of their variables
--   class_few, class_some       a class has some variables, and at most all;  class_shared: classes that share a variable are one
--   next_is_class               the class of the variable that comes next is one
use Rattle.std.proofs.Common.{◌≡◌, ◌≢◌, inl, inr, ℕ, List, [], ◌∷◌, ◌++◌, length, refl, sym, subst, ◌∙◌, arith, Bool, ◌+◌, ◌≤◌, ◌<◌, suc}
use Rattle.std.proofs.lemmas.Bool.{cases_lt}
use Rattle.std.proofs.lemmas.List.{length-map}
use Rattle.algebra.specs.In.{In}
use Rattle.algebra.specs.Each.{Each}
use Rattle.algebra.proofs.In.{in_either, in_left, in_right, each_from}
use Rattle.algebra.specs.Fraction.{Fraction, ℚ}
use Rattle.algebra.proofs.Fractions.{ℚ_field}
use Rattle.polynomials.specs.Polynomial.{AllArity}
use Rattle.polynomials.specs.Terms.{Terms, value_at}
use Rattle.solvable_maps.specs.Class.{AreClasses, IsClassOf, Above, Ascends, IsNext, InClass, AreWhole}
use Rattle.solvable_maps.specs.Uses.{uses, poly_at, IsMap}
use Rattle.solvable_maps.proofs.Classes.{class_one}
use Rattle.solvable_maps.proofs.Linear.{map_bounded}
use Rattle.exponentials.specs.Base.{IsTheBase}
use Rattle.vectors.specs.Matrices.{AreForms}
use Rattle.vectors.proofs.ListLaws.{entries-past, same_entries}
use Rattle.solvable_maps.specs.Classes.{class_matrix, IsClass, IsFormBase, sizes_of}
use Rattle.solvable_maps.specs.AfterIterations.{IsAfterIterations, AreAfterIterations, IsFormAfterIterations}
use Rattle.solvable_maps.specs.Iterations.{point, iterations, values_at, width, IsClosedFormFrom}
use Rattle.solvable_maps.proofs.ClassSteps.{values-entry, together, joined}
use Rattle.solvable_maps.proofs.Eigenvalues.{value_is_eigenvalue, eigenvector_value}
use Rattle.solvable_maps.proofs.Values.{iterations-length}

module _ (base : List ℕ) (images : List (Terms Fraction)) (since : ℕ) where
  abbrev m : ℕ
  m = length images

  pub turned_none : (ps : List (Terms Fraction)) → length ps ≡ m
      → AreAfterIterations base images since [] ps
  turned_none ps e = record { size = e; each = λ i h. absurd h }

  -- the polynomials of a class stand at its places, the others as before
  pub turned_more : (earlier g : List ℕ) (ps qs : List (Terms Fraction))
      → AreAfterIterations base images since earlier ps → length qs ≡ m
      → ((i : ℕ) → In i g → IsAfterIterations base images since i (poly_at qs i))
      → ((i : ℕ) → (In i g → ⊥) → poly_at qs i ≡ poly_at ps i)
      → ((i : ℕ) → In i earlier → In i g → ⊥) → AreAfterIterations base images since (earlier ++ g)
      qs
  turned_more earlier g ps qs h size new old apart = record {
    size = size;
    each = λ i k. elim (in_either i earlier g k) [
      | inl e ↦ subst (IsAfterIterations base images since i) (sym (old i (apart i e))) (h.each i e)
      | inr e ↦ new i e
    ];
  }

  pub turned_all : (earlier : List ℕ) (ps : List (Terms Fraction))
      → AreClasses (uses images) m earlier [] → AreAfterIterations base images since earlier ps
      → AllArity (width (length base) m) ps → IsClosedFormFrom base images since ps
  turned_all earlier ps all h arity = record {
    arity = arity;
    values = λ n s l late.
        same_entries ℚ_field (values_at ps (point base n s)) (iterations images n s)
        (length-map ps (λ p. value_at ℚ p (point base n s)) ∙ h.size
        ∙ sym (iterations-length ℚ images m refl n s l))
        (λ i. elim (cases_lt i m) [
          | inl k ↦ values-entry ps (point base n s) i (let e = h.size in omega (arith, e, k))
              ∙ (h.each i (all i k)).values n s l late
          | inr k ↦
              entries-past ℚ_field (values_at ps (point base n s)) i (let e =
              length-map ps (λ p. value_at ℚ p (point base n s)) in let f = h.size in
              omega (arith, e, f, k))
              ∙ sym (entries-past ℚ_field (iterations images n s) i (let e =
              iterations-length ℚ images m refl n s l in omega (arith, e, k)))
        ]);
  }

  -- ---- from later on too
  pub later_turned : (d : ℕ) → since ≤ d → (vs : List ℕ) (ps : List (Terms Fraction))
      → AreAfterIterations base images since vs ps → AreAfterIterations base images d vs ps
  later_turned d more vs ps h = record {
    size = h.size;
    each = λ i k. record {
      values = λ n s l late. (h.each i k).values n s l (omega (arith, more, late));
    };
  }

  pub later_form : (d : ℕ) → since ≤ d → (g : List ℕ) (w : List Fraction) (y : Terms Fraction)
      → IsFormAfterIterations base images since g w y → IsFormAfterIterations base images d g w y
  later_form d more g w y h = record {
    width = h.width;
    values = λ n s l late. h.values n s l (omega (arith, more, late));
  }

-- ---- the base
module _ (images : List (Terms Fraction)) (is : IsMap (length images) images) where
  -- classes that share a variable are one
  pub class_shared : (g h : List ℕ) → IsClass images g → IsClass images h → (i : ℕ) → In i g
      → In i h → g ≡ h
  class_shared g h p q i a b =
      class_one (uses images) (length images) (map_bounded (length images) images is) i g h
      (moved g p i a) (moved h q i b)
    where
      moved : (g : List ℕ) → IsClass images g → (i : ℕ) → In i g
          → IsClassOf (uses images) (length images) i g
      moved g p i a = record {
        ascends = p.is.ascends;
        inside = λ j k. (
          (p.is.inside j k).0,
          together (uses images) p.of i j (p.is.inside i a).1
              (p.is.inside j k).1,
        );
        whole = λ j l k. p.is.whole j l (joined (uses images) p.of i j (p.is.inside i a).1 k);
      }

  -- the values, but 0, of the forms of the class that begins with each variable
  pub form_base : (values : List Fraction) (base : List ℕ)
      → ((g : List ℕ) → IsClass images g → (forms : List (List Fraction)) × (own : List Fraction)
      × AreForms (length g) (class_matrix images g) forms own
      × ((c : Fraction) → In c own → c ≢ ℚ.zero → In c values))
      → ((c : Fraction) → In c values → (g : List ℕ) × (forms : List (List Fraction))
      × (own : List Fraction) × IsClass images g × AreForms (length g) (class_matrix images g)
      forms own × In c own)
      → IsTheBase (sizes_of values) base → IsFormBase images base
  form_base values base every only b = record {
    values = values;
    all = λ c e some.
        let (forms, own, split, among) = every e.class e.is in
        among c (eigenvector_value images e.class forms own split c e.vector e.nonzero e.eigen)
        some;
    only = λ c i.
        let (g, forms, own, class, split, among) = only c i in
        value_is_eigenvalue images g forms own split class c among;
    is = b;
  }

-- ---- one class after another
module _ (uses : ℕ → ℕ → Bool) (m : ℕ) where
  pub whole_more : (earlier g : List ℕ) (k : ℕ) → AreWhole uses m earlier → IsClassOf uses m k g
      → AreWhole uses m (earlier ++ g)
  whole_more earlier g k h class = record {
    closed = λ i j k l c. elim (in_either i earlier g k) [
      | inl e ↦ in_left j earlier g (h.closed i j e l c)
      | inr e ↦ in_right j earlier g (class.whole j l (joined uses _ i j (class.inside i e).1 c))
    ];
  }

  -- the next class has none of the earlier variables
  pub next_apart : (earlier g : List ℕ) (k : ℕ) → AreWhole uses m earlier → IsNext uses m earlier k
      → IsClassOf uses m k g → (i : ℕ) → In i earlier → In i g → ⊥
  next_apart earlier g k h next class i before inside =
      next.ready.new (h.closed i k before next.within (turned_round (class.inside i inside).1))
    where
      turned_round : InClass uses k i → InClass uses i k
      turned_round (inl e) = inl (sym e)
      turned_round (inr (r, s)) = inr (s, r)

pub next_is_class : (images : List (Terms Fraction)) (earlier g : List ℕ) (k : ℕ)
    → IsNext (uses images) (length images) earlier k → IsClassOf (uses images) (length images) k g
    → IsClass images g
next_is_class images earlier g k next class = record { of = k; within = next.within; is = class }

-- ---- a class has at most as many variables as there are
below_few : (k m : ℕ) (g : List ℕ) → Ascends g → Each (λ j. k ≤ j) g → Each (λ j. j < m) g → k ≤ m
    → k + length g ≤ m
unfolding Each
below_few k m [] a h b l = omega (arith, l)
below_few k m (i ∷ g) a h b l =
    let first : k ≤ i = h.0 in
    let low : i < m = b.0 in
    let rest : suc i + length g ≤ m = below_few (suc i) m g a.1 (later i g a.0) b.1
    (omega (arith, low)) in
    omega (arith, first, rest)
  where
    later : (i : ℕ) (g : List ℕ) → Above i g → Each (λ j. suc i ≤ j) g
    later i [] a = tt
    later i (j ∷ g) a = ((let l : i < j = a.0 in omega (arith, l)), later i g a.1)

pub class_few : (images : List (Terms Fraction)) (g : List ℕ) → IsClass images g
    → length g ≤ length images
class_few images g class =
    let h : 0 + length g ≤ length images = below_few 0 (length images) g class.is.ascends
    (each_from g (λ j i. omega arith)) (each_from g (λ j i. (class.is.inside j i).0))
    (omega arith) in
    omega (arith, h)

pub class_some : (images : List (Terms Fraction)) (g : List ℕ) → IsClass images g → 0 < length g
class_some images [] class = absurd (class.is.whole class.of class.within (inl refl))
class_some images (i ∷ g) class = omega arith
