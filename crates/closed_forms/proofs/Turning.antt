-- The closed forms of a class, from the recurrences of its forms.
--   inhomogeneity_value         the value of a form's inhomogeneity
--   next_turned          a form, where those before it are known: from there on, or where its value is zero, from one iteration later on
--   next_done            all forms, one after another
--   variable_turned      a variable, where all forms are known: from as many iterations more on as there are zeros
--   past_next, past_row  what is past in making a form or a variable
use Rattle.std.proofs.Common.{◌≡◌, ◌≢◌, ℕ, zero, suc, ◌+◌, ◌-◌, ◌<◌, ◌≤◌, List, [], ◌∷◌, ◌++◌, map, length, take, drop, refl, sym, ap, ap₂, subst, ◌∙◌, arith, below_more, take-append-drop}
use Rattle.std.proofs.lemmas.List.{length-take-le, take_all, get_or-take}
use Rattle.std.proofs.lemmas.Simd.{map-map}
use Rattle.algebra.specs.Each.{Each}
use Rattle.algebra.proofs.Each.{each-append, each-left, each_weaker}
use Rattle.algebra.proofs.In.{each_from}
use Rattle.algebra.specs.Fraction.{Fraction, ℚ}
use Rattle.algebra.proofs.Fractions.{ℚ_ring, ℚ_field}
use Rattle.polynomials.specs.Order.{grevlex}
use Rattle.polynomials.specs.Polynomial.{Arity, AllArity}
use Rattle.polynomials.specs.Terms.{Terms, value_at, compose, sum_of_products}
use Rattle.polynomials.proofs.Arity.{arity-compose}
use Rattle.polynomials.proofs.ValueAt.{value_at-append}
use Rattle.solvable_maps.specs.Dependency.{IsNonlinearCycle}
use Rattle.solvable_maps.specs.Uses.{uses, strongly, poly_at, IsMap}
use Rattle.exponentials.specs.Base.{Coprime}
use Rattle.vectors.specs.Causes.{row_at}
use Rattle.vectors.specs.Lists.{entries}
use Rattle.vectors.specs.Matrices.{AreForms}
use Rattle.solvable_maps.specs.Classes.{class_matrix, IsClass}
use Rattle.solvable_maps.specs.Expo.{with_normal_keys}
use Rattle.solvable_maps.specs.Inverse.{IsInverse, IsProduct}
use Rattle.solvable_maps.specs.AfterIterations.{rest_of, place, rests_at, form_at, IsAfterIterations, IsFormAfterIterations, HasValueAfter}
use Rattle.solvable_maps.specs.Iterations.{point, iterations, width, IsNormalForm}
use Rattle.solvable_maps.proofs.ClassSteps.{rests_turned}
use Rattle.solvable_maps.proofs.Classwise.{later_form as lift_form}
use Rattle.solvable_maps.proofs.NextForm.{next_form, later_form, zero_form, variable_of}
use Rattle.solvable_maps.proofs.Operations.{normal-value}
use Rattle.closed_forms.specs.Later.{Ahead, ahead_of, IsFormFrom, at_once, later, one_later, IsLaterForm, IsOneLater}
use Rattle.closed_forms.specs.Solved.{IsSolvedForm}
use Rattle.closed_forms.specs.States.{zeros_in}
use Rattle.closed_forms.specs.Inhomogeneities.{part, part_by_forms, both, inhomogeneity_in}
use Rattle.closed_forms.specs.Sums.{mix}
use Rattle.closed_forms.specs.Known.{rests_in, parts_in, IsReady, AreDone, IsNextForm, AreNextForms, IsPastNext, IsPastFormAt, IsPastRowOf, IsPastVariableAt, variable_in}
use Rattle.closed_forms.proofs.Ahead.{ahead_value, later_recurs, later_there, one_later_recurs, zeros_none, zeros_one, zeros_next, zeros_part}
use Rattle.closed_forms.proofs.Mixing.{mix-arity, poly_get}
use Rattle.closed_forms.proofs.Recurring.{collected_value, collected-arity, normalized-arity, part_value, form_recurs}

-- ---- lists
row_width : (n : ℕ) (forms : List (List Fraction))
    → Each (λ (form : List Fraction). length form ≡ n) forms → (k : ℕ) → k < length forms
    → length (row_at forms k) ≡ n
unfolding Each
row_width n [] h k l = absurd (omega (arith, l))
row_width n (form ∷ forms) h zero l = h.0
row_width n (form ∷ forms) h (suc k) l = row_width n forms h.1 k (omega (arith, l))

poly_taken : (ys : List (Terms Fraction)) (k i : ℕ) → i < k → poly_at (take k ys) i ≡ poly_at ys i
poly_taken ys k i l = poly_get (take k ys) i ∙ get_or-take k ys i [] l ∙ sym (poly_get ys i)

each_taken : {X : Type 0} (P : X → Type 0) (k : ℕ) (xs : List X) → Each P xs → Each P (take k xs)
each_taken P k xs h =
    each-left P (take k xs) (drop k xs) (subst (Each P) (sym (take-append-drop k xs)) h)

pub normal-arities : (base : List ℕ) (m : ℕ) (ps : List (Terms Fraction))
    → Each (IsNormalForm base grevlex m) ps → Each (Arity (width (length base) m)) ps
normal-arities base m = each_weaker (IsNormalForm base grevlex m)
    (Arity (width (length base) m)) (λ p h. h.polynomial.arity)

module _ (base : List ℕ) (c : Coprime base) (images : List (Terms Fraction))
    (is : IsMap (length images) images) (solvable : (vs : List ℕ)
    → IsNonlinearCycle (uses images) (strongly images) vs → ⊥) (g : List ℕ)
    (class : IsClass images g) where
  abbrev m : ℕ
  m = length images

  abbrev r : ℕ
  r = length base

  abbrev w : ℕ
  w = width r m

  low : Each (λ j. j < m) g
  low = each_from g (λ j i. (class.is.inside j i).0)

  rest-values : (y : List Fraction) → map (λ p. value_at ℚ p y) (rests_in images g)
      ≡ rests_at images g y
  rest-values y = map-map (λ p. value_at ℚ p y) (λ i. rest_of g (poly_at images i)) g

  module _ (z : ℕ) (values : List Fraction) {ps : List (Terms Fraction)}
      (ready : IsReady base images z (zeros_in values) g ps) (all : AllArity w ps) where
    abbrev a : Ahead
    a = ahead_of images g z

    both-arity : (cs by : List Fraction) (done : List (Terms Fraction)) → Each (Arity w) done
        → Arity w (both base m cs (rests_in images g) ps by done)
    both-arity cs by done d =
        collected-arity w _ (each-append (λ (t : List ℕ × Fraction). length t.0 ≡ w) _
        (part by done) (collected-arity w _
        (arity-compose w ℚ (part cs (rests_in images g)) ps all))
        (collected-arity w (mix by done) (mix-arity w by done d)))

    inhomogeneity-arity : (cs by : List Fraction) (done : List (Terms Fraction))
        → Each (Arity w) done → {q : Terms Fraction}
        → q ≡ inhomogeneity_in base m cs (rests_in images g) ps by done → Arity w q
    inhomogeneity-arity cs by done d e =
        subst (Arity w) (sym e) (collected-arity w _
        (normalized-arity base m _ (both-arity cs by done d)))

    inhomogeneity_value : (cs by : List Fraction) (done : List (Terms Fraction))
        → Each (Arity w) done → {q : Terms Fraction}
        → q ≡ inhomogeneity_in base m cs (rests_in images g) ps by done
        → (n : ℕ) (s : List Fraction) → length s ≡ m → ready.since ≤ n
        → value_at ℚ q (point base n s) ≡ ℚ.add (sum_of_products ℚ cs
        (rests_at images g (iterations images n s))) (sum_of_products ℚ by
        (map (λ y. value_at ℚ y (point base n s)) done))
    inhomogeneity_value cs by done d e n s l late =
        let x = point base n s in
        let rests = rests_in images g in
        ap (λ p. value_at ℚ p x) e ∙ collected_value
        (with_normal_keys r (both base m cs rests ps by done)) x ∙ normal-value base c m _
        (both-arity cs by done d) n s ∙ collected_value
        (part_by_forms base m cs rests ps ++ part by done) x ∙ value_at-append ℚ_ring
        (part_by_forms base m cs rests ps) (part by done) x ∙ ap₂ ℚ.add (collected_value (compose ℚ
        w (part cs rests) ps) x ∙ rests_turned base images ready.since is ready.earlier ready.first
        g ready.next ready.class ps ready.turned n s l late cs (part cs rests) w (λ y. part_value cs
        rests y ∙ ap (sum_of_products ℚ cs) (rest-values y))) (part_value by done x)

    module _ {forms back : List (List Fraction)} (are : AreForms (length g) (class_matrix images g)
        forms values) (inverse : IsInverse (length g) forms back) where
      abbrev AreTurnedTo : ℕ → List (Terms Fraction) → Type 0
      AreTurnedTo d done = (i : ℕ) → i < length done
          → IsFormAfterIterations base images d g (row_at forms i)
          (poly_at done i)

      module _ (k : ℕ) (l : k < length g) (d : ℕ) (late : ready.since ≤ d) (early : d ≤ z)
          (done : List (Terms Fraction)) (count : length done ≡ k) (known : AreTurnedTo d done)
          (wide : Each (Arity w) done) (y : Terms Fraction)
          (h : IsNextForm base m g (rests_in images g) ps (class_matrix images g) back a
          (row_at forms k) (entries ℚ_field values k) done y) where
        abbrev own : List Fraction
        own = row_at forms k

        abbrev v : Fraction
        v = entries ℚ_field values k

        size : length own ≡ length g
        size = row_width (length g) forms are.widths k (let e = are.count in omega (arith, l, e))

        first : IsProduct (length g) own (class_matrix images g) h.is.is_by.turned
        first = subst (λ n. IsProduct n own (class_matrix images g) h.is.is_by.turned) size
            h.is.is_by.first

        second : IsProduct (length g) h.is.is_by.turned back h.is.by
        second = subst (λ n. IsProduct n h.is.is_by.turned back h.is.by) size h.is.is_by.second

        inhomogeneity_is : (n : ℕ) (s : List Fraction) → length s ≡ m → d ≤ n
            → value_at ℚ h.inhomogeneity (point base n s)
            ≡ ℚ.add (sum_of_products ℚ own (rests_at images g (iterations images n s)))
            (sum_of_products ℚ h.is.by (map (λ y. value_at ℚ y (point base n s)) done))
        inhomogeneity_is n s e b = inhomogeneity_value own h.is.by done wide
            h.is.terms n s e
            (omega (arith, late, b))

        abbrev Turned : ℕ → Type 0
        Turned n = IsFormAfterIterations base images n g own y

        at_first : (n : ℕ) → d ≡ n → n ≡ 0 → IsSolvedForm base m own g v h.inhomogeneity y
            → Turned d
        at_first n e o solved =
            let rec = form_recurs base c m own g v y low
            (inhomogeneity-arity own h.is.by done wide h.is.terms) solved in
            next_form base images d is solvable g class forms back values are inverse k l done count
            known h.is.is_by.turned h.is.by first second h.inhomogeneity inhomogeneity_is
            (form_at own g) y rec
            (subst (λ n. HasValueAfter base images g own n y) (sym (e ∙ o))
            (record { is = λ s b. rec.first s b }))

        at_later : v ≢ ℚ.zero → IsLaterForm base m v z (part own a.state) h.inhomogeneity y
            → Turned d
        at_later some form =
            let meets : d + (z - d) ≡ z = omega (arith, early) in
            later_form base images d is solvable g class forms back values are inverse k l done
            count known h.is.is_by.turned h.is.by first second h.inhomogeneity inhomogeneity_is some
            _ y (later_recurs m v z y form) (z - d) (subst (λ n. HasValueAfter base images g
            own n y) (sym meets) (record {
              is = λ s b. later_there m v z y form some s b
                  ∙ ahead_value images own g low z s b;
            }))

        at_zero : v ≡ ℚ.zero → IsOneLater base m h.inhomogeneity y → Turned (suc d)
        at_zero nothing form =
            zero_form base images d is solvable g class forms back values are inverse k l done count
            known h.is.is_by.turned h.is.by first second h.inhomogeneity inhomogeneity_is nothing _
            y (one_later_recurs base m v y nothing form)

        next_turned : Turned (d + zeros_in (v ∷ []))
        next_turned = go h.made
          where
            same : v ≢ ℚ.zero → Turned d → Turned (d + zeros_in (v ∷ []))
            same some t = subst Turned (let e = zeros_none v some in
                let q : d ≡ d + zeros_in (v ∷ []) = omega (arith, e) in q) t

            go : IsFormFrom base m own g v a h.inhomogeneity y → Turned (d + zeros_in (v ∷ []))
            go (at_once some none solved) =
                same some (at_first d refl (omega (arith, early, none)) solved)
            go (later some form) = same some (at_later some form)
            go (one_later nothing form) = subst Turned (let e = zeros_one nothing in
                let q : suc d ≡ d + zeros_in (v ∷ []) = omega (arith, e) in q)
                (at_zero nothing form)

      abbrev from : ℕ → ℕ
      from k = ready.since + zeros_in (take k values)

      turned_to : (done : List (Terms Fraction)) → length done ≤ length g
          → AreNextForms (parts_in base images z g forms values ps back) done
          → (k : ℕ) → k ≤ length done → (i : ℕ) → i < k
          → IsFormAfterIterations base images (from k) g (row_at forms i) (poly_at done i)
      turned_to done few h zero b i l = absurd (omega (arith, l))
      turned_to done few h (suc k) b i l =
          let before = turned_to done few h k (omega (arith, b)) in
          let n : length (take k done) ≡ k = length-take-le k done (omega (arith, b)) in
          let more = zeros_next values k (let e = are.value_count in omega (arith, few, b, e)) in
          let up : from k ≤ from (suc k) = omega (arith, more) in
          let part = zeros_part values k in
          let within = ready.within in
          let next : IsFormAfterIterations base images (from (suc k)) g (row_at forms k)
          (poly_at done k) =
          subst (λ d. IsFormAfterIterations base images d g (row_at forms k) (poly_at done k))
          (let q : from k + zeros_in (entries ℚ_field values k ∷ []) ≡ from (suc k) =
          omega (arith, more) in q)
          (next_turned k (omega (arith, few, b)) (from k) (omega arith)
          (omega (arith, part, within)) (take k done) n
          (λ j q. let p : j < k = omega (arith, q, n) in
          subst (IsFormAfterIterations base images (from k) g (row_at forms j))
          (sym (poly_taken done k j p)) (before j p))
          (each_taken (Arity w) k done (normal-arities base m done h.normal)) (poly_at done k)
          (h.each k (omega (arith, b)))) in
          below_more (λ j. IsFormAfterIterations base images (from (suc k)) g (row_at forms j)
          (poly_at done j)) k
          (λ j p. lift_form base images (from k) (from (suc k)) up g (row_at forms j)
          (poly_at done j) (before j p)) next i (omega (arith, l))

      pub next_done : (done : List (Terms Fraction)) → length done ≤ length g
          → AreNextForms (parts_in base images z g forms values ps back) done
          → AreDone base images g forms done
      next_done done few h = record {
        since = from (length done);
        each = λ i l. turned_to done few h (length done) (omega arith)
            i l;
        normal = h.normal;
      }

      pub variable_turned : (done : List (Terms Fraction)) → length done ≡ length g
          → AreNextForms (parts_in base images z g forms values ps back) done → (i : ℕ)
          → i < length g → {p : Terms Fraction} → p ≡ variable_in base (row_at back i) done
          → IsAfterIterations base images (ready.since + zeros_in values) (place g i) p
      variable_turned done count h i l {p = p} e =
          let d = ready.since + zeros_in values in
          let size = are.value_count in
          let whole : from (length done) ≡ d = ap (λ xs. ready.since + zeros_in xs)
          (take_all (length done) values (omega (arith, size, count))) in
          variable_of base images d is solvable g class forms back values are inverse done count
          (λ j b. subst (λ n. IsFormAfterIterations base images n g (row_at forms j)
          (poly_at done j))
          whole
          (turned_to done (omega (arith, count)) h (length done) (omega arith) j b)) i l p
          (λ n s k late.
          ap (λ x. value_at ℚ x (point base n s)) e
          ∙ collected_value (with_normal_keys r (part (row_at back i) done)) (point base n s)
          ∙ normal-value base c m (part (row_at back i) done)
          (collected-arity w (mix (row_at back i) done) (mix-arity w (row_at back i) done
          (normal-arities base m done h.normal))) n s
          ∙ part_value (row_at back i) done (point base n s))

      pub past_next : IsPastNext (parts_in base images z g forms values ps back)
          → IsPastFormAt base images z g forms values ps back
      past_next h =
          let e = are.count in
          let f = h.few in
          record {
            done = h.done;
            few = omega (arith, e, f);
            are = next_done h.done (omega (arith, e, f)) h.are;
            past = h.past;
          }

      pub past_row : (done : List (Terms Fraction)) → length done ≡ length g
          → AreNextForms (parts_in base images z g forms values ps back) done
          → IsPastRowOf back done → IsPastVariableAt base images g forms back
      past_row done count h past = record {
        done = done;
        all = count;
        are = next_done done (omega (arith, count)) h;
        past = past;
      }
