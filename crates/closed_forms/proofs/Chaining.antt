-- Forms one after another, as the code has them.
--   next_none, next_push      no form; one form more
--   each_at                   what holds of the numbers of a list holds of the one at a place
--   next_begun, next_code, past_code      the same by the places of the code's lists
--   variables_next, row_past, map-at      polynomials of variables
use Rattle.std.proofs.Common.{◌≡◌, ◌<◌, ℕ, zero, suc, ◌+◌, List, [], ◌∷◌, ◌++◌, map, take, length, get_or, Vec, Global, refl, sym, ap, ap₂, subst, ◌∙◌, arith, below_more}
use Rattle.std.proofs.lemmas.List.{length-map, length_push, map_push, take_at, take-append-le, get_or_append_left, get_or_push}
use Rattle.algebra.specs.Each.{Each}
use Rattle.algebra.proofs.Each.{each-append}
use Rattle.algebra.proofs.Lists.{take_next}
use Rattle.algebra.specs.Fraction.{Fraction}
use Rattle.algebra.proofs.Fractions.{ℚ_field}
use Rattle.polynomials.specs.Order.{grevlex}
use Rattle.polynomials.specs.Terms.{Terms}
use Rattle.solvable_maps.specs.Uses.{poly_at}
use Rattle.frac128.specs.FracMeaning.{fraction_of}
use Rattle.frac128.specs.declared.fraction.Frac.{Frac}
use Rattle.linear.specs.Rows.{fractions_of, rows_of}
use Rattle.vectors.specs.Causes.{row_at}
use Rattle.vectors.specs.Lists.{entries}
use Rattle.poly.specs.Seen.{terms_in, terms_each}
use Rattle.solvable.proofs.Using.{FracPoly, length_each}
use Rattle.solvable_maps.specs.Iterations.{IsNormalForm}
use Rattle.expo.specs.declared.exponential.Expo.{Expo}
use Rattle.closed_forms.specs.declared.class_in_work.ClassInWork.{ClassInWork}
use Rattle.closed_forms.specs.ClassInWork.{base_in, AreClosedIn, IsPastIn}
use Rattle.closed_forms.specs.ClassForms.{IsNormalOver, IsNextOf, IsPastFormOf}
use Rattle.closed_forms.specs.Known.{ClassParts, IsNextAt, AreNextForms, IsPastVariable, IsPastRowOf, variable_in}
use Rattle.closed_forms.specs.Values.{bodies_of}
use Rattle.eigen_split.proofs.Reading.{list_row}
use Rattle.closed_forms.proofs.Rows.{entry_at}
use Rattle.closed_forms.proofs.Mixing.{poly_get}

at_before : (ys : List (Terms Fraction)) (y : Terms Fraction) (i : ℕ) → i < length ys
    → poly_at (ys ++ y ∷ []) i ≡ poly_at ys i
at_before ys y i l = poly_get _ i ∙ get_or_append_left ys (y ∷ []) [] i l ∙ sym (poly_get ys i)

at_last : (ys : List (Terms Fraction)) (y : Terms Fraction) → poly_at (ys ++ y ∷ []) (length ys) ≡ y
at_last ys y = poly_get _ (length ys) ∙ get_or_push ys y [] (length ys) refl

module _ (c : ClassParts) where
  next_none : AreNextForms c []
  unfolding Each
  next_none = record { each = λ i l. absurd (omega (arith, l)); normal = tt }

  next_push : {done : List (Terms Fraction)} (y : Terms Fraction) → AreNextForms c done
      → IsNormalForm c.base grevlex c.vars y → IsNextAt c (length done) done y
      → AreNextForms c (done ++ y ∷ [])
  unfolding Each
  next_push {done = done} y h normal next = record {
    each = λ i l. below_more
        (λ k. IsNextAt c k (take k (done ++ y ∷ [])) (poly_at (done ++ y ∷ []) k)) (length done)
        before last i (let e = length_push done y in omega (arith, l, e));
    normal = each-append (IsNormalForm c.base grevlex c.vars) done (y ∷ []) h.normal (normal, tt);
  }
    where
      before : (k : ℕ) → k < length done
          → IsNextAt c k (take k (done ++ y ∷ [])) (poly_at (done ++ y ∷ []) k)
      before k b =
          subst (λ z. IsNextAt c k (take k (done ++ y ∷ [])) z) (sym (at_before done y k b))
          (subst (λ d. IsNextAt c k d (poly_at done k))
          (sym (take-append-le k done (y ∷ []) (omega (arith, b)))) (h.each k b))

      last : IsNextAt c (length done) (take (length done) (done ++ y ∷ []))
          (poly_at (done ++ y ∷ []) (length done))
      last =
          subst (λ z. IsNextAt c (length done) (take (length done) (done ++ y ∷ [])) z)
          (sym (at_last done y))
          (subst (λ d. IsNextAt c (length done) d y)
          (sym (take_at done (y ∷ []) (length done) refl))
          next)

-- ---- as the code has them
pub each_at : (P : Fraction → Type 0) (xs : List Frac) (i : ℕ) {x : Frac} → i < length xs
    → x ≡ get_or xs i x → Each P (fractions_of xs) → P (fraction_of x)
unfolding Each
each_at P [] i l is h = absurd (omega (arith, l))
each_at P (y ∷ xs) zero l is h = subst (λ z. P (fraction_of z)) (sym is) h.0
each_at P (y ∷ xs) (suc i) {x = x} l is h = each_at P xs i (omega (arith, l)) is h.1

module _ (w : ClassInWork) where
  pub next_begun : {done : List FracPoly} → done ≡ [] → AreClosedIn w (terms_each done)
  next_begun e = subst (λ (l : List FracPoly). AreClosedIn w (terms_each l)) (sym e)
      (next_none _)

  module _ {dones given : List FracPoly} {place : ℕ} {form : Vec Frac Global} {row : List Frac}
      {value : Frac} (same : given ≡ dones) (count : length dones ≡ place)
      (low : place < length w.split.now.forms.items)
      (is_form : form ≡ get_or w.split.now.forms.items place form) (is_row : row ≡ form.items)
      (is_value : value ≡ get_or w.split.now.values.items place value) where
    row_is : fractions_of row ≡ row_at (rows_of w.split.now.forms.items) (length (terms_each dones))
    row_is = ap fractions_of is_row ∙ sym (list_row w.split.now.forms.items place form low is_form)
        ∙ ap (row_at (rows_of w.split.now.forms.items)) (sym (length_each dones ∙ count))

    value_is : fraction_of value ≡ entries ℚ_field (fractions_of w.split.now.values.items)
        (length (terms_each dones))
    value_is =
        sym (entry_at w.split.now.values.items place value (omega (arith, low, w.values)) is_value)
        ∙ ap (entries ℚ_field (fractions_of w.split.now.values.items))
        (sym (length_each dones ∙ count))

    given_is : terms_each given ≡ terms_each dones
    given_is = ap terms_each same

    abbrev Told : Type 0
    Told = List Fraction × Fraction × List (Terms Fraction)

    pub next_code : {more : List FracPoly} (y : FracPoly) → more ≡ dones ++ y ∷ []
        → AreClosedIn w (terms_each dones) → IsNormalOver (base_in w) w.setting (terms_in y)
        → IsNextOf (base_in w) w.group.now w.setting (fractions_of row) (fraction_of value)
        (terms_each given) (terms_in y)
        → AreClosedIn w (terms_each more)
    next_code y e h normal next =
        subst (AreClosedIn w) (sym (ap terms_each e ∙ map_push terms_in dones y)) (next_push _
        (terms_in y) h normal (subst (λ (t : Told). IsNextOf (base_in w) w.group.now w.setting t.0
        t.1 t.2 (terms_in y)) (λ i. (row_is i, value_is i, given_is i)) next))

    pub past_code : AreClosedIn w (terms_each dones)
        → IsPastFormOf (base_in w) w.group.now w.setting (fractions_of row) (fraction_of value)
        (terms_each given)
        → IsPastIn w
    past_code h past = record {
      done = terms_each dones;
      few = (let a = length_each dones in let b = length-map w.split.now.forms.items (λ row.
          fractions_of row.items) in omega (arith, a, b, count, low));
      are = h;
      past = subst (λ (t : Told). IsPastFormOf (base_in w) w.group.now w.setting t.0 t.1 t.2)
          (λ i. (row_is i, value_is i, given_is i)) past;
    }

-- ---- rows of the inverse
pub variables_next : (base : List ℕ) (done : List (Terms Fraction)) (back : List (Vec Frac Global))
    (i : ℕ) {row : Vec Frac Global} (es : List Expo) {more : List Expo} (e : Expo)
    → i < length back → row ≡ get_or back i row → more ≡ es ++ e ∷ []
    → terms_in e.body ≡ variable_in base (fractions_of row.items) done
    → bodies_of es ≡ map (λ row. variable_in base row done) (rows_of (take i back))
    → bodies_of more ≡ map (λ row. variable_in base row done) (rows_of (take (i + 1) back))
variables_next base done back i {row = row} es e l is k own h =
    let f : List Fraction → Terms Fraction = λ row. variable_in base row done in
    ap bodies_of k
    ∙ map_push (λ (e : Expo). terms_in e.body) es e
    ∙ ap₂ (λ ps p. ps ++ p ∷ []) h own
    ∙ sym (map_push f (rows_of (take i back)) (fractions_of row.items))
    ∙ ap (map f) (sym (take_next (λ (row : Vec Frac Global). fractions_of row.items) back i row l
    is))

pub row_past : (back : List (Vec Frac Global)) (place : ℕ) {row : Vec Frac Global}
    (done : List (Terms Fraction))
    → place < length back → row ≡ get_or back place row
    → IsPastVariable (fractions_of row.items) done → IsPastRowOf (rows_of back) done
row_past back place {row = row} done l e h = record {
  place = place;
  within = (let b = length-map back (λ row. fractions_of row.items) in omega (arith, b, l));
  past = subst (λ r. IsPastVariable r done) (sym (list_row back place row l e)) h;
}

pub map-at : (f : List Fraction → Terms Fraction) (rows : List (List Fraction)) (a : ℕ)
    → a < length rows → poly_at (map f rows) a ≡ f (row_at rows a)
map-at f [] a l = absurd (omega (arith, l))
map-at f (row ∷ rows) zero l = refl
map-at f (row ∷ rows) (suc a) l = map-at f rows a (omega (arith, l))
