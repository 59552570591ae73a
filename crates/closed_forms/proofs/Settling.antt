-- What a class's forms are made from, as the code has it.
--   bodies_next, body_arity          the polynomials of all variables
--   room                             how many exponents a base makes
--   vars_is, group_low               how many variables there are; the class's are among them
--   forms_wide, values_count, forms_few     as many forms and values, and as wide, as the class has variables
--   setting_is                       what is asked of what forms are made from
--   inhomogeneity_arities, inhomogeneity_normal    the terms of an inhomogeneity
--   back_count, variables_turned     the polynomials of the variables
--   past_forms, past_rows            what is past in making them
use Rattle.std.proofs.Common.{◌≡◌, inl, ◌<◌, ◌≤◌, ℕ, ◌+◌, List, [], ◌∷◌, ◌++◌, map, take, drop, length, get_or, All, Vec, Global, refl, sym, ap, ap₂, subst, ◌∙◌, arith}
use Rattle.std.proofs.lemmas.List.{length-map, map_push}
use Rattle.algebra.proofs.Lists.{take_next}
use Rattle.algebra.specs.Fraction.{Fraction}
use Rattle.polynomials.specs.Polynomial.{AllArity}
use Rattle.polynomials.specs.Terms.{Terms}
use Rattle.solvable_maps.specs.Uses.{poly_at, IsMap}
use Rattle.frac128.specs.FracMeaning.{fraction_of}
use Rattle.frac128.specs.declared.Whole.{Whole}
use Rattle.frac128.specs.declared.fraction.Frac.{Frac}
use Rattle.coprime_base.specs.Sizes.{sizes}
use Rattle.linear.specs.Rows.{fractions_of, rows_of}
use Rattle.vectors.specs.Adding.{IsEchelonOf}
use Rattle.poly.specs.Seen.{terms_in, terms_each}
use Rattle.poly.specs.declared.Term.{Term}
use Rattle.eigen_split.specs.declared.splitting.Split.{Split}
use Rattle.solvable.proofs.Using.{FracPoly, length_each}
use Rattle.solvable_maps.specs.Classes.{class_matrix, IsClass}
use Rattle.solvable_maps.specs.Inverse.{beside, IsInverse}
use Rattle.solvable_maps.specs.Iterations.{width}
use Rattle.solvable_maps.proofs.Classwise.{class_few}
use Rattle.solvable_maps.proofs.FormSplits.{forms_inverse}
use Rattle.expo.specs.declared.exponential.Expo.{Expo}
use Rattle.closed_forms.specs.declared.class.ClassSetting.{ClassSetting}
use Rattle.closed_forms.specs.Later.{ahead_of}
use Rattle.closed_forms.specs.SplitClass.{base_at, IsSplitClass, IsReadyFor, IsSettingIn}
use Rattle.closed_forms.specs.declared.class.SplitClass.{SplitClass}
use Rattle.closed_forms.specs.ClassForms.{ahead_in, zeros_of, parts_of, AreNextOf, IsPastNextOf, AreVariablesOf, IsPastClassOf}
use Rattle.closed_forms.specs.Known.{IsReady, parts_in, AreNextForms, IsPastNext, IsPastRowOf, form_past, variable_past, variable_in}
use Rattle.closed_forms.specs.ClassSetting.{IsClassSetting}
use Rattle.closed_forms.specs.Splits.{IsSplitOf}
use Rattle.closed_forms.specs.Values.{bodies_of, IsExpoOver}
use Rattle.closed_forms.proofs.Chaining.{map-at}
use Rattle.closed_forms.proofs.Joining.{own_normal, over_normal, over_arity}
use Rattle.expo.specs.Bases.{IsCoprimeBase, IsOwnNormal}
use Rattle.closed_forms.proofs.Mixing.{tell, all_arity, polys_arity}
use Rattle.closed_forms.proofs.Splitting.{map_of, class_inside, matrix_wide, widths_all}
use Rattle.closed_forms.proofs.Turning.{variable_turned, past_next, past_row}

pub bodies_next : (es : List Expo) (i : ℕ) {e : Expo} (out : List FracPoly) {more : List FracPoly}
    (p : FracPoly)
    → i < length es → e ≡ get_or es i e → more ≡ out ++ p ∷ [] → terms_in p ≡ terms_in e.body
    → terms_each out ≡ bodies_of (take i es) → terms_each more ≡ bodies_of (take (i + 1) es)
bodies_next es i {e = e} out p l is k own h =
    ap terms_each k ∙ map_push terms_in out p ∙ ap₂ (λ ps q. ps ++ q ∷ []) h own
    ∙ sym (take_next (λ (e : Expo). terms_in e.body) es i e l is)

pub body_arity : (es : List Expo) (i w : ℕ) {e : Expo} (p : FracPoly) → i < length es
    → e ≡ get_or es i e → p.arity ≡ e.body.arity → All (λ (e : Expo). e.body.arity ≡ w) es
    → p.arity ≡ w
body_arity es i w {e = e} p l is k h = k ∙ ap (λ (x : Expo). x.body.arity) is ∙ h i e l

pub room : (ws : List Whole) (m : ℕ) → length ws ≤ 500 → m ≤ 12 → width (length (sizes ws)) m
    ≤ 4096
room ws m l k = (let e : length (sizes ws) ≡ length ws = length-map ws _ in omega (arith, e, l, k))

-- ---- the splitting of a class
module _ {images : List (Terms Fraction)} {g : List ℕ} {split : Split}
    (is : IsSplitOf images g split) where
  forms_count : length split.forms.items ≡ length g
  forms_count = sym (length-map split.forms.items (λ row. fractions_of row.items)) ∙ is.are.count

  pub forms_wide : All (λ (form : Vec Frac Global). length form.items ≡ length split.forms.items)
      split.forms.items
  forms_wide = subst (λ n. All (λ (form : Vec Frac Global). length form.items ≡ n)
      split.forms.items) (sym forms_count)
      (widths_all split.forms.items (length g) refl is.are.widths)

  pub values_count : length split.values.items ≡ length split.forms.items
  values_count = sym (length-map split.values.items fraction_of) ∙ is.are.value_count
      ∙ sym forms_count

  pub forms_few : {n : ℕ} → IsClass images g → length images ≡ n → n ≤ 12
      → length split.forms.items ≤ 12
  forms_few class e l = (let a = class_few images g class in let b = forms_count in
      omega (arith, a, b, e, l))

-- ---- where the forms of a class are made
module _ {k : SplitClass} {es : List Expo} {s : ClassSetting} (h : IsSplitClass k)
    (known : IsReadyFor k es) (setting : IsSettingIn k es s) where
  abbrev bs : List ℕ
  bs = base_at k

  abbrev images : List FracPoly
  images = k.work.now.map.images.now.items

  abbrev g : List ℕ
  g = k.group.now

  abbrev split : Split
  split = k.split.now

  abbrev z : ℕ
  z = k.work.now.iterations

  coprime : IsCoprimeBase bs
  coprime = (h.work.base.coarsest.base.coprime, h.work.base.ascending)

  abbrev M : List (Terms Fraction)
  M = terms_each images

  abbrev forms : List (List Fraction)
  forms = rows_of split.forms.items

  abbrev values : List Fraction
  values = fractions_of split.values.items

  abbrev back : List (List Fraction)
  back = rows_of s.back.items

  is : IsMap (length M) M
  is = map_of images k.work.now.map.square

  arities : All (λ (p : FracPoly). p.arity ≡ width (length bs) (length images)) s.earlier.items
  arities = setting.arities (width (length bs) (length images))
      (λ i d l. over_arity (known.over i d l))

  pub vars_is : length s.earlier.items ≡ length images
  vars_is = sym (length_each s.earlier.items) ∙ ap length setting.earlier ∙ known.ready.turned.size
      ∙ length_each images

  vars_own : length s.earlier.items ≡ length M
  vars_own = vars_is ∙ sym (length_each images)

  ahead_is : ahead_in s ≡ ahead_of M g z
  ahead_is = ap₂ (λ n state. record { iterations = n; state = state }) setting.iterations
      setting.ahead

  parts_are : parts_of bs g s split ≡ parts_in bs M z g forms values (bodies_of es) back
  parts_are = λ i. record {
    base = bs;
    vars = vars_own i;
    class = g;
    rests = setting.rests i;
    polys = setting.earlier i;
    matrix = setting.matrix i;
    back = back;
    ahead = ahead_is i;
    forms = forms;
    values = values;
  }

  pub group_low : All (λ j. j < length s.earlier.items) g
  group_low = subst (λ n. All (λ j. j < n) g) (sym vars_is) (class_inside images h.class)

  inverse_is : IsInverse (length g) forms back
  inverse_is =
      let n : length forms ≡ length g = h.split.are.count in
      subst (IsInverse (length g) forms) (sym (setting.back.behind
      ∙ ap (λ k. map (drop k) setting.back.echelon) n))
      (forms_inverse (length g) (class_matrix M g) forms setting.back.echelon values h.split.are
      (subst (λ k. IsEchelonOf (k + k) (beside k 0 forms) setting.back.echelon) n
      setting.back.is))

  pub back_count : length s.back.items ≡ length g
  back_count = sym (length-map s.back.items (λ row. fractions_of row.items)) ∙ inverse_is.size

  pub setting_is : IsClassSetting bs (length split.forms.items) s
  setting_is =
      let n : length split.forms.items ≡ length g = forms_count h.split in
      let e = vars_is in
      let low =
      (h.class.is.inside h.class.of (h.class.is.whole h.class.of h.class.within (inl refl))).0
      in
      let size = vars_own in
      record {
        coprime = coprime;
        some = omega (arith, low, size);
        few = subst (λ n. width (length bs) n ≤ 4096) (sym e)
            (room k.work.now.base.items (length images) h.work.short k.work.now.map.few);
        earlier = subst (λ n. All (λ (p : FracPoly). p.arity ≡ width (length bs) n) s.earlier.items)
            (sym vars_is) arities;
        rests = subst (λ n. All (λ (p : FracPoly). p.arity ≡ n) s.rests.items) (sym vars_own)
            setting.variables;
        matrix = subst (λ n. All (λ (row : Vec Frac Global). length row.items ≡ n) s.matrix.items)
            (sym n) (matrix_wide M g s.matrix.items setting.matrix);
        back = subst (λ n. All (λ (row : Vec Frac Global). length row.items ≡ n) s.back.items)
            (sym n) (widths_all s.back.items (length g) refl inverse_is.widths);
        ahead = subst (λ n. All (λ (p : FracPoly). p.arity ≡ n) s.ahead.items) (sym vars_own)
            setting.over;
      }

  all : AllArity (width (length bs) (length M)) (bodies_of es)
  all = subst (AllArity (width (length bs) (length M))) setting.earlier
      (polys_arity (width (length bs) (length M)) s.earlier.items
      (subst (λ n. All (λ (p : FracPoly). p.arity ≡ width (length bs) n) s.earlier.items)
      (sym (length_each images)) arities))

  module _ (done : List FracPoly) (count : length done ≡ length split.forms.items)
      (next : AreNextOf bs g s split (terms_each done)) where
    own : AreNextForms (parts_in bs M z g forms values (bodies_of es) back) (terms_each done)
    own = subst (λ p. AreNextForms p (terms_each done)) parts_are next

    own_count : length (terms_each done) ≡ length g
    own_count = length_each done ∙ count ∙ forms_count h.split

    pub variables_turned : (news : List Expo)
        → bodies_of news ≡ map (λ row. variable_in bs row (terms_each done)) back
        → (r : IsReady bs M z (zeros_of split) g (bodies_of es))
        → AreVariablesOf bs M (r.since + zeros_of split) g (bodies_of news)
    variables_turned news e r = λ a l.
        variable_turned bs coprime.0 M is h.work.solvable g h.class z values r all
        h.split.are inverse_is (terms_each done) own_count own a l
        (ap (λ ps. poly_at ps a) e ∙ map-at (λ row. variable_in bs row (terms_each done)) back a
        (let q = inverse_is.size in omega (arith, l, q)))

    pub past_rows : IsPastRowOf back (terms_each done) → IsPastClassOf bs M z g split (bodies_of es)
    past_rows past = variable_past back setting.back
        (past_row bs coprime.0 M is h.work.solvable g h.class z values known.ready all h.split.are
        inverse_is (terms_each done) own_count own past)

  pub past_forms : IsPastNextOf bs g s split → IsPastClassOf bs M z g split (bodies_of es)
  past_forms past = form_past back setting.back
      (past_next bs coprime.0 M is h.work.solvable g h.class z values known.ready all h.split.are
      inverse_is (subst IsPastNext parts_are past))

-- ---- one form
module _ {base : List ℕ} {m : ℕ} {q : Expo} (over : IsExpoOver base m q) {ts : List (Term Frac)}
    (is : ts ≡ q.body.terms.items) where
  pub inhomogeneity_arities : All (λ (t : Term Frac). length t.mono ≡ width (length base) m) ts
  inhomogeneity_arities = subst (λ (us : List (Term Frac)).
      All (λ (t : Term Frac). length t.mono ≡ width (length base) m) us) (sym is)
      (all_arity (width (length base) m) q.body.terms.items
      (over_normal over).polynomial.arity)

  pub inhomogeneity_normal : IsOwnNormal base (tell ts)
  inhomogeneity_normal = subst (λ (us : List (Term Frac)). IsOwnNormal base (tell us)) (sym is)
      (own_normal over)
