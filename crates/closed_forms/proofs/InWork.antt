-- What is known of a map in work.
--   form_base_in, early_in      its base, and how many of its values are zero
--   class_later, iteration_later     what a refusal tells of it
--   none_yet            before the first class
--   comes_next          a class that comes next;  next_class, next_inside, first_low: its variables
--   at_first, split_here, values_here, ready_here, forms_next, wide_first     with its splitting
--   inside_in, some_states, vars_known, counts_known, arities_known, settling_in     behind the last class
--   passing_in, passing_wide, form_in     from which number of iterations on its polynomials are the state, and which variables pass
use Rattle.std.proofs.Common.{◌≡◌, ◌≢◌, inl, inr, ℕ, ◌+◌, ◌<◌, ◌≤◌, Bool, false, List, [], ◌∷◌, length, get_or, All, Vec, Global, Option, Some, None, refl, sym, ap, subst, ◌∙◌, arith}
use Rattle.std.proofs.lemmas.Bool.{cases_eq}
use Rattle.std.proofs.lemmas.List.{length-map, get_or_default}
use Rattle.algebra.specs.Each.{Each}
use Rattle.algebra.specs.Fraction.{ℚ}
use Rattle.solvable_maps.specs.Classes.{IsClass, IsFormBase, first_of}
use Rattle.solvable_maps.specs.Iterations.{width, IsClosedFormFrom}
use Rattle.solvable_maps.proofs.Classwise.{class_some}
use Rattle.linear.specs.Rows.{fractions_of, rows_of}
use Rattle.coprime_base.specs.Sizes.{sizes}
use Rattle.eigen_split.specs.declared.splitting.Split.{Split}
use Rattle.expo.specs.declared.exponential.Expo.{Expo}
use Rattle.solvable.proofs.Using.{FracPoly, length_each}
use Rattle.algebra.proofs.In.{in_get}
use Rattle.closed_forms.specs.declared.map_in_work.MapInWork.{MapInWork}
use Rattle.closed_forms.specs.declared.errors.FormsError.{FormsError}
use Rattle.closed_forms.specs.ClassForms.{zeros_of, AreVariablesOf, IsPastClassOf}
use Rattle.closed_forms.specs.Known.{IsReady, IsWideClass, IsWideIteration}
use Rattle.closed_forms.specs.MapInWork.{images_in, IsInWork, AreFormsBut}
use Rattle.closed_forms.specs.Put.{IsPutTo}
use Rattle.closed_forms.specs.Refusal.{IfOfClass, IfWide, IfWideIteration, IfLater}
use Rattle.closed_forms.specs.Settling.{AreAllMarked, IsPastOfClass, IsSettling, IsSettled}
use Rattle.closed_forms.specs.Solved.{IsMade}
use Rattle.closed_forms.specs.Splits.{groups_in, IsSplitOf}
use Rattle.closed_forms.specs.States.{AreZeros}
use Rattle.closed_forms.specs.Values.{values_in, bodies_of, AreOver}
use Rattle.closed_forms.specs.View.{ArePassing, IsFormOf}
use Rattle.closed_forms.proofs.Ahead.{zeros_counted}
use Rattle.closed_forms.proofs.Counting.{twelve_values}
use Rattle.closed_forms.proofs.Ending.{form_base_is, closed_is, closed_count, of_class, later_class, later_iteration}
use Rattle.closed_forms.proofs.Filling.{values_made, values_at, first_here}
use Rattle.closed_forms.proofs.Least.{wide_here, passing_none, passing_marked}
use Rattle.closed_forms.proofs.Placing.{bodies-count, known_begun, known_ready, known_next, next_whole, over_normals, put_all, put_over}
use Rattle.closed_forms.proofs.Settling.{room}
use Rattle.closed_forms.proofs.Splitting.{first_in, first_is, groups_inside, map_of}
use Rattle.closed_forms.proofs.StateLists.{told, states_get, states_count, state_length}

abbrev numbers : MapInWork → List ℕ
numbers w = sizes w.base.items

abbrev listed : MapInWork → List FracPoly
listed w = w.map.images.now.items

module _ {w : MapInWork} (is : IsInWork w) where
  pub form_base_in : IsFormBase (images_in w) (numbers w)
  form_base_in = form_base_is is.splits
      (map_of (listed w) w.map.square)
      (numbers w) is.base

  zeros : AreZeros (images_in w) w.iterations
  zeros = record { splits = w.splits.items; are = is.splits; count = sym is.iterations }

  pub early_in : w.iterations ≤ 12
  early_in =
      let a = zeros_counted (values_in w.splits.items) in
      let b = twelve_values (listed w) w.map.few w.map.square is.splits in
      let d = is.iterations in
      omega (arith, a, b, d)

  pub class_later : (e : FormsError) → IfWide (numbers w) (images_in w) w.iterations e
      → IfLater (images_in w) e
  class_later = later_class form_base_in zeros

  pub iteration_later : (e : FormsError) → IfWideIteration (numbers w) (images_in w) w.iterations e
      → IfLater (images_in w) e
  iteration_later = later_iteration form_base_in zeros

  pub room_in : width (length (numbers w)) (length (listed w)) ≤ 4096
  room_in = room w.base.items (length (listed w)) is.short w.map.few

  -- before the first class
  pub none_yet : {es : List Expo} → length es ≡ length (listed w)
      → AreOver (numbers w) (length (listed w)) es → AreFormsBut w (groups_in w.classes.items) es
  none_yet {es = es} count over = record {
    over = over;
    known = known_begun is.classes (bodies_of es)
        (bodies-count es ∙ count ∙ sym (length_each (listed w))) (sym is.iterations);
  }

-- ---- a class that comes next
pub comes_next : {w : MapInWork} {groups rest : List (Vec ℕ Global)} {group : Vec ℕ Global}
    {g : List ℕ} {es : List Expo} → groups ≡ group ∷ rest → g ≡ group.items
    → AreFormsBut w (groups_in groups) es → AreFormsBut w (g ∷ groups_in rest) es
comes_next {w} {groups} {rest} {group} {g} {es} cut at h = subst (λ gs. AreFormsBut w gs es)
    (ap groups_in cut ∙ ap (λ x. x ∷ groups_in rest) (sym at)) h

module _ {w : MapInWork} {g : List ℕ} {rest : List (List ℕ)} {es : List Expo} (is : IsInWork w)
    (forms : AreFormsBut w (g ∷ rest) es) where
  pub next_class : IsClass (images_in w) g
  next_class = next_whole forms.known

  pub next_some : 0 < length g
  next_some = class_some (images_in w) g next_class

  pub next_inside : All (λ i. i < length es) g
  next_inside = λ a d l.
      let e = bodies-count es in
      let n = forms.known.turned.size in
      let i = (next_class.is.inside (get_or g a d) (in_get g a d l)).0 in
      omega (arith, e, n, i)

  first_at : (get_or g 0 0) ≡ first_of g
  first_at = first_is g (get_or g 0 0) next_some refl

  pub first_low : (get_or g 0 0) < length w.splits.items
  first_low =
      let l = (next_class.is.inside (first_of g) (first_in (images_in w) g next_class)).0 in
      let n = is.splits.count in
      let e = first_at in
      omega (arith, l, n, e)

  module _ {found : Option Split} (read : found ≡ get_or w.splits.items (get_or g 0 0) found) where
    pub at_first : (split : Split) × (found ≡ Some split) × IsSplitOf (images_in w) g split
    at_first =
        let s = (is.splits.each (get_or g 0 0) found first_low).every g next_class (sym first_at) in
        (s.0, read ∙ s.1, s.2)

    module _ {split : Split} (some : found ≡ Some split) where
      pub split_here : IsSplitOf (images_in w) g split
      split_here =
          let s = at_first in
          let e : Some s.0 ≡ Some split = sym s.1 ∙ some in
          let own : s.0 ≡ split = cc in
          subst (IsSplitOf (images_in w) g) own s.2

      here : get_or w.splits.items (first_of g) None ≡ Some split
      here = first_here w.splits.items (get_or g 0 0) found split first_at read some
          first_low

      pub values_here : Each (λ c. c ≢ ℚ.zero → IsMade (numbers w) c)
          (fractions_of split.values.items)
      values_here = values_at (λ c. c ≢ ℚ.zero → IsMade (numbers w) c) w.splits.items (get_or g 0 0)
          found split
          first_low read some (values_made (values_in w.splits.items) (numbers w) is.base)

      pub ready_here : IsReady (numbers w) (images_in w) w.iterations (zeros_of split) g
          (bodies_of es)
      ready_here = known_ready forms.known here

      pub forms_next : {news new : List Expo} → length news ≡ length g
          → AreOver (numbers w) (length w.map.images.now.items) news
          → IsPutTo (length news) g news es new
          → ((r : IsReady (numbers w) (images_in w) w.iterations (zeros_of split) g (bodies_of es))
          → AreVariablesOf (numbers w) (images_in w) (r.since + zeros_of split) g (bodies_of news))
          → AreFormsBut w rest new
      forms_next {news} {new} count over put variables =
          let whole = put_all g news es new count put in
          record {
            over = put_over (numbers w) g news es new whole count
                over
                forms.over;
            known = known_next news es new forms.known here whole count
                (variables (known_ready forms.known here));
          }

      pub wide_first : IsPastClassOf (numbers w) (images_in w) w.iterations g split (bodies_of es)
          → IsWideClass (numbers w) (images_in w) w.iterations (get_or g 0 0)
      wide_first past = record {
        class = g;
        polys = bodies_of es;
        forms = rows_of split.forms.items;
        values = fractions_of split.values.items;
        ready = ready_here;
        normal = over_normals es
            (subst (λ n. AreOver (numbers w) n es)
            (sym (length_each w.map.images.now.items)) forms.over);
        first = sym first_at;
        are = split_here.found;
        past = past;
      }

-- ---- behind the last class
module _ {w : MapInWork} {es : List Expo} (is : IsInWork w) (forms : AreFormsBut w [] es) where
  own : AreOver (numbers w) (length (images_in w)) es
  own = subst (λ m. AreOver (numbers w) m es) (sym (length_each (listed w))) forms.over

  closed : IsClosedFormFrom (numbers w) (images_in w) w.iterations (bodies_of es)
  closed = closed_is (numbers w) (images_in w) w.splits.items w.iterations es own forms.known

  many : length es ≡ length (listed w)
  many = closed_count w.iterations es closed ∙ length_each (listed w)

  pub inside_in : All (λ (g : Vec ℕ Global). All (λ i. i < length es) g.items) w.classes.items
  inside_in = groups_inside (listed w) w.classes.items (sym many) is.classes

  states_many : length w.states.items ≡ w.iterations + 1
  states_many = states_count (images_in w) w.iterations w.states.items is.states

  pub some_states : 0 < length w.states.items
  some_states = (let n = states_many in omega (arith, n))

  pub vars_known : All (λ (e : Expo). e.vars ≡ length es) es
  vars_known k d l = (forms.over k d l).over_vars ∙ sym many

  pub counts_known : All (λ (v : Vec FracPoly Global). length v.items ≡ length es) w.states.items
  counts_known k d l =
      let n = states_many in
      state_length (listed w) w.iterations w.states.items is.states k (get_or w.states.items k d)
      (omega (arith, l, n)) (get_or_default w.states.items k d (get_or w.states.items k d) l)
      ∙ sym many

  pub arities_known : All (λ (v : Vec FracPoly Global). All (λ (p : FracPoly). p.arity ≡ length es)
      v.items) w.states.items
  arities_known = subst (λ n. All (λ (v : Vec FracPoly Global).
      All (λ (p : FracPoly). p.arity ≡ n) v.items) w.states.items) (sym many) is.arities

  told_count : length (told w.states.items) ≡ w.iterations + 1
  told_count = length-map w.states.items _ ∙ states_many

  some_lists : 0 < length (told w.states.items)
  some_lists = (let n = told_count in omega (arith, n))

  pub settling_in : IsSettling (images_in w) (numbers w) (groups_in w.classes.items)
      (told w.states.items) es w.iterations
  settling_in = record {
    map = map_of (listed w) w.map.square;
    coprime = is.base.coarsest.base.coprime;
    over = own;
    count = many ∙ sym (length_each (listed w));
    classes = is.classes;
    states = λ i l. ap (λ l. get_or l i []) is.states
        ∙ states_get (images_in w) w.iterations i []
        (let n = told_count in omega (arith, l, n));
    closed = closed;
  }

  module _ {since : ℕ} (settled : IsSettled (images_in w) (numbers w) es w.iterations since) where
    pub passing_in : (marks : List Bool) → (since ≡ 0 → (i : ℕ) → get_or marks i false ≡ false)
        → (since ≢ 0 → AreAllMarked es 0 (get_or (told w.states.items) 0 [])
        (groups_in w.classes.items) marks)
        → ArePassing (numbers w) (length (images_in w)) (bodies_of es) marks
    passing_in marks none marked = elim (cases_eq since 0) [
      | inl e ↦ passing_none settling_in marks
          (subst (λ n. IsClosedFormFrom (numbers w) (images_in w) n (bodies_of es)) e
          settled.closed) (none e)
      | inr n ↦ passing_marked settling_in marks (settling_in.states 0 some_lists) (marked n)
    ]

    pub passing_wide : (e : FormsError)
        → IfOfClass (λ v. (since ≢ 0) × IsPastOfClass (groups_in w.classes.items) es 0 v) e
        → IfWideIteration (numbers w) (images_in w) w.iterations e
    passing_wide = of_class (λ v. (since ≢ 0) × IsPastOfClass (groups_in w.classes.items) es 0 v)
        (IsWideIteration (numbers w) (images_in w) w.iterations) (λ v h. wide_here settling_in v
        (some since w.iterations h.0 settled.low) (inr refl) h.1)
      where
        some : (a b : ℕ) → a ≢ 0 → a ≤ b → 0 < b
        some a b n l = grind (arith, n, l)

pub form_in : {w : MapInWork} (is : IsInWork w) (polys : Vec Expo Global) {since : ℕ}
    (passing : Vec Bool Global)
    → AreFormsBut w [] polys.items
    → IsSettled (images_in w) (sizes w.base.items) polys.items w.iterations since
    → length passing.items ≡ length polys.items
    → ArePassing (sizes w.base.items) (length (images_in w)) (bodies_of polys.items) passing.items
    → IsFormOf (images_in w) (record {
      base = w.base;
      polys = polys;
      since = since;
      passing = passing;
    })
form_in {w} is polys {since = since} passing forms settled told passes =
    let size = length_each (listed w) in
    let count = closed_count since polys.items settled.closed in
    let n : length (numbers w) ≡ length w.base.items = length-map w.base.items _ in
    record {
      base = form_base_in is;
      closed = settled.closed;
      least = settled.least;
      normal = over_normals polys.items (own is forms);
      over = own is forms;
      count = count;
      told = told ∙ count;
      passes = passes;
      short = (let s = is.short in omega (arith, s, n));
      early = (let a = settled.low in let b = early_in is in omega (arith, a, b));
      few = subst (λ m. width (length (numbers w)) m ≤ 4096) (sym size) (room_in is);
    }
