-- The lists of a late form, from the lists of graphs.
--   stands_before        what the variables were, as the form tells it
--   collected_list       what stands for a list of terms has these terms, collected
--   graph_arities, graph_alike       the list of a graph, and from what was collected
--   heavy_graph          where a polynomial of it is too heavy, what makes it is past
--   shape_few            the variables of a graph are few
--   orbit_stands, orbit_past, orbit_heavy      the graph of an orbit
--   iteration_stands, iteration_past, iteration_told          that of an iteration
use Rattle.std.proofs.Common.{◌≡◌, inl, inr, ℕ, zero, suc, ◌+◌, ◌≤◌, Bool, true, false, cond, List, [], ◌∷◌, ◌++◌, map, get_or, take, drop, length, All, refl, sym, ap, ap₂, subst, ◌∙◌, arith}
use Rattle.std.specs.List.{Any}
use Rattle.std.proofs.lemmas.List.{length-map}
use Rattle.algebra.specs.Each.{Each}
use Rattle.algebra.proofs.Basics.{same_head, same_tail}
use Rattle.algebra.proofs.Each.{each-append, each-drop}
use Rattle.algebra.specs.Fraction.{Fraction, ℚ, rationals, fractions, fraction_size}
use Rattle.algebra.specs.Size.{IsPast, sum_size}
use Rattle.algebra.proofs.Fractions.{ℚ_ring, ℚ_field}
use Rattle.algebra.proofs.SizeLaws.{fractions_bounded, past_under}
use Rattle.polynomials.specs.Order.{grevlex}
use Rattle.polynomials.specs.Polynomial.{Arity, AllArity, IsPolynomial}
use Rattle.polynomials.specs.Terms.{Terms, Same, AllSame, variables, negate, compose}
use Rattle.polynomials.specs.Weight.{weight, IsPastSum}
use Rattle.polynomials.proofs.Arity.{arity-append, arity-compose, arity-negate, arity-variables}
use Rattle.polynomials.proofs.ByValues.{same_by_values}
use Rattle.polynomials.proofs.Orders.{grevlex_order}
use Rattle.polynomials.proofs.Same.{Same-refl, Same-sym, Same-trans, same_append, same_negate}
use Rattle.polynomials.proofs.ValueAt.{value_at_same, value_at-compose}
use Rattle.polynomials.proofs.Weight.{weight-append, weight-negate, weight-pos, weight_of_polynomial}
use Rattle.machines.specs.Collect.{collect}
use Rattle.machines.proofs.Collecting.{collect-is, collect-same}
use Rattle.machines.proofs.Padding.{at}
use Rattle.poly.specs.Seen.{terms_in, terms_each}
use Rattle.poly.specs.Standing.{IsInVariables, AllStandFor}
use Rattle.poly.proofs.Standing.{arities_over, polynomial_over, stands_all_along, stands_over, stands_same}
use Rattle.solvable_maps.specs.Expo.{inverse_form_terms}
use Rattle.rounds.specs.Form.{front, inverse_form, variable_at, with_room_for, before_by, at_minus_one}
use Rattle.rounds.specs.Graph.{images_behind, less, at_before, graph_list}
use Rattle.rounds.specs.Past.{IsPastLess, IsPastGraph}
use Rattle.rounds.proofs.Graph.{each-take}
use Rattle.rounds.proofs.WayBack.{before_arity}
use Rattle.expo.specs.declared.exponential.Expo.{Expo}
use Rattle.loop_model.specs.FracPoly.{FracPoly}
use Rattle.task_lists.specs.Late.{FitsForm, HasShape, IsExpoOver, bodies_in, copies_in, form_in, form_over, numbers_in, vars_in, which}
use Rattle.task_lists.specs.Shapes.{before_in, passers, width_of}
use Rattle.task_lists.specs.declared.late_form.LateForm.{LateForm}
use Rattle.task_lists.specs.declared.shape.Shape.{Shape}
use Rattle.task_lists.proofs.Passers.{before_are, passers_are, passers_few}
use Rattle.task_lists.proofs.Placing.{heavy_composed}

-- ---- polynomials that are the same
alike_compose : (w : ℕ) (p q : Terms Fraction) (images : List (Terms Fraction)) → AllArity w images
    → Same ℚ p q → Same ℚ (compose ℚ w p images) (compose ℚ w q images)
alike_compose w p q images a h = same_by_values w (compose ℚ w p images) (compose ℚ w q images)
    (arity-compose w ℚ p images a) (arity-compose w ℚ q images a)
    (λ s l. value_at-compose ℚ_ring w p images s
    ∙ value_at_same ℚ_ring p q (map (λ x. at x s) images) h
    ∙ sym (value_at-compose ℚ_ring w q images s))

values_alike : (bs cs : List (Terms Fraction)) (s : List Fraction) → AllSame ℚ bs cs
    → map (λ x. at x s) bs ≡ map (λ x. at x s) cs
unfolding AllSame
values_alike [] [] s h = refl
values_alike [] (c ∷ cs) s h = absurd h
values_alike (b ∷ bs) [] s h = absurd h
values_alike (b ∷ bs) (c ∷ cs) s h = ap₂ ◌∷◌ (value_at_same ℚ_ring b c s h.0)
    (values_alike bs cs s h.1)

alike_images : (w : ℕ) (p : Terms Fraction) (bs cs : List (Terms Fraction)) → AllArity w bs
    → AllArity w cs → AllSame ℚ bs cs → Same ℚ (compose ℚ w p bs) (compose ℚ w p cs)
alike_images w p bs cs a c h = same_by_values w (compose ℚ w p bs) (compose ℚ w p cs)
    (arity-compose w ℚ p bs a) (arity-compose w ℚ p cs c)
    (λ s l. value_at-compose ℚ_ring w p bs s ∙ ap (at p) (values_alike bs cs s h)
    ∙ sym (value_at-compose ℚ_ring w p cs s))

-- ---- what the variables were
module _ (w k : ℕ) (wide : Terms Fraction → Terms Fraction)
    (keeps : (p q : Terms Fraction) → Same ℚ p q → Same ℚ (wide p) (wide q)) where
  before_alike : (bs : List Bool) (j : ℕ) (ps qs : List (Terms Fraction)) → AllSame ℚ ps qs
      → AllSame ℚ (before_in w k bs j (map wide ps)) (before_in w k bs j (map wide qs))
  unfolding AllSame
  before_alike [] j ps qs h = tt
  before_alike (b ∷ bs) j [] [] h = tt
  before_alike (b ∷ bs) j [] (q ∷ qs) h = absurd h
  before_alike (b ∷ bs) j (p ∷ ps) [] h = absurd h
  before_alike (true ∷ bs) j (p ∷ ps) (q ∷ qs) h = (
    Same-refl ℚ (variable_at w (k + j)),
    before_alike bs (suc j) ps qs h.1,
  )
  before_alike (false ∷ bs) j (p ∷ ps) (q ∷ qs) h = (keeps p q h.0, before_alike bs j ps qs h.1)

widened_alike : (k t m : ℕ) (p q : Terms Fraction) → Same ℚ p q
    → Same ℚ (with_room_for k t m p) (with_room_for k t m q)
widened_alike k t m p q h = alike_compose (k + t + m) p q _
    (each-append (Arity (k + t + m)) _ _ (each-take (Arity (k + t + m)) k (variables ℚ (k + t + m))
    (arity-variables (k + t + m) ℚ)) (each-drop (Arity (k + t + m)) (k + t)
    (variables ℚ (k + t + m)) (arity-variables (k + t + m) ℚ))) h

pub stands_before : (k t m : ℕ) (passing : List Bool) (ps : List FracPoly)
    (told meant : List (Terms Fraction)) → AllSame ℚ told meant → length meant ≡ length passing
    → AllStandFor (k + t + m) ps (before_in (k + t + m) k passing 0
    (map (with_room_for k t m) told))
    → AllStandFor (k + t + m) ps
    (before_by (k + t + m) k (λ i. get_or passing i false) 0 0 (map (with_room_for k t m) meant))
stands_before k t m passing ps told meant same count h =
    let w = k + t + m in
    subst (AllStandFor w ps) (before_are w k passing _
    (length-map meant (with_room_for k t m) ∙ count)) (stands_all_along w ps _ _ (before_alike w k
    (with_room_for k t m) (widened_alike k t m) passing 0 told meant same) h)

before-length : (w k : ℕ) (p : ℕ → Bool) (i j : ℕ) (ps : List (Terms Fraction))
    → length (before_by w k p i j ps) ≡ length ps
before-length w k p i j [] = refl
before-length w k p i j (q ∷ ps) = go (p i) (before-length w k p (suc i) (suc j) ps)
    (before-length w k p (suc i) j ps)
  where
    go : (b : Bool) → length (before_by w k p (suc i) (suc j) ps) ≡ length ps
        → length (before_by w k p (suc i) j ps) ≡ length ps
        → length (cond b (variable_at w (k + j) ∷ before_by w k p (suc i) (suc j) ps)
        (q ∷ before_by w k p (suc i) j ps)) ≡ suc (length ps)
    go true h l = ap suc h
    go false h l = ap suc l

-- ---- what stands for a list of terms
pub collected_list : (w : ℕ) (ps : List FracPoly) (qs : List (Terms Fraction)) → AllArity w qs
    → AllStandFor w ps qs → terms_each ps ≡ map (collect rationals grevlex) qs
unfolding Each
collected_list w [] [] a h = refl
collected_list w [] (q ∷ qs) a h = absurd h
collected_list w (p ∷ ps) [] a h = absurd h
collected_list w (p ∷ ps) (q ∷ qs) a h =
    ap₂ ◌∷◌ (collect-is ℚ_field grevlex grevlex_order w q (terms_in p) a.0
    (polynomial_over w p h.0.arity) h.0.same) (collected_list w ps qs a.1 h.1)

-- ---- the list of a graph
less-arities : (w : ℕ) (xs ys : List (Terms Fraction)) → AllArity w xs → AllArity w ys
    → AllArity w (less xs ys)
unfolding Each
less-arities w [] ys a b = tt
less-arities w (x ∷ xs) [] a b = tt
less-arities w (x ∷ xs) (y ∷ ys) a b = (
  arity-append w x (negate ℚ y) a.0 (arity-negate w ℚ y b.0),
  less-arities w xs ys a.1 b.1,
)

composed-arities : (w : ℕ) (gs images : List (Terms Fraction)) → AllArity w images
    → AllArity w (map (λ g. compose ℚ w g images) gs)
unfolding Each
composed-arities w [] images a = tt
composed-arities w (g ∷ gs) images a = (
  arity-compose w ℚ g images a,
  composed-arities w gs images a,
)

less_alike : (xs ys zs : List (Terms Fraction)) → AllSame ℚ ys zs
    → AllSame ℚ (less xs ys) (less xs zs)
unfolding AllSame
less_alike [] ys zs h = tt
less_alike (x ∷ xs) [] [] h = tt
less_alike (x ∷ xs) [] (z ∷ zs) h = absurd h
less_alike (x ∷ xs) (y ∷ ys) [] h = absurd h
less_alike (x ∷ xs) (y ∷ ys) (z ∷ zs) h = (
  same_append ℚ_ring (Same-refl ℚ x) (same_negate ℚ_ring h.0),
  less_alike xs ys zs h.1,
)

alike_append : (ps ps' qs qs' : List (Terms Fraction)) → AllSame ℚ ps ps' → AllSame ℚ qs qs'
    → AllSame ℚ (ps ++ qs) (ps' ++ qs')
unfolding AllSame
alike_append [] [] qs qs' h k = k
alike_append [] (p ∷ ps') qs qs' h k = absurd h
alike_append (p ∷ ps) [] qs qs' h k = absurd h
alike_append (p ∷ ps) (p' ∷ ps') qs qs' h k = (h.0, alike_append ps ps' qs qs' h.1 k)

alike_itself : (ps : List (Terms Fraction)) → AllSame ℚ ps ps
unfolding AllSame
alike_itself [] = tt
alike_itself (p ∷ ps) = (Same-refl ℚ p, alike_itself ps)

alike_each : (f g : Terms Fraction → Terms Fraction) → ((p : Terms Fraction) → Same ℚ (f p) (g p))
    → (ps : List (Terms Fraction)) → AllSame ℚ (map f ps) (map g ps)
unfolding AllSame
alike_each f g h [] = tt
alike_each f g h (p ∷ ps) = (h p, alike_each f g h ps)

module _ (k t m : ℕ) where
  abbrev w : ℕ
  w = k + t + m

  variables_arity : AllArity (k + t + m) (variables ℚ (k + t + m))
  variables_arity = arity-variables (k + t + m) ℚ

  put_arities : (before : List (Terms Fraction)) → AllArity (k + t + m) before
      → AllArity (k + t + m) (images_behind k (k + t + m) before)
  put_arities before a = each-append (Arity (k + t + m)) _ before
      (each-take (Arity (k + t + m)) k (variables ℚ (k + t + m)) variables_arity) a

  pub graph_arities : (before fs gs : List (Terms Fraction)) → AllArity (k + t + m) before
      → AllArity (k + t + m) (graph_list k t m before fs [] gs)
  unfolding Each
  graph_arities before fs gs a =
      each-append (Arity (k + t + m)) _ _ (composed-arities (k + t + m) gs before a)
      (each-append (Arity (k + t + m)) _ [] (less-arities (k + t + m) _ _ (each-drop (Arity (k + t
      + m)) (k + t) (variables ℚ (k + t + m)) variables_arity) (composed-arities (k + t + m) fs
      (images_behind k (k + t + m) before) (put_arities before a))) tt)

  pub graph_alike : (before other fs gs : List (Terms Fraction)) → AllArity (k + t + m) before
      → AllArity (k + t + m) other → AllSame ℚ before other
      → AllSame ℚ (graph_list k t m before fs [] gs) (graph_list k t m other fs [] gs)
  graph_alike before other fs gs a b h =
      alike_append _ _ _ _ (alike_each _ _ (λ g. alike_images (k + t + m) g before other a b h) gs)
      (alike_append _ _ [] [] (less_alike (drop (k + t) (variables ℚ (k + t + m))) _ _ (alike_each _
      _ (λ f. alike_images (k + t + m) f (images_behind k (k + t + m) before)
      (images_behind k (k + t + m) other) (put_arities before a) (put_arities other b)
      (alike_append _ _ before other (alike_itself (take k (variables ℚ (k + t + m)))) h)) fs))
      (alike_itself []))

-- ---- what is too heavy
heavy_less : (w : ℕ) (p x y : Terms Fraction) → IsPolynomial ℚ grevlex w p
    → Same ℚ p (x ++ negate ℚ y) → IsPast (weight fraction_size p)
    → IsPastSum fractions x (collect rationals grevlex y)
heavy_less w p x y h s past =
    let z = collect rationals grevlex y in
    let same : Same ℚ p (x ++ negate ℚ z) = Same-trans ℚ s (same_append ℚ_ring (Same-refl ℚ x)
    (same_negate ℚ_ring (Same-sym ℚ (collect-same ℚ_field grevlex grevlex_order y)))) in
    subst IsPast (weight-append ℚ_ring fraction_size fractions_bounded x (negate ℚ z)
    ∙ ap (sum_size (weight fraction_size x))
    (weight-negate ℚ_ring fraction_size fractions_bounded z)) (past_under (weight fraction_size p) _
    (weight-pos ℚ_ring fraction_size fractions_bounded (x ++ negate ℚ z))
    (weight_of_polynomial ℚ_ring fraction_size fractions_bounded grevlex grevlex_order w p
    (x ++ negate ℚ z) h same) past)

module _ (w : ℕ) (F : Terms Fraction → Terms Fraction) where
  heavy_last : (xs fs : List (Terms Fraction)) (ps : List FracPoly)
      → AllStandFor w ps (less xs (map F fs) ++ [])
      → Any (λ p. IsPast (weight fraction_size p)) (terms_each ps)
      → IsPastLess xs (map (λ f. collect rationals grevlex (F f)) fs)
  heavy_last [] fs [] a (i, p, l, e, h) = absurd (omega (arith, l))
  heavy_last [] fs (p ∷ ps) a h = absurd a
  heavy_last (x ∷ xs) [] [] a (i, p, l, e, h) = absurd (omega (arith, l))
  heavy_last (x ∷ xs) [] (p ∷ ps) a h = absurd a
  heavy_last (x ∷ xs) (f ∷ fs) [] a h = absurd a
  heavy_last (x ∷ xs) (f ∷ fs) (p ∷ ps) a (zero, q, l, e, h) =
      inl (heavy_less w (terms_in p) x (F f) (polynomial_over w p a.0.arity) a.0.same
      (subst (λ z. IsPast (weight fraction_size z)) (sym e) h))
  heavy_last (x ∷ xs) (f ∷ fs) (p ∷ ps) a (suc i, q, l, e, h) =
      inr (heavy_last xs fs ps a.1 (i, q, omega (arith, l), e, h))

pub heavy_graph : (k t m : ℕ) (before fs gs : List (Terms Fraction)) (ps : List FracPoly)
    → AllStandFor (k + t + m) ps (graph_list k t m before fs [] gs)
    → Any (λ p. IsPast (weight fraction_size p)) (terms_each ps) → IsPastGraph k t m before fs gs
heavy_graph k t m before fs [] ps a h =
    inr (inr (heavy_last (k + t + m) (at_before k t m before) _ fs ps a h))
heavy_graph k t m before fs (g ∷ gs) [] a h = absurd a
heavy_graph k t m before fs (g ∷ gs) (p ∷ ps) a (zero, q, l, e, h) =
    inl (
      0,
      g,
      omega arith,
      refl,
      heavy_composed (k + t + m) g before
          (polynomial_over (k + t + m) p a.0.arity) a.0.same
          (subst (λ z. IsPast (weight fraction_size z)) (sym e) h),
    )
heavy_graph k t m before fs (g ∷ gs) (p ∷ ps) a (suc i, q, l, e, h) =
    go (heavy_graph k t m before fs gs ps a.1 (i, q, omega (arith, l), e, h))
  where
    go : IsPastGraph k t m before fs gs → IsPastGraph k t m before fs (g ∷ gs)
    go (inl (j, x, b, is, past)) = inl (suc j, x, omega (arith, b), is, past)
    go (inr past) = inr past

-- ---- the graphs of a form
module _ (f : LateForm) (k : ℕ) where
  abbrev pub wide : ℕ
  wide = k + copies_in f + vars_in f

  -- what the variables were, where there is room for these
  abbrev pub were : List (Terms Fraction) → List (Terms Fraction)
  were meant = before_by (k + copies_in f + vars_in f) k (which f) 0 0
      (map (with_room_for k (copies_in f) (vars_in f)) meant)

module _ (f : LateForm) (fits : FitsForm f) (k : ℕ) (s : Shape) (is : HasShape f k s) where
  shape_is : s ≡ record { front = k; copies = copies_in f; variables = vars_in f }
  shape_is = λ i. record { front = is.front i; copies = is.copies i; variables = is.variables i }

  pub shape_few : k ≤ front (numbers_in f) → width_of s ≤ 4096
  shape_few l =
      let a = passers_few f.passing.now.items in
      let b = passers_are f.passing.now.items in
      omega (arith, a, b, fits.few, is.front, is.copies, is.variables, l)

  pub copies_are : s.copies ≡ passers f.passing.now.items
  copies_are = is.copies ∙ sym (passers_are f.passing.now.items)

  -- ---- what was told, in any list
  module _ (told meant : List (Terms Fraction)) (same : AllSame ℚ told meant)
      (count : length meant ≡ vars_in f) (before : List FracPoly) (stands : AllStandFor (width_of s)
      before (before_in (width_of s) s.front f.passing.now.items 0
      (map (with_room_for s.front s.copies
      s.variables) told))) where
    stands_here : AllStandFor (wide f k) before (were f k meant)
    stands_here = stands_before k (copies_in f) (vars_in f) f.passing.now.items before told meant
        same count (subst (λ (x : Shape). AllStandFor (width_of x) before (before_in (width_of x)
        x.front f.passing.now.items 0 (map (with_room_for x.front x.copies x.variables) told)))
        shape_is stands)

    arities : AllArity (wide f k) (were f k meant)
    arities = before_arity k (copies_in f) (vars_in f) (which f) meant 0 0

    terms_are : terms_each before ≡ map (collect rationals grevlex) (were f k meant)
    terms_are = collected_list (wide f k) before _ arities stands_here

    pub before_length : length before ≡ s.variables
    before_length =
        let a = ap length terms_are in
        let b = length-map before terms_in in
        let c = length-map (were f k meant) (collect rationals grevlex) in
        let d = before-length (wide f k) k (which f) 0 0
        (map (with_room_for k (copies_in f) (vars_in f)) meant) in
        let e = length-map meant (with_room_for k (copies_in f) (vars_in f)) in
        omega (arith, a, b, c, d, e, is.variables, count)

    pub before_over : All (IsInVariables (width_of s)) before
    before_over = stands_over (width_of s) before _ stands

    module _ (fs gs : List (Terms Fraction)) where
      pub graph_stands : (out : List FracPoly) → AllStandFor (width_of s) out
          (graph_list s.front s.copies s.variables (terms_each before) fs [] gs)
          → AllStandFor (width_of s) out
          (graph_list k (copies_in f) (vars_in f) (were f k meant) fs [] gs)
      graph_stands out a =
          let here = subst (λ (x : Shape). AllStandFor (width_of x) out (graph_list x.front x.copies
          x.variables (terms_each before) fs [] gs)) shape_is a in
          subst (λ (x : Shape). AllStandFor (width_of x) out
          (graph_list k (copies_in f) (vars_in f) (were f k meant) fs [] gs)) (sym shape_is)
          (stands_all_along (wide f k) out _ _
          (graph_alike k (copies_in f) (vars_in f) (terms_each before) (were f k meant) fs gs
          (arities_over (wide f k) before (stands_over (wide f k) before _ stands_here)) arities
          (stands_same (wide f k) before _ stands_here)) here)

      pub graph_past : IsPastGraph s.front s.copies s.variables (terms_each before) fs gs
          → IsPastGraph k (copies_in f) (vars_in f)
          (map (collect rationals grevlex) (were f k meant)) fs gs
      graph_past p = subst (λ b. IsPastGraph k (copies_in f) (vars_in f) b fs gs) terms_are
          (subst (λ (x : Shape). IsPastGraph x.front x.copies x.variables (terms_each before) fs gs)
          shape_is p)

      pub graph_heavy : (out : List FracPoly) → AllStandFor (width_of s) out
          (graph_list s.front s.copies s.variables (terms_each before) fs [] gs)
          → Any (λ p. IsPast (weight fraction_size p)) (terms_each out)
          → IsPastGraph k (copies_in f) (vars_in f)
          (map (collect rationals grevlex) (were f k meant)) fs gs
      graph_heavy out a h = graph_past (heavy_graph s.front s.copies s.variables (terms_each before)
          fs gs out a h)

-- ---- what an orbit is told
module _ (f : LateForm) (fits : FitsForm f) where
  abbrev meant : List (Terms Fraction)
  meant = map (inverse_form_terms (numbers_in f)) (form_in f).polys

  pub orbit_told : AllSame ℚ (terms_each f.back.now.items)
      (map (inverse_form_terms (numbers_in f)) (form_in f).polys)
  orbit_told = subst (λ l. AllSame ℚ l (map (inverse_form_terms (numbers_in f)) (form_in f).polys))
      (sym fits.back)
      (alike_each (inverse_form grevlex (numbers_in f)) (inverse_form_terms (numbers_in f))
      (λ p. collect-same ℚ_field grevlex grevlex_order (inverse_form_terms (numbers_in f) p))
      (form_in f).polys)

  pub orbit_count : length (map (inverse_form_terms (numbers_in f)) (form_in f).polys) ≡ vars_in f
  orbit_count = length-map (form_in f).polys (inverse_form_terms (numbers_in f))
      ∙ length-map f.polys.now.items _ ∙ fits.count

  pub iteration_told : (told : List FracPoly) → AllStandFor (vars_in f) told
      (map (at_minus_one (form_over (form_in f).base) (vars_in f)) (bodies_in f.polys.now.items))
      → AllSame ℚ (terms_each told) (map (at_minus_one (form_in f) (vars_in f)) (form_in f).polys)
  iteration_told told a = stands_same (vars_in f) told _ a

  pub iteration_count : length (map (at_minus_one (form_in f) (vars_in f)) (form_in f).polys)
      ≡ vars_in f
  iteration_count = length-map (form_in f).polys (at_minus_one (form_in f) (vars_in f))
      ∙ length-map f.polys.now.items _ ∙ fits.count

-- ---- the polynomials themselves
pub bodies_over : (bs : List ℕ) (m : ℕ) (es : List Expo) (ps : List FracPoly)
    → All (IsExpoOver bs m) es
    → map (λ (p : FracPoly). p.arity) ps ≡ map (λ (e : Expo). e.body.arity) es
    → All (IsInVariables (front (length bs) + m)) ps
bodies_over bs m [] [] o h k d l = absurd (omega (arith, l))
bodies_over bs m [] (p ∷ ps) o h k d l = absurd (let a = ap length h in omega (arith, a))
bodies_over bs m (e ∷ es) [] o h k d l = absurd (omega (arith, l))
bodies_over bs m (e ∷ es) (p ∷ ps) o h zero d l =
    let here = o 0 e (omega arith) in
    let a = e.arity in
    let b = ap length here.over_base in
    let c = here.over_vars in
    same_head h ∙ omega (arith, a, b, c)
bodies_over bs m (e ∷ es) (p ∷ ps) o h (suc k) d l =
    bodies_over bs m es ps (λ i x n. o (suc i) x (omega (arith, n))) (same_tail h) k d
    (omega (arith, l))
