-- The lists of a late form, from its graphs.
--   orbit_arities, iteration_arities      the polynomials of the graphs
--   orbit_list_is, iteration_list_is      the lists
--   shape_at, orbit_first            the variables of the graph of an orbit
use Rattle.std.proofs.Common.{◌≡◌, ℕ, ◌+◌, List, [], ◌++◌, map, drop, length, sym, ap, ap₂, subst, ◌∙◌, append_assoc}
use Rattle.std.proofs.lemmas.List.{append-nil, length-map, map-append}
use Rattle.algebra.specs.Fraction.{Fraction, ℚ, rationals}
use Rattle.polynomials.specs.Order.{grevlex, blocks}
use Rattle.polynomials.specs.Polynomial.{AllArity}
use Rattle.polynomials.specs.Terms.{Terms, variables, compose}
use Rattle.machines.specs.Collect.{collect}
use Rattle.frac128.specs.declared.Whole.{Whole}
use Rattle.poly.specs.Seen.{terms_each}
use Rattle.coprime_base.specs.Sizes.{sizes}
use Rattle.solvable_maps.specs.Expo.{inverse_form_terms}
use Rattle.rounds.specs.Form.{front, normal, relations, form_before, at_minus_one}
use Rattle.rounds.specs.Graph.{less, at_before}
use Rattle.rounds.proofs.WayBack.{before_arity}
use Rattle.loop_model.specs.FracPoly.{FracPoly}
use Rattle.task_lists.specs.Blocks.{Blocked}
use Rattle.task_lists.specs.Late.{HasShape, copies_in, form_in, numbers_in, orbit_graph_of, orbit_of, iteration_graph_of, iteration_of, vars_in, which}
use Rattle.task_lists.specs.Shapes.{width_of}
use Rattle.task_lists.specs.declared.late_form.LateForm.{LateForm}
use Rattle.task_lists.specs.declared.shape.Shape.{Shape}
use Rattle.task_lists.proofs.LateLists.{graph_arities}

pub numbers_are : (base : List Whole) → length base ≡ length (sizes base)
numbers_are base = sym (length-map base _)

module _ (f : LateForm) (s : Shape) where
  shaped : (k : ℕ) → HasShape f k s
      → s ≡ record { front = k; copies = copies_in f; variables = vars_in f }
  shaped k is = λ i. record { front = is.front i; copies = is.copies i; variables = is.variables i }

  -- ---- an orbit
  module _ (is : HasShape f (front (numbers_in f)) s) (gs : List FracPoly) where
    pub orbit_arities : AllArity (width_of s) (orbit_graph_of f gs)
    orbit_arities =
        let k = front (numbers_in f) in
        subst (λ (x : Shape). AllArity (width_of x) (orbit_graph_of f gs)) (sym (shaped k is))
        (graph_arities k (copies_in f) (vars_in f) _ (form_in f).polys (terms_each gs)
        (before_arity k (copies_in f) (vars_in f) (which f)
        (map (inverse_form_terms (numbers_in f)) (form_in f).polys) 0 0))

    parts : (us : List (Terms Fraction)) → map (normal (blocks (front (numbers_in f) + copies_in f)
        grevlex grevlex) (numbers_in f)) (orbit_graph_of f gs) ++ us
        ≡ map (normal (blocks (front (numbers_in f) + copies_in f) grevlex grevlex) (numbers_in f))
        (map (λ g. compose ℚ (front (numbers_in f) + copies_in f + vars_in f) g
        (form_before (form_in f) (vars_in f) (which f))) (terms_each gs))
        ++ (map (normal (blocks (front (numbers_in f) + copies_in f) grevlex grevlex)
        (numbers_in f)) (less (drop (front (numbers_in f) + copies_in f)
        (variables ℚ (front (numbers_in f) + copies_in f + vars_in f)))
        (map (at_before (front (numbers_in f)) (copies_in f) (vars_in f)
        (form_before (form_in f) (vars_in f) (which f))) (form_in f).polys)) ++ us)
    parts us =
        let k = front (numbers_in f) in
        let w = k + copies_in f + vars_in f in
        let before = form_before (form_in f) (vars_in f) (which f) in
        let M = normal (blocks (k + copies_in f) grevlex grevlex) (numbers_in f) in
        let ks = map (λ g. compose ℚ w g before) (terms_each gs) in
        let ds = less (drop (k + copies_in f) (variables ℚ w))
        (map (at_before k (copies_in f) (vars_in f) before) (form_in f).polys) in
        ap (λ l. l ++ us) (ap (λ l. map M (ks ++ l)) (append-nil ds) ∙ map-append M ks ds)
        ∙ append_assoc (map M ks) (map M ds) us

    pub orbit_list_is : (n : ℕ) → n ≡ numbers_in f → (none mid new : List Blocked) → none ≡ []
        → terms_each mid ≡ terms_each none ++ map (normal (blocks (s.front + s.copies) grevlex
        grevlex) (numbers_in f)) (orbit_graph_of f gs)
        → terms_each new ≡ terms_each mid ++ map (collect rationals (blocks (front n + s.copies)
        grevlex grevlex)) (relations n (s.copies + s.variables)) → terms_each new ≡ orbit_of f gs
    orbit_list_is n named none mid new e first last =
        let k = front (numbers_in f) in
        let here = subst (λ (x : Shape). terms_each mid ≡ terms_each none ++ map (normal
        (blocks (x.front + x.copies) grevlex grevlex) (numbers_in f)) (orbit_graph_of f gs))
        (shaped k is) first in
        let there = subst (λ (x : Shape). terms_each new ≡ terms_each mid ++ map (collect rationals
        (blocks (front (numbers_in f) + x.copies) grevlex grevlex)) (relations (numbers_in f)
        (x.copies + x.variables))) (shaped k is)
        (subst (λ j. terms_each new ≡ terms_each mid ++ map (collect rationals
        (blocks (front j + s.copies) grevlex grevlex)) (relations j (s.copies + s.variables))) named
        last) in
        there ∙ ap (λ l. l ++ map (collect rationals (blocks (k + copies_in f) grevlex grevlex))
        (relations (numbers_in f) (copies_in f + vars_in f)))
        (here ∙ ap (λ (l : List Blocked). terms_each l ++ map (normal
        (blocks (k + copies_in f) grevlex grevlex) (numbers_in f)) (orbit_graph_of f gs)) e)
        ∙ parts (map (collect rationals (blocks (k + copies_in f) grevlex grevlex))
        (relations (numbers_in f) (copies_in f + vars_in f)))

  -- ---- an iteration
  module _ (is : HasShape f 0 s) (fs gs : List FracPoly) where
    pub iteration_arities : AllArity (width_of s) (iteration_graph_of f fs gs)
    iteration_arities =
        subst (λ (x : Shape). AllArity (width_of x) (iteration_graph_of f fs gs))
        (sym (shaped 0 is)) (graph_arities 0 (copies_in f) (vars_in f) _ (terms_each fs)
        (terms_each gs) (before_arity 0 (copies_in f) (vars_in f) (which f)
        (map (at_minus_one (form_in f) (vars_in f)) (form_in f).polys) 0 0))

    pub iteration_list_is : {none : List Blocked} (new : List Blocked) → none ≡ []
        → terms_each new ≡ terms_each none ++ map
        (collect rationals (blocks s.copies grevlex grevlex)) (iteration_graph_of f fs gs)
        → terms_each new ≡ iteration_of f fs gs
    iteration_list_is new e h =
        h ∙ ap₂ (λ (l : List Blocked) t. terms_each l ++ map (collect rationals (blocks t grevlex
        grevlex)) (iteration_graph_of f fs gs)) e is.copies
