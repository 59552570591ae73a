-- What a closed form that isn't the state from the start on has in its lists.
--   bodies_in es               the polynomials themselves
--   form_over bs               a form over a base, whatever its polynomials;  IsExpoOver bs m e: e is over this base and m variables
--   numbers_in f, vars_in f    how many numbers its base has, and how many variables it is of
--   form_in f                  the form (its lists don't ask from which number of iterations on it is the state);  which f i: whether the variable i passes
--   copies_in f, front_in f    how many copies there are, and how many variables an orbit eliminates
--   FitsForm f                     its parts are over its variables, and its inverse form is that of the form
--   HasShape f k s             s has k variables in front, and the copies and variables of f
--   orbit_graph_of f gs, iteration_graph_of f fs gs     the lists of the graphs of an orbit, and of an iteration
--   orbit_of f gs, iteration_of f fs gs     the lists of an orbit, and of an iteration of the branch fs
--   IsPastOrbitOf f gs, IsPastIterationOf f fs gs     the weight of a composition, of a difference or of a value that makes one is past
use Rattle.std.specs.Prelude.{◌≡◌, ◌⊎◌, ◌<◌, ◌≤◌, ◌+◌, ℕ, Bool, false, List, [], All, map, length, get_or}
use Rattle.algebra.specs.Fraction.{Fraction, rationals}
use Rattle.polynomials.specs.Order.{grevlex, blocks}
use Rattle.polynomials.specs.Terms.{Terms}
use Rattle.machines.specs.Collect.{collect}
use Rattle.monos.specs.Variables.{most_variables}
use Rattle.poly.specs.Seen.{terms_in, terms_each}
use Rattle.poly.specs.Standing.{IsInVariables}
use Rattle.coprime_base.specs.Sizes.{sizes}
use Rattle.expo.specs.Bases.{IsCoprimeBase}
use Rattle.expo.specs.View.{base_of}
use Rattle.expo.specs.declared.exponential.Expo.{Expo}
use Rattle.loop_model.specs.FracPoly.{FracPoly}
use Rattle.rounds.specs.Form as form
use Rattle.rounds.specs.Form.{front, inverse_of_form, passing, form_before, late_orbit_list, iteration_before, iteration_graph}
use Rattle.rounds.specs.Graph.{graph_list}
use Rattle.rounds.specs.Past.{IsPastComposed, IsPastGraph, iteration_images}
use Rattle.task_lists.specs.declared.late_form.LateForm.{LateForm}
use Rattle.task_lists.specs.declared.shape.Shape.{Shape}

abbrev pub bodies_in : List Expo → List (Terms Fraction)
bodies_in es = map (λ (e : Expo). terms_in e.body) es

abbrev pub form_over : List ℕ → form.Form
form_over bs = record { base = bs; polys = []; since = 0 }

pub record IsExpoOver (bs : List ℕ) (m : ℕ) (e : Expo) : Type 0 where
  pub over_base : base_of e ≡ bs
  pub over_vars : e.vars ≡ m

module _ (f : LateForm) where
  abbrev pub numbers_in : ℕ
  numbers_in = length (sizes f.base.now.items)

  abbrev pub vars_in : ℕ
  vars_in = length f.passing.now.items

  abbrev pub form_in : form.Form
  form_in = record { base = sizes f.base.now.items; polys = bodies_in f.polys.now.items; since = 0 }

  abbrev pub which : ℕ → Bool
  which i = get_or f.passing.now.items i false

  abbrev pub copies_in : ℕ
  copies_in = passing vars_in which

  abbrev pub front_in : ℕ
  front_in = front numbers_in + copies_in

  pub record FitsForm : Type 0 where
    pub some : 0 < vars_in
    pub base : IsCoprimeBase (sizes f.base.now.items)
    pub few : front numbers_in + vars_in + vars_in ≤ most_variables
    pub count : length f.polys.now.items ≡ vars_in
    pub over : All (IsExpoOver (sizes f.base.now.items) vars_in) f.polys.now.items
    pub back_arity : All (IsInVariables (front numbers_in + vars_in)) f.back.now.items
    pub back : terms_each f.back.now.items ≡ inverse_of_form form_in

  pub record HasShape (k : ℕ) (s : Shape) : Type 0 where
    pub front : s.front ≡ k
    pub copies : s.copies ≡ copies_in
    pub variables : s.variables ≡ vars_in

  abbrev pub orbit_graph_of : List FracPoly → List (Terms Fraction)
  orbit_graph_of gs =
      graph_list (front numbers_in) copies_in vars_in (form_before form_in vars_in which)
      form_in.polys [] (terms_each gs)

  abbrev pub iteration_graph_of : List FracPoly → List FracPoly → List (Terms Fraction)
  iteration_graph_of fs gs = iteration_graph form_in vars_in which (terms_each fs) (terms_each gs)

  abbrev pub orbit_of : List FracPoly → List (Terms Fraction)
  orbit_of gs = late_orbit_list form_in vars_in which (terms_each gs)

  abbrev pub iteration_of : List FracPoly → List FracPoly → List (Terms Fraction)
  iteration_of fs gs =
      map (collect rationals (blocks copies_in grevlex grevlex)) (iteration_graph_of fs gs)

  abbrev pub IsPastOrbitOf : List FracPoly → Type 0
  IsPastOrbitOf gs =
      IsPastGraph (front numbers_in) copies_in vars_in
      (map (collect rationals grevlex) (form_before form_in vars_in which)) form_in.polys
      (terms_each gs)

  abbrev pub IsPastIterationOf : List FracPoly → List FracPoly → Type 0
  IsPastIterationOf fs gs =
      IsPastComposed (iteration_images form_in vars_in) (inverse_of_form form_in)
      ⊎ IsPastGraph 0 copies_in vars_in
      (map (collect rationals grevlex) (iteration_before form_in vars_in which)) (terms_each fs)
      (terms_each gs)
