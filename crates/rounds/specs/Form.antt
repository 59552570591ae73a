-- Closed forms: the state after a number of iterations of a branch, as polynomials in n, s, u_1 to u_r, v_1 to v_r and the variables, in this order.
-- A form that isn't the state from 0 on doesn't tell what each variable was: one that is itself at n = 0, which stays, is told by the inverse form, another, which passes, by a copy.
--   Form                 a base of r whole numbers, a polynomial for each variable, and the number of iterations from which on they are the state
--   front r              how many variables stand in front: 2 + 2 r
--   point_of base n      their values after n iterations: n, (-1)^n, the b^n and the b^(-n)
--   variable_at w i      the variable i of w
--   relation w i j       the product of the variables i and j of w, less one
--   relations r m        s s - 1, and then u_j v_j - 1 for each j
--   normal O r p         p with s s and the u_j v_j left out, collected
--   backward O r p       p with -n for n, u and v exchanged, collected
--   orbit_order r        the order that eliminates the variables in front
--   pulled_back_by r m back g     g, of m variables, with the polynomials `back` for these, normal, over a base of r numbers
--   orbit_relations r m  the relations in this order;  whole_orbit_list r m back gs: the gs with `back` for their variables, normal, and these
--   at_zero f m i        the polynomial of the variable i at n = 0;  passes f m i: it isn't that variable
--   copies m passes i n, passing m passes     the variables from the ith on that pass, of n, and how many pass of all
--   with_room_for k t m p      p, in k + m variables, with t variables behind the first k
--   before_by w k passes i j backs     what the variables from the ith on were, with the copies from the jth on: the copy of one that passes, else that of the backs
--   form_before f m passes     with the inverse form
--   late_order m f       the order that eliminates the variables in front, and the copies
--   late_orbit_list f m passes gs     the list that an orbit begins with where the form isn't the state from 0 on: the gs at what was, each variable less its form there,
--                        and the relations
--   orbit_front f m      how many variables an orbit eliminates
--   orbit_list f m gs    the list that it begins with: where the form is the state from 0 on, that of the gs with the inverse form
--   at_minus_one f m p   p at n = -1;  iteration_before, iteration_graph, iteration_list f m images gs     the same for one iteration, with the form there and the branch's map
--   IsClosedForm program b f      f is the closed form of branch b: over the base of the sizes of all eigenvalues but 0, normal, and from the least number of iterations on
use Rattle.std.specs.Prelude.{◌≤◌, ℕ, zero, suc, ◌+◌, Bool, true, false, cond, List, [], ◌∷◌, ◌++◌, map, drop, length, get_or}
use Rattle.algebra.specs.Each.{Each}
use Rattle.algebra.specs.Fraction.{Fraction, ℚ, rationals}
use Rattle.polynomials.specs.Terms.{Terms, constant, variables, times, negate, compose}
use Rattle.polynomials.specs.Order.{Rank, grevlex, blocks}
use Rattle.polynomials.specs.Polynomial.{IsPolynomial}
use Rattle.solvable_maps.specs.Classes.{IsFormBase}
use Rattle.solvable_maps.specs.Iterations as iterations
use Rattle.solvable_maps.specs.Iterations.{point, back_point, width, IsNormal}
use Rattle.solvable_maps.specs.Expo.{with_normal_keys, inverse_form_terms, zero_images}
use Rattle.machines.specs.Collect.{collect}
use Rattle.loops.specs.Program.{Expr, Program}
use Rattle.loops.specs.Map.{branch_map}
use Rattle.rounds.specs.Word.{branch_of}
use Rattle.rounds.specs.BranchMap.{map_of}
use Rattle.rounds.specs.Graph.{images_behind, less, at_before, graph_list}

pub record Form : Type 0 where
  pub base : List ℕ
  pub polys : List (Terms Fraction)
  pub since : ℕ

abbrev pub front : ℕ → ℕ
front r = suc (suc (r + r))

-- ---- the values of the variables in front
abbrev pub point_of : List ℕ → ℕ → List Fraction
point_of base n = point base n []

-- ---- the relations
abbrev pub variable_at : ℕ → ℕ → Terms Fraction
variable_at w i = get_or (variables ℚ w) i []

-- the product of two variables, less one
unfoldable pub relation : ℕ → ℕ → ℕ → Terms Fraction
relation w i j = times ℚ (variable_at w i) (variable_at w j) ++ negate ℚ (constant w ℚ.one)

unfoldable pub relations_to : ℕ → ℕ → ℕ → List (Terms Fraction)
relations_to r w zero = []
relations_to r w (suc j) = relations_to r w j ++ relation w (suc (suc j)) (suc (suc (r + j))) ∷ []

abbrev pub relations : ℕ → ℕ → List (Terms Fraction)
relations r m = relation (front r + m) 1 1 ∷ relations_to r (front r + m) r

-- ---- normal and backward, collected
abbrev pub normal : Rank → ℕ → Terms Fraction → Terms Fraction
normal O r p = collect rationals O (with_normal_keys r p)

abbrev pub inverse_form : Rank → ℕ → Terms Fraction → Terms Fraction
inverse_form O r p = collect rationals O (inverse_form_terms r p)

-- ---- what an orbit begins with
abbrev pub orbit_order : ℕ → Rank
orbit_order r = blocks (front r) grevlex grevlex

abbrev pub inverse_of_form : Form → List (Terms Fraction)
inverse_of_form f = map (inverse_form grevlex (length f.base)) f.polys

abbrev pub pulled_back_by : ℕ → ℕ → List (Terms Fraction) → Terms Fraction → Terms Fraction
pulled_back_by r m back g = normal (orbit_order r) r (compose ℚ (front r + m) g back)

abbrev pub orbit_relations : ℕ → ℕ → List (Terms Fraction)
orbit_relations r m = map (collect rationals (orbit_order r)) (relations r m)

abbrev pub whole_orbit_list : ℕ → ℕ → List (Terms Fraction) → List (Terms Fraction)
    → List (Terms Fraction)
whole_orbit_list r m back gs = map (pulled_back_by r m back) gs ++ orbit_relations r m

-- ---- which variables pass, and what was
abbrev pub at_zero : Form → ℕ → ℕ → Terms Fraction
at_zero f m i = compose ℚ m (get_or f.polys i []) (zero_images (length f.base) m)

abbrev pub has_terms : Terms Fraction → Bool
has_terms [] = false
has_terms (t ∷ p) = true

unfoldable pub passes : Form → ℕ → ℕ → Bool
passes f m i = has_terms (collect rationals grevlex (at_zero f m i ++ negate ℚ (variable_at m i)))

abbrev pub copies : ℕ → (ℕ → Bool) → ℕ → ℕ → List (Terms Fraction)
copies m passes i zero = []
copies m passes i (suc n) =
    cond (passes i) (variable_at m i ∷ copies m passes (suc i) n) (copies m passes (suc i) n)

abbrev pub passing : ℕ → (ℕ → Bool) → ℕ
passing m passes = length (copies m passes 0 m)

abbrev pub with_room_for : ℕ → ℕ → ℕ → Terms Fraction → Terms Fraction
with_room_for k t m p =
    compose ℚ (k + t + m) p (images_behind k (k + t + m) (drop (k + t) (variables ℚ (k + t + m))))

abbrev pub before_by : ℕ → ℕ → (ℕ → Bool) → ℕ → ℕ → List (Terms Fraction) → List (Terms Fraction)
before_by w k passes i j [] = []
before_by w k passes i j (p ∷ ps) =
    cond (passes i) (variable_at w (k + j) ∷ before_by w k passes (suc i) (suc j) ps)
    (p ∷ before_by w k passes (suc i) j ps)

abbrev pub form_before : Form → ℕ → (ℕ → Bool) → List (Terms Fraction)
form_before f m passes =
    let k = front (length f.base) in
    let t = passing m passes in
    before_by (k + t + m) k passes 0 0
    (map (with_room_for k t m) (map (inverse_form_terms (length f.base)) f.polys))

-- ---- the orbit
abbrev pub late_order : Form → ℕ → (ℕ → Bool) → Rank
late_order f m passes = blocks (front (length f.base) + passing m passes) grevlex grevlex

abbrev pub late_orbit_list : Form → ℕ → (ℕ → Bool) → List (Terms Fraction) → List (Terms Fraction)
late_orbit_list f m passes gs =
    let r = length f.base in
    let k = front r in
    let t = passing m passes in
    let before = form_before f m passes in
    let O = late_order f m passes in
    map (normal O r) (map (λ g. compose ℚ (k + t + m) g before) gs)
    ++ (map (normal O r)
    (less (drop (k + t) (variables ℚ (k + t + m))) (map (at_before k t m before) f.polys))
    ++ map (collect rationals O) (relations r (t + m)))

abbrev pub front_since : ℕ → Form → ℕ → ℕ
front_since zero f m = front (length f.base)
front_since (suc d) f m = front (length f.base) + passing m (passes f m)

abbrev pub orbit_front : Form → ℕ → ℕ
orbit_front f m = front_since f.since f m

abbrev pub list_since : ℕ → Form → ℕ → List (Terms Fraction) → List (Terms Fraction)
list_since zero f m gs = whole_orbit_list (length f.base) m (inverse_of_form f) gs
list_since (suc d) f m gs = late_orbit_list f m (passes f m) gs

abbrev pub orbit_list : Form → ℕ → List (Terms Fraction) → List (Terms Fraction)
orbit_list f m gs = list_since f.since f m gs

-- ---- one iteration
abbrev pub at_minus_one : Form → ℕ → Terms Fraction → Terms Fraction
at_minus_one f m p = compose ℚ m p (map (constant m) (back_point f.base 1 []) ++ variables ℚ m)

abbrev pub iteration_before : Form → ℕ → (ℕ → Bool) → List (Terms Fraction)
iteration_before f m passes =
    let t = passing m passes in
    before_by (0 + t + m) 0 passes 0 0 (map (with_room_for 0 t m) (map (at_minus_one f m) f.polys))

abbrev pub iteration_graph : Form → ℕ → (ℕ → Bool) → List (Terms Fraction) → List (Terms Fraction)
    → List (Terms Fraction)
iteration_graph f m passes images gs =
    graph_list 0 (passing m passes) m (iteration_before f m passes) images [] gs

abbrev pub iteration_front : Form → ℕ → ℕ
iteration_front f m = passing m (passes f m)

abbrev pub iteration_list : Form → ℕ → List (Terms Fraction) → List (Terms Fraction)
    → List (Terms Fraction)
iteration_list f m images gs =
    map (collect rationals (blocks (iteration_front f m) grevlex grevlex))
    (iteration_graph f m (passes f m) images gs)

-- ---- closed forms
pub record IsClosedForm {At : Type 0} (program : Program (Expr At)) (b : ℕ) (f : Form) : Type
    0 where
  pub base : IsFormBase (map_of program b) f.base
  pub polynomials : Each
      (IsPolynomial ℚ grevlex (width (length f.base) (length program.names))) f.polys
  pub normal : Each (IsNormal f.base) f.polys
  pub form : iterations.IsClosedFormFrom f.base (branch_map program (branch_of program b)) f.since
      f.polys
  pub least : (d : ℕ)
      → iterations.IsClosedFormFrom f.base (branch_map program (branch_of program b)) d f.polys
      → f.since ≤ d
