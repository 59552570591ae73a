-- The orbit of a branch by its closed form, whether that is the state from 0 on or from later on, and one iteration of it.
--   orbit_polynomials, form_orbit     the list that it begins with, and what its elimination gives
--   iteration_polynomials, form_iteration       so for one iteration, with any polynomials that are the iteration
use Rattle.std.proofs.Common.{◌≡◌, ℕ, zero, suc, ◌+◌, ◌<◌, false, List, length, arith, sym, subst, zero-add}
use Rattle.algebra.specs.Each.{Each}
use Rattle.algebra.proofs.Each.{each-map, each_weaker}
use Rattle.exponentials.specs.Base.{Coprime}
use Rattle.algebra.specs.Fraction.{Fraction, ℚ, rationals}
use Rattle.algebra.proofs.Fractions.{ℚ_field}
use Rattle.polynomials.specs.Order.{IsMonomialOrder, grevlex, blocks}
use Rattle.polynomials.specs.Polynomial.{Arity, AllArity, IsPolynomial}
use Rattle.polynomials.specs.Terms.{Terms}
use Rattle.polynomials.proofs.Orders.{grevlex_order, blocks_order}
use Rattle.ideals.specs.Members.{IsMember}
use Rattle.machines.specs.Collect.{collect}
use Rattle.machines.specs.Elimination.{in_front}
use Rattle.machines.proofs.Collecting.{collect-polynomial}
use Rattle.machines.proofs.Starting.{reordered_members}
use Rattle.solvable_maps.specs.Iterations as iterations
use Rattle.solvable_maps.specs.Iterations.{IsItself}
use Rattle.loops.specs.Map.{branch_map}
use Rattle.loops.specs.Program.{Expr, Program}
use Rattle.rounds.specs.Form.{Form, front, point_of, relations, passes, front_since, orbit_front, list_since, orbit_list, iteration_front, iteration_graph, iteration_list, IsClosedForm}
use Rattle.rounds.specs.Orbit.{IsFormAt, IsEliminated}
use Rattle.rounds.specs.Results.{orbit_iterations}
use Rattle.rounds.specs.Round.{IsOrbitAt}
use Rattle.rounds.specs.Word.{branch_of}
use Rattle.rounds.proofs.BranchIterations.{form_count}
use Rattle.rounds.proofs.Independent.{points_of_base, points_are_independent}
use Rattle.rounds.proofs.LateOrbit.{start_polynomials, start_orbit}
use Rattle.rounds.proofs.OneIteration.{no_point, iteration_orbit_by, iteration_graph_arity}
use Rattle.rounds.proofs.Orbit.{orbit_of_form}
use Rattle.rounds.proofs.Passing.{stays_of}
use Rattle.rounds.proofs.Relations.{relations_of_base}
use Rattle.rounds.proofs.PullBack.{form_of_closed, closed_form_pulls_back, starting_polynomials}

module _ {At : Type 0} (program : Program (Expr At)) (b : ℕ) (f : Form)
    (closed : IsClosedForm program b f) where
  abbrev m : ℕ
  m = length program.names

  coprime : Coprime f.base
  coprime = closed.base.is.coarsest.base.coprime

  abbrev IsFrom : ℕ → Type 0
  IsFrom d = iterations.IsClosedFormFrom f.base (branch_map program (branch_of program b)) d f.polys

  stays : (i : ℕ) → i < length program.names → passes f (length program.names) i ≡ false
      → IsItself f.base (length program.names) f.polys i
  stays i l h = stays_of f coprime m i l (let e = form_count program b f.base f.since f.polys
      closed.form in
      omega (arith, e, l)) h

  -- ---- the orbit
  module _ (gs : List (Terms Fraction)) (ga : AllArity (length program.names) gs) where
    polynomials_since : (d : ℕ) → IsFrom d
        → Each (IsPolynomial ℚ (blocks (front_since d f m) grevlex grevlex) (front_since d f m + m))
        (list_since d f m gs)
    polynomials_since zero form = starting_polynomials program b f coprime form gs ga
    polynomials_since (suc d) form = start_polynomials program b (suc d) f coprime form (passes f m)
        stays gs ga

    pub orbit_polynomials : Each (IsPolynomial ℚ (blocks (orbit_front f (length program.names))
        grevlex grevlex) (orbit_front f (length program.names) + length program.names))
        (orbit_list f (length program.names) gs)
    orbit_polynomials = polynomials_since f.since closed.form

    orbit_since : (d : ℕ) → IsFrom d → (ks : List (Terms Fraction))
        → IsEliminated (front_since d f m) m (list_since d f m gs) ks
        → IsOrbitAt program gs b (orbit_iterations d) ks
    orbit_since zero form ks e = orbit_of_form program b (front (length f.base)) (point_of f.base)
        (points_of_base f.base) (relations (length f.base) m)
        (relations_of_base f.base coprime m) f.polys (form_of_closed program b f coprime form) gs
        (list_since zero f m gs) ks ga (points_are_independent f.base coprime m)
        (closed_form_pulls_back program b f coprime form gs ga) e
    orbit_since (suc d) form ks e = start_orbit program b (suc d) f coprime form (passes f m) stays
        gs ga ks e

    pub form_orbit : (ks : List (Terms Fraction))
        → IsEliminated (orbit_front f (length program.names)) (length program.names)
        (orbit_list f (length program.names) gs) ks
        → IsOrbitAt program gs b (orbit_iterations f.since) ks
    form_orbit ks e = orbit_since f.since closed.form ks e

    -- ---- one iteration
    module _ (images : List (Terms Fraction)) (at : IsFormAt program b 0 no_point (λ n. 1)
        images) where
      abbrev t : ℕ
      t = iteration_front f m

      abbrev graph : List (Terms Fraction)
      graph = iteration_graph f m (passes f m) images gs

      O_order : IsMonomialOrder (blocks t grevlex grevlex)
      O_order = blocks_order t grevlex grevlex grevlex_order grevlex_order

      plain : t ≡ 0 + t
      plain = sym (zero-add t)

      graph_arity : AllArity (t + m) graph
      graph_arity = subst (λ n. AllArity (n + m) graph) (zero-add t)
          (iteration_graph_arity program b f.since f coprime closed.form (passes f m) stays images
          at gs
          ga)

      pub iteration_polynomials : Each
          (IsPolynomial ℚ (blocks (iteration_front f (length program.names))
          grevlex grevlex) (iteration_front f (length program.names) + length program.names))
          (iteration_list f (length program.names) images gs)
      iteration_polynomials = each-map (IsPolynomial ℚ (blocks t grevlex grevlex) (t + m))
          (collect rationals (blocks t grevlex grevlex)) graph
          (each_weaker (Arity (t + m)) (λ q. IsPolynomial ℚ (blocks t grevlex grevlex) (t + m)
          (collect rationals (blocks t grevlex grevlex) q))
          (λ q a. collect-polynomial ℚ_field (blocks t grevlex grevlex) O_order (t + m) q a) graph
          graph_arity)

      to_graph : (p : Terms Fraction)
          → IsMember ℚ (t + m) (iteration_list f m images gs) (in_front t p)
          → IsMember ℚ (0 + t + m) graph (in_front (0 + t) p)
      to_graph p i = subst (λ n. IsMember ℚ (n + m) graph (in_front n p)) plain
          ((reordered_members ℚ_field (blocks t grevlex grevlex) O_order (t + m) graph
          (in_front t p)).0 i)

      from_graph : (p : Terms Fraction) → IsMember ℚ (0 + t + m) graph (in_front (0 + t) p)
          → IsMember ℚ (t + m) (iteration_list f m images gs) (in_front t p)
      from_graph p i = (reordered_members ℚ_field (blocks t grevlex grevlex) O_order (t + m) graph
          (in_front t p)).1 (subst (λ n. IsMember ℚ (n + m) graph (in_front n p)) (sym plain) i)

      pub form_iteration : (ks : List (Terms Fraction))
          → IsEliminated (iteration_front f (length program.names)) (length program.names)
          (iteration_list f (length program.names) images gs) ks
          → IsOrbitAt program gs b (λ j. 1) ks
      form_iteration ks e = iteration_orbit_by program b f.since f coprime closed.form (passes f m)
          stays
          images
          at gs ks ga
          (record {
            arities = e.arities;
            only = λ p a i. to_graph p (e.only p a i);
            all = λ p a i. e.all p a (from_graph p i);
          })
