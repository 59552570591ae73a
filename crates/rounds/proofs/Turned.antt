-- An element after an iteration of a branch, as an analysis has it: composed with the map collected.
--   turned_polynomial      it is a polynomial in its order
--   turned_same            it is the element composed with the map
--   map_iterations              the map's polynomials are the state after one iteration
use Rattle.std.proofs.Common.{◌≡◌, ℕ, zero, suc, ◌<◌, List, [], ◌∷◌, map, get_or, length, arith, refl, sym, ap, ap₂, subst, ◌∙◌, zero-add, Option}
use Rattle.algebra.proofs.Each.{each-map, each_weaker}
use Rattle.algebra.specs.Fraction.{Fraction, ℚ, rationals}
use Rattle.algebra.proofs.Fractions.{ℚ_ring, ℚ_field}
use Rattle.polynomials.specs.Order.{grevlex}
use Rattle.polynomials.specs.Polynomial.{Arity, AllArity, IsPolynomial}
use Rattle.polynomials.specs.Terms.{Terms, Same, AllSame, compose, value_at}
use Rattle.polynomials.proofs.Arity.{arity-compose}
use Rattle.polynomials.proofs.Composition.{same_compose}
use Rattle.polynomials.proofs.Orders.{grevlex_order}
use Rattle.polynomials.proofs.Same.{Same-refl, Same-trans}
use Rattle.polynomials.proofs.ValueAt.{value_at_same}
use Rattle.machines.specs.Collect.{collect}
use Rattle.machines.proofs.Collecting.{collect-polynomial, collect-same}
use Rattle.loops.specs.Map.{branch_map}
use Rattle.loops.specs.Program.{Expr, Program, Statement}
use Rattle.loops.proofs.Maps.{arity-branch_map}
use Rattle.rounds.specs.Analysis.{Setting, pullback}
use Rattle.rounds.specs.Form.{Form}
use Rattle.rounds.specs.Journal.{setting_from}
use Rattle.rounds.specs.Orbit.{IsFormAt}
use Rattle.rounds.specs.Word.{after_iteration}
use Rattle.rounds.proofs.BranchIterations.{iterations-are}
use Rattle.rounds.proofs.OneIteration.{no_point}

module _ {At : Type 0} (program : Program (Expr At)) (given : Option (List (Terms Fraction)))
    (forms : List Form) (asked : Option (Terms Fraction)) where
  abbrev A : Setting
  A = setting_from program given forms asked

  abbrev m : ℕ
  m = length program.names

  map_at : (bs : List (List (Statement (Expr At)))) (b : ℕ) → b < length bs
      → get_or (map (λ branch. map (collect rationals grevlex) (branch_map program branch)) bs) b []
      ≡ map (collect rationals grevlex) (branch_map program (get_or bs b []))
  map_at [] b l = absurd (omega arith)
  map_at (x ∷ bs) zero l = refl
  map_at (x ∷ bs) (suc b) l = map_at bs b (omega arith)

  collected_arity : (gs : List (Terms Fraction)) → AllArity m gs
      → AllArity m (map (collect rationals grevlex) gs)
  collected_arity gs a = each-map (Arity m) (collect rationals grevlex) gs (each_weaker (Arity m)
      (λ q. Arity m (collect rationals grevlex q)) (λ q c.
      (collect-polynomial ℚ_field grevlex grevlex_order m q c).arity) gs a)

  collected_each : (gs : List (Terms Fraction)) → AllSame ℚ (map (collect rationals grevlex) gs) gs
  unfolding AllSame
  collected_each [] = tt
  collected_each (g ∷ gs) = (collect-same ℚ_field grevlex grevlex_order g, collected_each gs)

  the_map : ℕ → List (Terms Fraction)
  the_map b = branch_map program (get_or program.branches b [])

  map_arity : (b : ℕ) → AllArity m (the_map b)
  unfolding the_map
  map_arity b = arity-branch_map program (get_or program.branches b [])

  unfolded : (b : ℕ) (g : Terms Fraction) → b < length program.branches
      → pullback A b g ≡ collect rationals grevlex
      (compose ℚ m g (map (collect rationals grevlex) (the_map b)))
  unfolding the_map
  unfolded b g l = ap (λ maps. collect rationals grevlex (compose ℚ m g maps))
      (map_at program.branches b l)

  pub turned_polynomial : (b : ℕ) (g : Terms Fraction) → b < length program.branches
      → IsPolynomial ℚ grevlex (length program.names)
      (pullback (setting_from program given forms asked) b g)
  turned_polynomial b g l = subst (IsPolynomial ℚ grevlex m) (sym (unfolded b g l))
      (collect-polynomial ℚ_field grevlex grevlex_order m _
      (arity-compose m ℚ g _ (collected_arity (the_map b) (map_arity b))))

  pub turned_same : (b : ℕ) (g : Terms Fraction) → Arity (length program.names) g
      → b < length program.branches → Same ℚ (pullback (setting_from program given forms asked) b g)
      (after_iteration program (suc b) g)
  unfolding the_map
  turned_same b g a l = subst (λ x. Same ℚ x (after_iteration program (suc b) g))
      (sym (unfolded b g l))
      (Same-trans ℚ (collect-same ℚ_field grevlex grevlex_order _)
      (same_compose ℚ_ring m m g g (map (collect rationals grevlex) (the_map b)) (the_map b) a a
      (collected_arity (the_map b) (map_arity b)) (map_arity b) (Same-refl ℚ g)
      (collected_each (the_map b))))

  -- the branch's map, collected, is an iteration
  collected_values : (gs : List (Terms Fraction)) (s : List Fraction)
      → map (λ q. value_at ℚ q s) (map (collect rationals grevlex) gs)
      ≡ map (λ q. value_at ℚ q s) gs
  collected_values [] s = refl
  collected_values (g ∷ gs) s =
      ap₂ ◌∷◌ (value_at_same ℚ_ring _ _ s (collect-same ℚ_field grevlex grevlex_order g))
      (collected_values gs s)

  pub map_iterations : (b : ℕ) → b < length program.branches → IsFormAt program (suc b) 0 no_point
      (λ n. 1) (get_or (setting_from program given forms asked).maps b [])
  unfolding the_map
  map_iterations b l =
      subst (λ fs. IsFormAt program (suc b) 0 no_point (λ n. 1) fs)
      (sym (map_at program.branches b l))
      (record {
        arities = subst (λ n. AllArity n (map (collect rationals grevlex) (the_map b)))
            (sym (zero-add m)) (collected_arity (the_map b) (map_arity b));
        iterations = λ n s st. collected_values (the_map b) s
            ∙ iterations-are program (suc b) 1 s st;
      })
