-- The maps of a loop, and where they stop.
--   loop_unformed, branch_unformed     a refusal of the branches, as that of the loop
--   maps_formed, maps_square           the maps of all branches, each of which has as many polynomials as variables
use Rattle.std.proofs.Common.{◌≡◌, ℕ, suc, ◌<◌, ◌≤◌, List, [], ◌∷◌, All, map, length, get_or, refl, sym, ap₂, subst, ◌∙◌, arith, Vec, Global}
use Rattle.algebra.specs.Each.{Each}
use Rattle.std.proofs.lemmas.List.{get_or_default}
use Rattle.algebra.specs.Fraction.{Fraction, ℚ, rationals}
use Rattle.algebra.proofs.Fractions.{ℚ_field}
use Rattle.polynomials.specs.Order.{grevlex}
use Rattle.polynomials.specs.Polynomial.{AllArity, IsPolynomial}
use Rattle.polynomials.specs.Terms.{Terms}
use Rattle.polynomials.proofs.Orders.{grevlex_order}
use Rattle.machines.specs.Collect.{collect}
use Rattle.machines.proofs.Collecting.{collect-is}
use Rattle.loops.specs.Map.{branch_map}
use Rattle.loops.specs.Program.{Expr, Program}
use Rattle.loops.proofs.Maps.{arity-branch_map, length-branch_map}
use Rattle.poly.specs.Seen.{terms_in, terms_each}
use Rattle.poly.specs.Standing.{AllStandFor}
use Rattle.poly.proofs.Standing.{stands_length, stands_over}
use Rattle.loop_model.specs.FracPoly.{FracPoly as Polynomial}
use Rattle.loop_model.specs.Limits.{names_limit}
use Rattle.loop_model.specs.Operations.{IsFree}
use Rattle.ideal_ops.specs.Calls.{AreOver}
use Rattle.loop_model.proofs.OperationLaws.{stops_behind}
use Rattle.loop_model.specs.Maps.{start_operations, branches_operations, AreBranchMaps}
use Rattle.loop_model.proofs.BranchMaps.{maps_count, map_at}
use Rattle.loop_model.proofs.MapsFormed.{free_all}
use Rattle.rounds.specs.BranchMap.{map_of}
use Rattle.invariant_fix.specs.declared.errors.AnalyseError.{AnalyseError}
use Rattle.invariant_fix.specs.declared.errors.AnalyseError.TheVariants.{Map, Branch, Limit, Wide, Budget, Memory}
use Rattle.invariant_fix.specs.Refusals.{IfUnformed, IfUnformedLoop, IfRefusedBranch}
use Rattle.invariant_fix.specs.Setting.{IsMapIn, AreMaps, IsSquare}

module _ (program : Program (Expr ℕ)) where
  abbrev m : ℕ
  m = length program.names

  pub loop_unformed : (e : AnalyseError) → IsFree (length program.names) (start_operations program)
      → IfUnformed program e → IfUnformedLoop program e
  loop_unformed (Map e) free h = (h.0, stops_behind m _ _ e free h.1)
  loop_unformed (Branch b e) free h = (free_all program free h.0, h.1)
  loop_unformed (Limit task) free h = absurd h
  loop_unformed (Wide task) free h = absurd h
  loop_unformed Budget free h = absurd h
  loop_unformed Memory free h = tt

  pub branch_unformed : (e : AnalyseError)
      → IsFree (length program.names) (branches_operations program) → IfRefusedBranch program e
      → IfUnformed program e
  branch_unformed (Map e) free h = absurd h
  branch_unformed (Branch b e) free h = (free, h)
  branch_unformed (Limit task) free h = absurd h
  branch_unformed (Wide task) free h = absurd h
  branch_unformed Budget free h = absurd h
  branch_unformed Memory free h = tt

  -- ---- the maps of the branches
  polynomial_of : (p : Polynomial) → p.arity ≡ m → IsPolynomial ℚ grevlex m (terms_in p)
  polynomial_of p e = subst (λ n. IsPolynomial ℚ grevlex n (terms_in p)) e p.polynomial

  collected : (ps : List Polynomial) (qs : List (Terms Fraction)) → AllArity m qs
      → AllStandFor m ps qs → terms_each ps ≡ map (collect rationals grevlex) qs
  unfolding Each
  collected [] [] a h = refl
  collected [] (q ∷ qs) a h = absurd h
  collected (p ∷ ps) [] a h = absurd h
  collected (p ∷ ps) (q ∷ qs) a h =
      ap₂ ◌∷◌ (collect-is ℚ_field grevlex grevlex_order m q (terms_in p) a.0
      (polynomial_of p h.0.arity) h.0.same) (collected ps qs a.1 h.1)

  map_formed : (images : Vec Polynomial Global) (b : ℕ)
      → AllStandFor (length program.names) images.items
      (branch_map program (get_or program.branches b [])) → IsMapIn program (suc b) images
  unfolding map_of
  map_formed images b h =
      let qs = branch_map program (get_or program.branches b []) in
      record {
        count = stands_length m images.items qs h
            ∙ length-branch_map program (get_or program.branches b []);
        arity = stands_over m images.items qs h;
        is = collected images.items qs (arity-branch_map program (get_or program.branches b [])) h;
      }

  -- the maps as the loop gives them
  pub maps_formed : {maps : List (Vec Polynomial Global)}
      → AreBranchMaps program maps program.branches → AreMaps program maps
  maps_formed {maps = maps} h = record {
    count = maps_count program maps h;
    each = λ b d l. let inside : b < length maps =
        (let c = maps_count program maps h in omega (arith, c, l)) in
        map_formed (get_or maps b d) b
        (map_at program maps (get_or maps b d) b h l
        (get_or_default maps b d (get_or maps b d) inside));
  }

  pub maps_square : (maps : List (Vec Polynomial Global)) → 1 ≤ m → m ≤ names_limit
      → AreMaps program maps → All (λ (images : Vec Polynomial Global). IsSquare images.items) maps
  maps_square maps some few h = λ b d l.
      let is = h.each b d (let c = h.count in omega (arith, c, l)) in
      let n = is.count in
      record {
        some = omega (arith, n, some);
        few = omega (arith, n, few);
        arity = subst (λ k. AreOver k (get_or maps b d).items) (sym n) is.arity;
      }
