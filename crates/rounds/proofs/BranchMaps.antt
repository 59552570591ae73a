-- The map of a branch.
--   branch_is_map        its polynomials are a map
use Rattle.std.proofs.Common.{◌≡◌, ℕ, List, [], ◌∷◌, map, length, refl, sym, subst, ◌∙◌}
use Rattle.std.proofs.lemmas.List.{length-map}
use Rattle.algebra.specs.Each.{Each}
use Rattle.algebra.specs.Fraction.{Fraction, rationals}
use Rattle.algebra.proofs.Fractions.{ℚ_field}
use Rattle.polynomials.specs.Order.{grevlex}
use Rattle.polynomials.specs.Polynomial.{AllArity}
use Rattle.polynomials.specs.Terms.{Terms}
use Rattle.polynomials.proofs.Orders.{grevlex_order}
use Rattle.machines.specs.Collect.{collect}
use Rattle.machines.proofs.Collecting.{collect-polynomial}
use Rattle.loops.specs.Program.{Expr, Program}
use Rattle.loops.proofs.Maps.{arity-branch_map, length-branch_map}
use Rattle.solvable_maps.specs.Uses.{IsMap}
use Rattle.rounds.specs.BranchMap.{map_of}
use Rattle.rounds.specs.Word.{branch_of}

arity-collected : (m : ℕ) (qs : List (Terms Fraction)) → AllArity m qs
    → AllArity m (map (collect rationals grevlex) qs)
unfolding Each
arity-collected m [] a = tt
arity-collected m (q ∷ qs) a = (
  (collect-polynomial ℚ_field grevlex grevlex_order m q a.0).arity,
  arity-collected m qs a.1,
)

pub branch_is_map : {At : Type 0} (l : Program (Expr At)) (b : ℕ)
    → IsMap (length (map_of l b)) (map_of l b)
unfolding map_of
branch_is_map l b =
    let size : length (map_of l b) ≡ length l.names = length-map _ _
    ∙ length-branch_map l (branch_of l b) in
    record {
      size = refl;
      arity = subst (λ n. AllArity n (map_of l b)) (sym size)
          (arity-collected (length l.names) _ (arity-branch_map l (branch_of l b)));
    }
