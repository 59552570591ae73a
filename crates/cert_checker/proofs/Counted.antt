-- The maps and the forms that are counted, in the words of the definition.
--   collected          polynomials that are the same as others are those, collected
--   map_is             so is the map of a branch
--   meet_behind, meet_not     a later branch has an intersection, the first has none
use Rattle.std.proofs.Common.{◌≡◌, ◌<◌, ℕ, zero, suc, List, [], ◌∷◌, map, get_or, length, All, refl, sym, ap, ap₂, ◌∙◌, arith, true, false, true≢false}
use Rattle.std.specs.Prelude.{is_some, Vec}
use Rattle.std.specs.declared.alloc.Global.{Global}
use Rattle.std.proofs.lemmas.List.Elements.{All-head, All-tail}
use Rattle.algebra.specs.Each.{Each}
use Rattle.algebra.specs.Fraction.{Fraction, ℚ, rationals}
use Rattle.algebra.proofs.Fractions.{ℚ_field}
use Rattle.polynomials.specs.Order.{grevlex}
use Rattle.polynomials.specs.Polynomial.{AllArity, IsPolynomial}
use Rattle.polynomials.specs.Terms.{Terms, AllSame}
use Rattle.polynomials.proofs.Orders.{grevlex_order}
use Rattle.machines.specs.Collect.{collect}
use Rattle.machines.proofs.Collecting.{collect-is}
use Rattle.loops.specs.Program.{Expr, Program}
use Rattle.loops.specs.Map.{branch_map}
use Rattle.loops.proofs.Maps.{arity-branch_map}
use Rattle.rounds.specs.BranchMap.{map_of}
use Rattle.poly.specs.Seen.{terms_each}
use Rattle.loop_model.specs.FracPoly.{FracPoly}
use Rattle.loop_model.specs.Maps.{IsBranchMap}
use Rattle.corollaries.specs.Counts.{IsCounted, no_branch}
use Rattle.corollaries.specs.Full.{FullCertificate}
use Rattle.cert_checker.proofs.VerdictLaws.{map_of as map_of_branch}

pub collected : (m : ℕ) (qs ps : List (Terms Fraction)) → All (IsPolynomial ℚ grevlex m) qs
    → AllArity m ps → AllSame ℚ qs ps → qs ≡ map (collect rationals grevlex) ps
unfolding AllSame Each
collected m [] [] h a s = refl
collected m [] (p ∷ ps) h a s = absurd s
collected m (q ∷ qs) [] h a s = absurd s
collected m (q ∷ qs) (p ∷ ps) h a s =
    ap₂ ◌∷◌ (collect-is ℚ_field grevlex grevlex_order m p q a.0
    (All-head (IsPolynomial ℚ grevlex m) q qs h) s.0)
    (collected m qs ps (All-tail (IsPolynomial ℚ grevlex m) q qs h) a.1 s.1)

pub map_is : (program : Program (Expr ℕ)) (b : ℕ) (images : Vec FracPoly Global)
    → IsBranchMap program images (get_or program.branches b [])
    → terms_each images.items ≡ map_of program (suc b)
unfolding map_of
map_is program b images stands =
    let m = length program.names in
    let maps = branch_map program (get_or program.branches b []) in
    let is = map_of_branch m images.items maps stands in
    collected m (terms_each images.items) maps is.polynomials
    (arity-branch_map program (get_or program.branches b [])) is.same

module _ (program : Program (Expr ℕ)) (c : FullCertificate) (counted : IsCounted program c) where
  pub meet_behind : (r b : ℕ) → r < length c.rounds → b < length program.branches
      → is_some (get_or (get_or c.rounds r []) b no_branch).meet_stage ≡ true → 0 < b
  meet_behind r zero k l e = absurd (true≢false (sym e ∙ ap is_some (counted.first r k l)))
  meet_behind r (suc b) k l e = omega arith

  pub meet_not : (r b : ℕ) → r < length c.rounds → b < length program.branches
      → is_some (get_or (get_or c.rounds r []) b no_branch).meet_stage ≡ false → b ≡ 0
  meet_not r zero k l e = refl
  meet_not r (suc b) k l e =
      absurd (true≢false (sym (counted.others r (suc b) k (omega arith) l) ∙ e))
