-- Exponents of variables.
--   product_fits     those of a product of two variables fit
use Rattle.std.proofs.Common.{◌≡◌, ℕ, zero, suc, ◌≤◌, List, get_or, ap, arith}
use Rattle.monos.specs.Products.{ProductFits}
use Rattle.polynomials.proofs.Exponent.{get_or-zeros}
use Rattle.solvable_maps.specs.Uses.{unit}

unit_small : (w i k : ℕ) → get_or (unit w i) k 0 ≤ 1
unit_small zero i k = omega arith
unit_small (suc w) zero zero = omega arith
unit_small (suc w) zero (suc k) = let z = get_or-zeros w k in omega (arith, z)
unit_small (suc w) (suc i) zero = omega arith
unit_small (suc w) (suc i) (suc k) = unit_small w i k

pub product_fits : (w i j : ℕ) (d : List ℕ) {e : List ℕ} → d ≡ unit w i → e ≡ unit w j
    → ProductFits d e
product_fits w i j d p q k l =
    let a = unit_small w i k in
    let b = unit_small w j k in
    let c = ap (λ xs. get_or xs k 0) p in
    let f = ap (λ xs. get_or xs k 0) q in
    omega (arith, a, b, c, f)
