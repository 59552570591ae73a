-- The sizes of checked whole numbers, and of the numbers of their base.
--   positive_sizes    the sizes of positive numbers are above 0
use Rattle.std.proofs.Common.{◌<◌, ◌≤◌, ◌^◌, ℕ, ℤ, pos, ◌<ℤ◌, List, [], ◌∷◌, unsigned_abs, All, arith}
use Rattle.algebra.specs.Each.{Each}
use Rattle.exponentials.specs.Base.{Divides, IsTheBase}
use borrow.Author.Differences.{ints}
use native.Mathlib.Nat as N
use Rattle.algebra.proofs.In.{each_in}
use Rattle.exponentials.proofs.Lists.{each_map}
use Rattle.exponentials.proofs.Orders.{all-each, each-all}
use Rattle.frac128.specs.declared.Whole.{Whole}
use Rattle.coprime_base.specs.Sizes.{sizes, ArePositive}

some_size : (z : ℤ) → pos 0 <ℤ z → 0 < unsigned_abs z
some_size z h = grind (arith, ints)

pub positive_sizes : (ws : List Whole) → ArePositive ws → Each (λ x. 0 < x) (sizes ws)
unfolding Each
positive_sizes ws h = go ws (all-each (λ (w : Whole). pos 0 <ℤ w.value) ws h)
  where
    go : (ws : List Whole) → Each (λ (w : Whole). pos 0 <ℤ w.value) ws
        → Each (λ x. 0 < x) (sizes ws)
    go [] e = tt
    go (w ∷ ws) e = (some_size w.value e.0, go ws e.1)

small_sizes : (ws : List Whole) → Each (λ x. x < 2 ^ 127) (sizes ws)
unfolding Each
small_sizes [] = tt
small_sizes (w ∷ ws) = (w.in_range, small_sizes ws)

pub base_small : (ws : List Whole) (bs : List ℕ) → ArePositive ws → IsTheBase (sizes ws) bs
    → All (λ b. b < 2 ^ 127) bs
base_small ws bs h is = each-all (λ b. b < 2 ^ 127) bs (each_map bs (λ b d. small b d) is.divides)
  where
    small : (b : ℕ) → Divides (sizes ws) b → b < 2 ^ 127
    small b d =
        let big : d.number < 2 ^ 127 = each_in (λ x. x < 2 ^ 127) (sizes ws) d.number
        (small_sizes ws) d.within in
        let some : 0 < d.number = each_in (λ x. 0 < x) (sizes ws) d.number (positive_sizes ws h)
        d.within in
        let le : b ≤ d.number = N.le_of_dvd some d.divides in
        omega (arith, big, le)
