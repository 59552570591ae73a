-- The map of one variable that leaves it as it is: that of ScaledMap with the number 1.
--   still               the map
--   still_solvable      no variable uses itself non-linearly;  still_passes, still_short: its class passes, and isn't too long
--   still_base_is       the base of its eigenvalues is empty
--   turned              its closed form, which is normal;  same_iterations: it is the state after so many iterations
--   still_unrefused     it has no cause of a refusal
use Rattle.std.proofs.Common.{◌≡◌, ℕ, List, [], ◌∷◌, length}
use Rattle.algebra.specs.Fraction.{Fraction}
use Rattle.polynomials.specs.Order.{grevlex}
use Rattle.polynomials.specs.Terms.{Terms}
use Rattle.solvable_maps.specs.Dependency.{IsNonlinearCycle}
use Rattle.solvable_maps.specs.Classes.{IsClass, Passes, IsFormBase}
use Rattle.solvable_maps.specs.Iterations.{IsNormalForm, point, iterations, values_at}
use Rattle.solvable_maps.specs.Uses.{uses, strongly}
use Rattle.closed_forms.specs.Refusal.{Refusal, IfFormRefused}
use Rattle.closed_forms.specs.Lengths.{IsShort}
use Rattle.analysis_commands.proofs.ScaledMap as map
use Rattle.analysis_commands.proofs.ScaledMap.{one, scaled, scaled_solvable, scaled_passes, scaled_short, scaled_base_is}
use Rattle.analysis_commands.proofs.ScaledNumbers.{one_scaled, one_narrow}
use Rattle.analysis_commands.proofs.ScaledUnrefused.{scaled_unrefused}

abbrev pub still : List (Terms Fraction)
still = scaled one

abbrev key : List ℕ
key = 0 ∷ 0 ∷ 1 ∷ []

abbrev pub turned : Terms Fraction
turned = (0 ∷ 0 ∷ 1 ∷ [], one) ∷ []

pub still_solvable : (vs : List ℕ) → IsNonlinearCycle (uses still) (strongly still) vs → ⊥
still_solvable = scaled_solvable one

pub still_short : IsShort still
still_short = scaled_short one

pub still_passes : (g : List ℕ) → IsClass still g → Passes still g
still_passes = scaled_passes one

pub still_base_is : IsFormBase still []
still_base_is = scaled_base_is one [] key one_scaled

pub turned_normal : IsNormalForm [] grevlex 1 turned
turned_normal = one_scaled.normal

pub same_iterations : (n : ℕ) (s : List Fraction) → length s ≡ 1
    → values_at (turned ∷ []) (point [] n s) ≡ iterations still n s
same_iterations = map.same_iterations one [] key one_scaled

pub still_unrefused : (r : Refusal) → IfFormRefused still r → ⊥
still_unrefused = scaled_unrefused one [] key one_scaled one_narrow
