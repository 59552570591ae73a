-- The inverse of a matrix of forms, and where it may stop since numbers don't fit.
--   IsBehind forms back     back stands behind the identity in the echelon list of the forms beside the identity
--   IsPastInverse forms     adding a form, with its row of the identity behind it, to the echelon list of those before it is past
use Rattle.std.specs.Prelude.{◌≡◌, ◌+◌, ◌<◌, ℕ, List, ◌++◌, take, drop, map, length}
use Rattle.algebra.specs.Fraction.{Fraction}
use Rattle.vectors.specs.Adding.{IsEchelonOf, IsPastTarget}
use Rattle.vectors.specs.Causes.{row_at}
use Rattle.solvable_maps.specs.Inverse.{unit_list, beside}

pub record IsBehind (forms back : List (List Fraction)) : Type 0 where
  pub echelon : List (List Fraction)
  pub is : IsEchelonOf (length forms + length forms) (beside (length forms) 0 forms) echelon
  pub behind : back ≡ map (drop (length forms)) echelon

pub record IsPastInverse (forms : List (List Fraction)) : Type 0 where
  pub place : ℕ
  pub within : place < length forms
  pub echelon : List (List Fraction)
  pub is : IsEchelonOf (length forms + length forms) (beside (length forms) 0 (take place forms))
      echelon
  pub target : ℕ
  pub past : IsPastTarget echelon (row_at forms place ++ unit_list (length forms) place) target
