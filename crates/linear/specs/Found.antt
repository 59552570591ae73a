-- What is found of a row, beside rows as the code has them: none where these leave nothing of it.
--   LeavesNothing rows row          rows leave nothing of row
--   IsFreshOrLeft rows row found    the column and the row that IsFresh tells, or none
--   IsAddedOrLeft rows row found    the rows that IsAdded tells, or none
use Rattle.std.specs.Prelude.{◌≡◌, ℕ, List, length, Option, MatchOption}
use Rattle.std.specs.declared.alloc.Global.{Global}
use Rattle.std.specs.declared.vec.Vec.{Vec}
use Rattle.frac128.specs.declared.fraction.Frac.{Frac}
use Rattle.vectors.specs.Adding.{lead, reduce_row}
use Rattle.linear.specs.Rows.{fractions_of, rows_of}
use Rattle.linear.specs.Parts.{IsFresh, IsAdded}

module _ (rows : List (Vec Frac Global)) (row : List Frac) where
  abbrev pub LeavesNothing : Type 0
  LeavesNothing = lead (reduce_row (rows_of rows) (fractions_of row)) ≡ length row

  abbrev pub IsFreshOrLeft : Option (ℕ × Vec Frac Global) → Type 0
  IsFreshOrLeft found = MatchOption found LeavesNothing
      (λ f. IsFresh (rows_of rows) (fractions_of row) f.0 (fractions_of f.1.items))

  abbrev pub IsAddedOrLeft : Option (Vec (Vec Frac Global) Global) → Type 0
  IsAddedOrLeft found = MatchOption found LeavesNothing (λ more.
      IsAdded (rows_of rows) (fractions_of row) (rows_of more.items))
