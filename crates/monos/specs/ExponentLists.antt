-- The exponents of a monomial as a list by value: in place, or where they stand.
--   items_of l          the exponents
--   IsProperList l      those in place are at most 16, or 32
use Rattle.std.specs.Prelude.{◌≤◌, ℕ, List, take, ⊤}
use Rattle.monos.specs.Variables.{most_inline, most_double}
use Rattle.monos.specs.declared.exponents.ExponentList.{ExponentList}
use Rattle.monos.specs.declared.exponents.ExponentList.TheVariants.{InPlace, InTwo, Behind}

abbrev pub items_of : ExponentList → List ℕ
items_of (InPlace list count) = take count list
items_of (InTwo list count) = take count list
items_of (Behind list) = list.now

abbrev pub IsProperList : ExponentList → Type 0
IsProperList (InPlace list count) = count ≤ most_inline
IsProperList (InTwo list count) = count ≤ most_double
IsProperList (Behind list) = ⊤
