-- The names of unknowns, which no variable may have.
--   unknown_name k          that of the unknown k, counted from 0: any1, any2, ..;  unknown_names a: of a unknowns
--   HasNoUnknown names      none of the names is one of them
use Rattle.std.specs.Prelude.{◌≡◌, ℕ, suc, List, ◌++◌, map, None, codes, decimal}
use Rattle.exponentials.specs.Table.{numbers}
use Rattle.loop_model.specs.Names.{place_of}

abbrev pub unknown_name : ℕ → List ℕ
unknown_name k = codes "any" ++ decimal (suc k)

abbrev pub unknown_names : ℕ → List (List ℕ)
unknown_names a = map unknown_name (numbers 0 a)

abbrev pub HasNoUnknown : List (List ℕ) → Type 0
HasNoUnknown names = (k : ℕ) → place_of names (unknown_name k) ≡ None
