-- What parts of a polynomial's text a call prints.
--   joined_behind between fs   the factors with * between each two, and before the first where something stands there
use Rattle.std.specs.Prelude.{Bool, true, false, ℕ, List, ◌++◌, codes}
use Rattle.std.specs.List.{flat_map}
use Rattle.poly_text.specs.Printed.{product_text}

abbrev pub joined_behind : Bool → List (List ℕ) → List ℕ
joined_behind true fs = flat_map (λ f. codes "*" ++ f) fs
joined_behind false fs = product_text fs
