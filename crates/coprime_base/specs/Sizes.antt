-- What is said of checked whole numbers above zero.
--   sizes ws         their sizes
--   ArePositive ws   each is above zero
--   Makes ws e x     the product of their powers with the exponents e is x
use Rattle.std.specs.Prelude.{◌≡◌, ℕ, ℤ, pos, ◌<ℤ◌, List, map, unsigned_abs, All}
use Rattle.exponentials.specs.Powers.{number}
use Rattle.frac128.specs.declared.Whole.{Whole}
use Rattle.frac128.specs.declared.fraction.Frac.{Frac}
use Rattle.frac128.specs.FracMeaning.{fraction_of}

abbrev pub sizes : List Whole → List ℕ
sizes ws = map (λ (w : Whole). unsigned_abs w.value) ws

abbrev pub ArePositive : List Whole → Type 0
ArePositive ws = All (λ (w : Whole). pos 0 <ℤ w.value) ws

abbrev pub Makes : List Whole → List ℤ → Frac → Type 0
Makes ws e x = number (sizes ws) e ≡ fraction_of x
