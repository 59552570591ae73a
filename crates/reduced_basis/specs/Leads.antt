-- Leads that others divide, by the leads alone.
--   AreLong ds                  all have as many exponents
--   first_divisor may k ds e    the place of the first of the ds, which stand from place k on, that divides e and whose place `may` be used
--   redundant_from ds i rest    of the rest of the ds, from place i on, the place of the first that another one divides
use Rattle.std.specs.Prelude.{◌≡◌, ℕ, suc, Bool, ◌&&◌, cond, is_some, List, [], ◌∷◌, length, All, Option, Some, None}
use Rattle.machines.specs.Cut.{divides}
use Rattle.machines.specs.Tidying.{others}

abbrev pub AreLong : List (List ℕ) → Type 0
AreLong ds = All (λ e. All (λ d. length d ≡ length e) ds) ds

unfoldable pub first_divisor : (ℕ → Bool) → ℕ → List (List ℕ) → List ℕ → Option ℕ
first_divisor may k [] e = None
first_divisor may k (d ∷ ds) e =
    cond (may k && divides d e) (Some k) (first_divisor may (suc k) ds e)

unfoldable pub redundant_from : List (List ℕ) → ℕ → List (List ℕ) → Option ℕ
redundant_from ds i [] = None
redundant_from ds i (e ∷ rest) =
    cond (is_some (first_divisor (others i) 0 ds e)) (Some i) (redundant_from ds (suc i) rest)
