-- What the functions that count say.
--   statement_limit n, branch_limit n     why a statement behind n others is at fault, if it is; a branch
--   most_places                           so many places are counted at most
--   Limits fault at result                the answer tells the fault, at the offset at
use Rattle.std.specs.Prelude.{◌≡◌, ⊤, ℕ, suc, nat_le, Option, Some, None, Result, Ok, Err}
use Rattle.loops.specs.Limits.{most_statements, most_branches}
use Rattle.poly_text.specs.Reasons.{Reason, limit, unless}
use Rattle.poly_text.specs.declared.error.TextError.{TextError}
use Rattle.poly_text.specs.declared.error.TextError.TheVariants.{Limit}

abbrev pub most_places : ℕ
most_places = 4096

abbrev pub statement_limit : ℕ → Option Reason
statement_limit n = unless (nat_le (suc n) most_statements) limit

abbrev pub branch_limit : ℕ → Option Reason
branch_limit n = unless (nat_le (suc n) most_branches) limit

abbrev pub Limits : Option Reason → ℕ → Result ⊤ TextError → Type 0
Limits fault at (Ok u) = fault ≡ None
Limits fault at (Err e) = (fault ≡ Some limit) × (e ≡ Limit at)
