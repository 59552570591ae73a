-- The list that an analysis starts with.
--   StandForStart program values    the values stand for those of the variables at a start
--   AreStarts program gs        the gs are the polynomials of the start list, collected
--   value_less m i p            the variable i of m variables, less p, collected
--   IsWithout i p               no monomial of p has the variable i
--   AreOver m ps                each of the ps has m variables
use Rattle.std.specs.Prelude.{◌≡◌, ℕ, List, ◌++◌, All, length, map, get_or}
use Rattle.algebra.specs.Fraction.{Fraction, ℚ, rationals}
use Rattle.polynomials.specs.Order.{grevlex}
use Rattle.polynomials.specs.Terms.{Terms, negate}
use Rattle.machines.specs.Collect.{collect}
use Rattle.loops.specs.Map.{start_map}
use Rattle.loops.specs.Program.{Expr, Program}
use Rattle.poly.specs.Seen.{terms_each}
use Rattle.poly.specs.Standing.{AllStandFor}
use Rattle.rounds.specs.Form.{variable_at}
use Rattle.rounds.specs.Start.{start_list}
use Rattle.loop_model.specs.FracPoly.{FracPoly}

abbrev pub StandForStart : Program (Expr ℕ) → List FracPoly → Type 0
StandForStart program values = AllStandFor (length program.names) values (start_map program)

abbrev pub AreStarts : Program (Expr ℕ) → List FracPoly → Type 0
AreStarts program gs = terms_each gs ≡ map (collect rationals grevlex) (start_list program)

abbrev pub value_less : ℕ → ℕ → Terms Fraction → Terms Fraction
value_less m i p = collect rationals grevlex (variable_at m i ++ negate ℚ p)

abbrev pub IsWithout : ℕ → Terms Fraction → Type 0
IsWithout i p = All (λ t. get_or t.0 i 0 ≡ 0) p

abbrev pub AreOver : ℕ → List FracPoly → Type 0
AreOver m ps = All (λ p. p.arity ≡ m) ps
