use Rattle.std.proofs.Common.{◌≡◌, ◌<◌, ℕ, get_or}
use Rattle.program_families.proofs.rests.lesser.Given as goal

abbrev pub invariant-loop-variable : goal.invariant-loop-variable
invariant-loop-variable l = record {
  same : l.exponents.items ≡ l.monomial;
  before : (k : ℕ) → k < l.variable → get_or l.exponents.items k 0 ≡ 0;
}
